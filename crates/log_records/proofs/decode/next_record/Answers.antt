use Rattle.std.proofs.Common.{◌≡◌, ◌<◌, ◌≤◌, ◌++◌, ◌∙◌, ap, sym, subst, arith, inl, length, [], refl}
use Rattle.std.proofs.lemmas.Grind.{common_steps}
use Rattle.std.proofs.lemmas.List.{take-append-drop}
use Rattle.log_records.specs.Changes.{Change, change_of, change_view}
use Rattle.log_records.specs.Decoding.{CutOff, End, IsCutOff, IsNext, Malformed, Next, Record, UnknownKind}
use Rattle.log_records.specs.Records.{head_bytes, payload_len, parts_in}
use Rattle.log_records.proofs.Nexts.{one_next}
use Rattle.log_records.proofs.Reading.{is_cut_off, is_malformed, is_record, is_unknown}
use Rattle.log_records.proofs.decode.next_record.Goals as goal

pub returns-then-is_empty-clause-only : goal.returns-then-is_empty-clause-only
returns-then-is_empty-clause-only c n b =
    let none : c.args.bytes.now ≡ [] = grind (arith, common_steps) in
    one_next c.args.bytes.now End n none b

pub returns-then-bytes-lt-HEAD_LEN-clause-only : goal.returns-then-bytes-lt-HEAD_LEN-clause-only
returns-then-bytes-lt-HEAD_LEN-clause-only c n b =
    let some : 0 < length c.args.bytes.now = grind (arith, common_steps) in
    one_next c.args.bytes.now CutOff n (record { some = some; part = inl c.if-bytes-lt-HEAD_LEN.true }) b

pub returns-in-None-clause-only : goal.returns-in-None-clause-only
returns-in-None-clause-only c n b =
    let head = c.split_head.result.0 in
    let unknown = is_unknown head c.args.bytes.now c.split_head.result.1.now c.split_head.ensures.fits c.split_head.ensures.bytes (c.in-None.ensures.unknown refl) in
    one_next c.args.bytes.now (UnknownKind head.kind) n unknown b

pub returns-then-not-is_plain-clause-only : goal.returns-then-not-is_plain-clause-only
returns-then-not-is_plain-clause-only c n b =
    let malformed = is_malformed c.in-Some.kind c.split_head.result.0 c.args.bytes.now c.split_head.result.1.now c.split_head.ensures.fits c.split_head.ensures.bytes c.in-Some.ensures.known (c.is_plain.ensures.no c.if-not-is_plain.true) in
    one_next c.args.bytes.now Malformed n malformed b

pub returns-then-rest-len-clause-next : goal.returns-then-rest-len-clause-next
returns-then-rest-len-clause-next c =
    is_cut_off c.in-Some.kind c.split_head.result.0 c.args.bytes.now c.split_head.result.1.now c.split_head.ensures.fits c.split_head.ensures.bytes c.in-Some.ensures.known (c.is_plain.ensures.yes c.if-not-is_plain.false) (omega arith)

pub returns-then-rest-len-clause-only : goal.returns-then-rest-len-clause-only
returns-then-rest-len-clause-only c n b = one_next c.args.bytes.now CutOff n (returns-then-rest-len-clause-next c) b

pub returns-clause-next : goal.returns-clause-next
returns-clause-next c =
    let rest = c.split_head.result.1.now in
    let payload = c.split_at.result.0.now in
    let whole : payload ++ c.split_at.result.1.now ≡ rest = rw (c.split_at.ensures.front, c.split_at.ensures.back) (take-append-drop _ rest) in
    let len : length payload ≡ payload_len c.split_head.result.0 = c.split_at.ensures.front_len ∙ c.payload_len-len.ensures in
    let read = is_record c.in-Some.kind c.split_head.result.0 c.args.bytes.now payload c.split_at.result.1.now c.split_head.ensures.fits (c.split_head.ensures.bytes ∙ ap (λ t. head_bytes c.split_head.result.0 ++ t) (sym whole)) c.in-Some.ensures.known (c.is_plain.ensures.yes c.if-not-is_plain.false) len in
    let same : change_view c.change_of.result ≡ change_of (parts_in c.in-Some.kind c.split_head.result.0 payload) = c.change_of.ensures ∙ ap change_of c.parts_in.ensures in
    subst (λ (d : Change). IsNext c.args.bytes.now (Record d c.split_at.result.1.now)) (sym same) read

pub returns-clause-only : goal.returns-clause-only
returns-clause-only c n b = one_next c.args.bytes.now (Record (change_view c.change_of.result) c.split_at.result.1.now) n (returns-clause-next c) b
