use Rattle.std.proofs.Common.{◌≡◌, ◌+◌, ◌∙◌, Err, None, Some, inr, ap, is_some, length, subst, sym}
use Rattle.std.specs.List.{sum_by}
use Rattle.blob_digest.specs.Names.{tenant_name}
use Rattle.store_model.specs.Catalog.{HandRecord}
use Rattle.store_model.specs.Histories.{PutBackCall}
use Rattle.locked_book.specs.History.{Adds}
use Rattle.locked_book.specs.Logging.{finish_bytes, seal_bytes, is_beyond}
use Rattle.locked_book.specs.declared.policy.LogPolicy.{LogPolicy}
use Rattle.locked_book.proofs.Returns.{holds_taken}
use Rattle.blob_store.proofs.FilledRecords.{finish_recorded, emptied, in_file, taken_open}
use Rattle.blob_store.proofs.store.Store.close_by.Goals as goal

pub finish-requires-clause-bytes : goal.finish-requires-clause-bytes
finish-requires-clause-bytes g c =
    let names = g.S.Naming.names in
    let taken = c.in_ok-hand.hand in
    let bytes = c.args.bytes.now in
    let was = taken_open c.deref_mut.result.now c.take.new.self c.args.repo.now c.args.number c.args.range (length bytes) taken c.in_ok-hand.ensures.does in
    let long : c.len_after-2.result ≡ sum_by length taken.chunks + length bytes =
    c.len_after-2.ensures ∙ ap (λ (h : HandRecord). sum_by length h.chunks + h.reserved) c.in-Ok.ensures.ok ∙ ap (λ n. sum_by length taken.chunks + n) was.0 in
    let noted = c.notes_if-notes.ensures.there ∙ in_file c.home_of-home.result names.longest c.len_after-2.result c.home_of-home.ensures ∙ ap (is_beyond names.longest) long in
    c.in-Ok-seal_record.ensures.made
    ∙ ap (λ (p : LogPolicy). seal_bytes p (is_some c.notes_if-notes.result) (tenant_name c.args.repo.now) c.args.number c.args.digest.now bytes) c.self.invariant.1
    ∙ finish_recorded names.policy names.longest taken c.args.repo.now c.args.number (is_some c.notes_if-notes.result) c.in_ok-hand.ensures.names c.args.digest.now bytes noted
    ∙ ap (λ (h : HandRecord). finish_bytes names.policy names.longest h c.args.digest.now) (sym c.in-Ok.ensures.ok)

pub finish-requires-clause-held : goal.finish-requires-clause-held
finish-requires-clause-held g c =
    holds_taken c.args.desk.now.trace.own c.take.new.desk.trace.own c.args.repo.now c.args.number c.args.range (length c.args.bytes.now) c.in_ok-hand.hand c.in-Ok.hand (Some c.args.bytes.now)
    c.in_ok-hand.ensures.makes.adds.own c.in-Ok.ensures.ok

pub returns-clause-steps : goal.returns-clause-steps
returns-clause-steps g c =
    let taken = c.in_ok-hand.hand in
    let bytes = c.args.bytes.now in
    let was = taken_open c.deref_mut.result.now c.take.new.self c.args.repo.now c.args.number c.args.range (length bytes) taken c.in_ok-hand.ensures.does in
    let same = emptied taken c.in-Ok.hand c.unfill.result bytes was.1 c.in-Ok.ensures.ok c.unfill.ensures in
    inr (inr (
      (λ i. Err (c.in-Err-seal_record.ensures.refused i)),
      record {
        hand = taken;
        mid = c.take.new.desk.trace;
        back = c.cancel-in-Err-seal_record.result;
        take = c.in_ok-hand.ensures.makes.adds;
        put_back = subst (λ (h : HandRecord). Adds g.S.Naming.names.opening c.take.new.desk.trace (PutBackCall h c.cancel-in-Err-seal_record.result) c.cancel-in-Err-seal_record.new.desk.trace) same c.cancel-in-Err-seal_record.ensures.makes.adds;
      },
    ))
