use Rattle.std.proofs.Common.{◌≡◌, ◌+◌, ◌∙◌, Err, None, Some, Ok, inr, ap, is_some, length, refl, subst, sym, true}
use Rattle.std.specs.List.{sum_by}
use Rattle.blob_digest.specs.Names.{tenant_name}
use Rattle.content_files.specs.Chunks.{read_notes}
use Rattle.store_model.specs.Catalog.{HandRecord}
use Rattle.store_model.specs.Histories.{PutBackCall, TakeCall}
use Rattle.locked_book.specs.History.{Adds}
use Rattle.locked_book.specs.Logging.{finish_bytes, seal_bytes, is_beyond}
use Rattle.locked_book.specs.declared.policy.LogPolicy.{LogPolicy}
use Rattle.locked_book.proofs.Returns.{holds_taken}
use Rattle.blob_store.proofs.FilledRecords.{finish_recorded, emptied, in_file, taken_open}
use Rattle.blob_store.proofs.store.Store.close_noted.Goals as goal

pub finish-requires-clause-bytes : goal.finish-requires-clause-bytes
finish-requires-clause-bytes g c =
    let names = g.S.Naming.names in
    let taken = c.in_ok-hand.hand in
    let chunk = read_notes c.args.notes.now in
    let was = taken_open c.deref_mut.result.now c.take.new.self c.args.repo.now c.args.number None c.args.len taken c.in_ok-hand.ensures.does in
    let long : c.len_after.result ≡ sum_by length taken.chunks + length chunk =
    c.len_after.ensures ∙ ap (λ (h : HandRecord). sum_by length h.chunks + h.reserved) c.in-Ok.ensures.ok ∙ ap (λ n. sum_by length taken.chunks + n) (was.0 ∙ sym c.requires) in
    let noted : true ≡ is_beyond names.longest (sum_by length taken.chunks + length chunk) =
    sym (ap is_some c.in-Some.is) ∙ c.notes_if.ensures.there ∙ in_file c.home_of-home.result names.longest c.len_after.result c.home_of-home.ensures ∙ ap (is_beyond names.longest) long in
    let made = c.in-Ok-noted_seal_record.ensures.made chunk (c.in-Ok.ensures.noted ∙ sym c.in-Some.ensures.same) in
    made ∙ ap (λ (p : LogPolicy). seal_bytes p true (tenant_name c.args.repo.now) c.args.number c.args.digest.now chunk) c.self.invariant.1
    ∙ finish_recorded names.policy names.longest taken c.args.repo.now c.args.number true c.in_ok-hand.ensures.names c.args.digest.now chunk noted
    ∙ ap (λ (h : HandRecord). finish_bytes names.policy names.longest h c.args.digest.now) (sym c.in-Ok.ensures.ok)

pub finish-requires-clause-held : goal.finish-requires-clause-held
finish-requires-clause-held g c =
    holds_taken c.args.desk.now.trace.own c.take.new.desk.trace.own c.args.repo.now c.args.number None c.args.len c.in_ok-hand.hand c.in-Ok.hand (Some (read_notes c.args.notes.now))
    c.in_ok-hand.ensures.makes.adds.own c.in-Ok.ensures.ok

pub returns-in_default : goal.returns-in_default
returns-in_default g c =
    let taken = c.in_ok-hand.hand in
    let chunk = read_notes c.args.notes.now in
    let was = taken_open c.deref_mut.result.now c.take.new.self c.args.repo.now c.args.number None c.args.len taken c.in_ok-hand.ensures.does in
    let same = emptied taken c.in-Ok.hand c.unfill.result chunk was.1 c.in-Ok.ensures.ok c.unfill.ensures in
    record {
      steps = inr (inr (
        refl,
        record {
          hand = taken;
          mid = c.take.new.desk.trace;
          back = c.cancel-in_default.result;
          take = subst (λ n. Adds g.S.Naming.names.opening c.args.desk.now.trace (TakeCall c.args.repo.now c.args.number None n (Ok taken)) c.take.new.desk.trace) (sym c.requires) c.in_ok-hand.ensures.makes.adds;
          put_back = subst (λ (h : HandRecord). Adds g.S.Naming.names.opening c.take.new.desk.trace (PutBackCall h c.cancel-in_default.result) c.cancel-in_default.new.desk.trace) same c.cancel-in_default.ensures.makes.adds;
        },
      ));
    }

pub returns-in-Err-noted_seal_record : goal.returns-in-Err-noted_seal_record
returns-in-Err-noted_seal_record g c =
    let taken = c.in_ok-hand.hand in
    let chunk = read_notes c.args.notes.now in
    let was = taken_open c.deref_mut.result.now c.take.new.self c.args.repo.now c.args.number None c.args.len taken c.in_ok-hand.ensures.does in
    let same = emptied taken c.in-Ok.hand c.unfill-in-Err-noted_seal_record.result chunk was.1 c.in-Ok.ensures.ok c.unfill-in-Err-noted_seal_record.ensures in
    record {
      steps = inr (inr (
        (λ i. Err (c.in-Err-noted_seal_record.ensures.refused i)),
        record {
          hand = taken;
          mid = c.take.new.desk.trace;
          back = c.cancel-in-Err-noted_seal_record.result;
          take = subst (λ n. Adds g.S.Naming.names.opening c.args.desk.now.trace (TakeCall c.args.repo.now c.args.number None n (Ok taken)) c.take.new.desk.trace) (sym c.requires) c.in_ok-hand.ensures.makes.adds;
          put_back = subst (λ (h : HandRecord). Adds g.S.Naming.names.opening c.take.new.desk.trace (PutBackCall h c.cancel-in-Err-noted_seal_record.result) c.cancel-in-Err-noted_seal_record.new.desk.trace) same c.cancel-in-Err-noted_seal_record.ensures.makes.adds;
        },
      ));
    }
