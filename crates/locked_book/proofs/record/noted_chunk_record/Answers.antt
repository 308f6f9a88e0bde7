use Rattle.std.proofs.Common.{◌≡◌, ◌<◌, ◌++◌, ◌∙◌, true, ap, length, sym}
use Rattle.std.proofs.lemmas.Bool.{eqb-true}
use Rattle.blob_digest.specs.Names.{tenant_name}
use Rattle.log_records.specs.Changes as logged
use Rattle.log_records.specs.Records.{record_bytes}
use Rattle.locked_book.specs.Logging.{chunk_record_bytes}
use Rattle.locked_book.proofs.NotedRecords.{logged_if, no_notes_no_record, noted_chunk_is, some_of_test}
use Rattle.locked_book.proofs.record.noted_chunk_record.Goals as goal

pub returns-then-is_empty-clause-made : goal.returns-then-is_empty-clause-made
returns-then-is_empty-clause-made c = λ chunk is.
    let tenant = tenant_name c.args.repo.now in
    let none : length c.args.notes.now ≡ 0 = eqb-true (length c.args.notes.now) 0 (sym c.if-is_empty.ensures) in
    c.new-record.ensures.items
    ∙ sym (logged_if c.args.policy (chunk_record_bytes true tenant c.args.number chunk) (sym c.if-not-has_log.ensures) ∙ no_notes_no_record tenant c.args.number chunk c.args.notes.now is none)

pub returns-clause-made : goal.returns-clause-made
returns-clause-made c = λ chunk is.
    let tenant = tenant_name c.args.repo.now in
    let some : 0 < length c.args.notes.now = some_of_test (length c.args.notes.now) (sym c.if-is_empty.ensures) in
    c.in_ok-append_noted.ensures.ok
    ∙ ap (λ items. items ++ record_bytes (logged.ChunkNoted tenant c.args.number c.args.notes.now)) c.new-record.ensures.items
    ∙ noted_chunk_is tenant c.args.number chunk c.args.notes.now is some
    ∙ sym (logged_if c.args.policy (chunk_record_bytes true tenant c.args.number chunk) (sym c.if-not-has_log.ensures))
