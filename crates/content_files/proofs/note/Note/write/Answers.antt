use Rattle.std.proofs.Common.{◌≡◌, ◌∙◌, ◌++◌, ap}
use Rattle.std.specs.Int.{w64, to_le_bytes}
use Rattle.std.proofs.lemmas.List.{append_assoc}
use Rattle.content_files.proofs.note.Note.write.Goals as goal

pub returns-clause-written : goal.returns-clause-written
returns-clause-written c =
    let first : c.extend_from_slice.new.self.items ≡ c.args.out.now.items ++ to_le_bytes w64 c.args.self.len = c.in_ok-extend_from_slice.ensures.items ∙ ap (λ l. c.args.out.now.items ++ l) c.to_le_bytes.ensures in
    c.in_ok-extend_from_slice-2.ensures.items ∙ (λ i. first i ++ c.to_le_bytes-2.ensures i) ∙ append_assoc c.args.out.now.items (to_le_bytes w64 c.args.self.len) (to_le_bytes w64 c.args.self.sum)
