use Rattle.std.proofs.Common.{◌≡◌, ◌++◌, ◌∷◌, [], ◌∙◌, ap, drop, take, rules, append_assoc, take-append-drop}
use Rattle.std.proofs.lemmas.List.{take_rest}
use Rattle.blobctl.proofs.Pieces.{bytes_in-append, left-more}
use Rattle.blobctl.proofs.script_text.ScriptText.add.Goals as goal

pub returns-in_ok-push_back : goal.returns-in_ok-push_back
returns-in_ok-push_back c =
    let pieces = c.self.inside.pieces.items in
    let bytes = c.args.bytes.now in
    let count = c.in_ok-count.count in
    let grown : c.extend_from_slice.new.self.items ≡ drop count bytes = search (rules, take_rest) in
    let same = bytes_in-append pieces c.extend_from_slice.new.self in
    rw c.in_ok-push_back.ensures.items (left-more c.self.inside.place pieces (pieces ++ c.extend_from_slice.new.self ∷ []) _ c.self.invariant same)
    ∙ ap (λ x. x ++ c.extend_from_slice.new.self.items) (c.self.view_is ∙ c.in_ok-count.ensures.added)
    ∙ ap (λ x. c.args.self.now ++ take count bytes ++ x) grown
    ∙ append_assoc c.args.self.now (take count bytes) (drop count bytes)
    ∙ ap (λ x. c.args.self.now ++ x) (take-append-drop count bytes)
