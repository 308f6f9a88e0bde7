use Rattle.std.proofs.Common.{◌≡◌, ◌+◌, ◌-◌, suc, [], ◌∷◌, length, map, take, drop, arith, sym, ap, ◌∙◌, add-one}
use Rattle.std.proofs.lemmas.List.{take_rest}
use Rattle.spec_lib.specs.Texts.{same_text}
use Rattle.upload_table.specs.Rows.{row_listed, rows_listed}
use Rattle.spec_lib.proofs.Filters.{filter-from, filter-nothing}
use Rattle.upload_table.proofs.repo_sessions.RepoSessionsIterator.next.Goals.{After-received_of}
use Rattle.upload_table.proofs.repo_sessions.RepoSessionsIterator.next.Goals as goal

-- the first session for the repository, and those after it
first : (c : After-received_of) → c.args.self.now ≡ (c.index-self-place.result.number, c.received_of.result) ∷ rows_listed c.self.inside.repo.now (take (length c.self.inside.rest.now - (c.in_ok-place.place + 1)) (drop (c.in_ok-place.place + 1) c.self.inside.rest.now))
first c =
    let rows = c.self.inside.rest.now in
    let found = filter-from (λ u. same_text u.repo c.self.inside.repo.now) rows c.in_ok-place.place c.index-self-place.result (sym c.place_of.ensures ∙ c.in_ok-place.was) in
    let behind : drop (suc c.in_ok-place.place) rows ≡ take (length rows - (c.in_ok-place.place + 1)) (drop (c.in_ok-place.place + 1) rows) = simp (take_rest, add-one) in
    sym c.self.view_is ∙ ap (map row_listed) found
    ∙ (λ j. row_listed (sym c.index-self-place.is j) ∷ rows_listed c.self.inside.repo.now (behind j))
    ∙ (λ j. (c.index-self-place.result.number, sym (c.received_of.ensures ∙ ap Rattle.upload_table.specs.Rows.content_received (ap (λ (u : Rattle.upload_table.specs.declared.upload.Upload.Upload). u.content) (sym c.index-self-place.is))) j) ∷ rows_listed c.self.inside.repo.now (take (length rows - (c.in_ok-place.place + 1)) (drop (c.in_ok-place.place + 1) rows)))

pub returns-in_err-place-clause-steps : goal.returns-in_err-place-clause-steps
returns-in_err-place-clause-steps c =
    let none : c.args.self.now ≡ [] = sym c.self.view_is ∙ ap (map row_listed) (filter-nothing (λ u. same_text u.repo c.self.inside.repo.now) c.self.inside.rest.now (sym c.place_of.ensures ∙ c.in_err-place.was)) in
    rw c.from_residual.ensures (none, none)

pub returns-clause-steps : goal.returns-clause-steps
returns-clause-steps c = first c ∙ (λ j. ((c.index-self-place.is j).number, c.received_of.result) ∷ rows_listed c.self.inside.repo.now (take (length c.self.inside.rest.now - (c.in_ok-place.place + 1)) (drop (c.in_ok-place.place + 1) c.self.inside.rest.now)))

pub returns-clause-goes : goal.returns-clause-goes
returns-clause-goes c = record { on = λ _. (tt, tt, omega (arith, ap length (first c))); keeps = tt; rests = λ _. tt }
