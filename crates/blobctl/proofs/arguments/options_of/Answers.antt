use Rattle.std.proofs.Common.{false, ◌≡◌, List, codes, map, refl, ap, ◌∙◌, subst, inl, inr}
use Rattle.std.proofs.lemmas.Result.{err_from_is_err_and}
use Rattle.clap.specs.Matches.{found_of}
use Rattle.clap.specs.Walk.{rows_of}
use Rattle.clap.proofs.WalkLemmas.{raw_values-rows}
use Rattle.spec_lib.specs.Texts.{Text}
use Rattle.store_book.specs.Openings.{tenants_shown}
use Rattle.blobctl.specs.Arguments.{tenant_args}
use Rattle.tenant_args.specs.Tenants.{HasBadTenant, SpellTenants}
use Rattle.blobctl.proofs.CommandLines.{words_taken}
use Rattle.blobctl.proofs.arguments.options_of.Goals as goal

pub returns-in_err-tenants-clause-refused : goal.returns-in_err-tenants-clause-refused
returns-in_err-tenants-clause-refused c =
    let f = found_of c.args.matches.now in
    let words : map (λ x. x.now) c.unwrap_or-words.result.now ≡ tenant_args (rows_of f) = ap (λ w. map (λ x. x.now) w.now) c.unwrap_or-words.ensures ∙ words_taken _ _ _ refl (c.get_strs.ensures ∙ raw_values-rows f (codes "tenants")) in
    let p = err_from_is_err_and c.from_residual.result c.from_residual.ensures.1 in
    rw (p.1, p.2) (elim c.in_err-tenants.ensures.refused [
      | inl memory ↦ rw memory tt
      | inr bad ↦ rw bad.0 (subst (HasBadTenant false) words bad.1)
    ])

pub returns-clause-found : goal.returns-clause-found
returns-clause-found c =
    let f = found_of c.args.matches.now in
    let words : map (λ x. x.now) c.unwrap_or-words.result.now ≡ tenant_args (rows_of f) = ap (λ w. map (λ x. x.now) w.now) c.unwrap_or-words.ensures ∙ words_taken _ _ _ refl (c.get_strs.ensures ∙ raw_values-rows f (codes "tenants")) in
    record {
      numbers = c.in-Some.ensures;
      tenants = subst (λ (ws : List Text). SpellTenants false ws (tenants_shown c.in_ok-tenants.tenants.items)) words c.in_ok-tenants.ensures.spelled;
      kept_in_memory = refl;
      first = refl;
      workers = c.in-Some-worker_count.ensures;
    }
