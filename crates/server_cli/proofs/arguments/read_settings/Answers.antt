use Rattle.std.proofs.Common.{true, ◌∙◌, ◌%◌, List, ap, inl, inr, length, map, string_bytes, subst, sym}
use Rattle.std.proofs.lemmas.List.{length-map}
use Rattle.std.proofs.lemmas.Result.{err_from_is_err_and}
use Rattle.spec_lib.specs.Texts.{Text}
use Rattle.store_book.specs.Openings.{tenants_shown}
use Rattle.tenant_args.specs.Tenants.{HasBadTenant, SpellTenants}
use Rattle.server_cli.specs.Arguments.{AreWrongSettings}
use Rattle.server_cli.proofs.Partings.{first_two}
use Rattle.server_cli.proofs.arguments.read_settings.Goals as goal

pub returns-in_err-tenants-clause-refused : goal.returns-in_err-tenants-clause-refused
returns-in_err-tenants-clause-refused c =
    let words = first_two c.args.words.now c.slots-item.result c.max_blob-item.result c.in-len2-up.len_at_least c.slots-item.is c.max_blob-item.is in
    let names = ap (map (λ w. w.now)) c.as_slice.ensures.value ∙ c.in_ok-names.ensures.same ∙ c.split_at_end.ensures.before in
    let p = err_from_is_err_and c.from_residual-in_err-tenants.result c.from_residual-in_err-tenants.ensures.1 in
    rw (p.1, p.2) (elim c.in_err-tenants.ensures.refused [
      | inl memory ↦ rw memory tt
      | inr bad ↦ rw bad.0 (subst AreWrongSettings (sym words) (inr (inl (subst (HasBadTenant true) names bad.1))))
    ])

pub returns-clause-spelled : goal.returns-clause-spelled
returns-clause-spelled c =
    let words = first_two c.args.words.now c.slots-item.result c.max_blob-item.result c.in-len2-up.len_at_least c.slots-item.is c.max_blob-item.is in
    let names = ap (map (λ w. w.now)) c.as_slice.ensures.value ∙ c.in_ok-names.ensures.same ∙ c.split_at_end.ensures.before in
    let paths = c.split_at_end.ensures.after in
    record {
      slots = string_bytes c.slots-item.result;
      max_blob = string_bytes c.max_blob-item.result;
      rest = _;
      parts = words;
      slots_are = rw c.as_str.ensures.value at c.in-Some.ensures.0;
      max_blob_is = rw c.as_str-2.ensures.value at c.in-Some-number.ensures.0;
      tenants = subst (λ (ws : List Text). SpellTenants true ws (tenants_shown c.in_ok-tenants.tenants.items)) names c.in_ok-tenants.ensures.spelled;
      paths = paths;
      paired = ap (λ (ws : List Text). length ws % 2) (sym paths) ∙ ap (λ n. n % 2) (length-map c.split_at_end.result.1.now string_bytes) ∙ c.if-paths-ne0.false;
    }
