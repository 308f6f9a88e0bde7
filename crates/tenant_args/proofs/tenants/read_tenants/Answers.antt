use Rattle.std.proofs.Common.{◌≡◌, ◌≤◌, ◌+◌, ◌∙◌, ◌∷◌, [], ap, arith, drop, get_or, length, length-append, map, sym, take}
use Rattle.std.specs.Borrow.{Bor}
use Rattle.std.proofs.lemmas.List.{length-map}
use Rattle.std.proofs.lemmas.Result.{err_from_is_err_and}
use Rattle.spec_lib.specs.Texts.{Text}
use Rattle.blob_digest.specs.Tenants.{AreSupported, Tenant}
use Rattle.blob_digest.specs.Names.{IsComponent}
use Rattle.link_table.specs.Tenancy.{tenant_shown, tenants_shown, max_quota}
use Rattle.tenant_args.proofs.TenantLists.{all_more, bad_word, most_few, once_more, one_spelled, words_more, words_round}
use Rattle.tenant_args.proofs.tenants.read_tenants.Goals as goal

nothing : Bor Text
nothing = record { ref_ptr = (0, 0); now = [] }

pub returns-in_err-add_tenant-clause-refused : goal.returns-in_err-add_tenant-clause-refused
unfolding nothing
returns-in_err-add_tenant-clause-refused c =
    let p = err_from_is_err_and c.from_residual.result c.from_residual.ensures.1 in
    let i = c.loop-word.word-index in
    let words = c.args.words.now in
    let whole = words_round words i nothing c.loop-word-test.true in
    rw (p.1, p.2) (bad_word c.args.shares (map (λ (w : Bor Text). w.now) words) (map (λ (w : Bor Text). w.now) (take i words)) (map (λ (w : Bor Text). w.now) (drop (i + 1) words))
    (tenants_shown c.loop-word.tenants.items) (get_or words i nothing).now c.in_err-add_tenant.field-0.0 whole c.loop-word.invariant.spelled c.in_err-add_tenant.ensures.refused)

pub loop-word-preserved : goal.loop-word-preserved
unfolding nothing
loop-word-preserved c =
    let added = c.in_ok-add_tenant.ensures.added in
    let inv = c.loop-word.invariant in
    let i = c.loop-word.word-index in
    let words = c.args.words.now in
    let old = tenants_shown c.loop-word.tenants.items in
    let word = (get_or words i nothing).now in
    let count : length c.add_tenant.new.tenants.items ≡ length c.loop-word.tenants.items + 1 =
    sym (length-map c.add_tenant.new.tenants.items tenant_shown) ∙ ap length added.4 ∙ length-append old (added.0 ∷ []) ∙ ap (λ n. n + 1) (length-map c.loop-word.tenants.items tenant_shown) in
    record {
      spelled = rw (words_more words i nothing c.loop-word-test.true, added.4) (one_spelled c.args.shares (map (λ (w : Bor Text). w.now) (take i words)) old word added.0 inv.spelled added.1);
      few = (let most = most_few c.args.shares in omega (arith, count, added.3));
      count = omega (arith, count, inv.count);
      components = rw added.4 (all_more (λ (t : Tenant). IsComponent t.name) old added.0 inv.components added.1.component);
      quotas = rw added.4 (all_more (λ (t : Tenant). t.quota ≤ max_quota) old added.0 inv.quotas added.1.small);
      limits = rw added.4 (all_more (λ (t : Tenant). AreSupported t.limits) old added.0 inv.limits added.1.limits.supported);
      apart = rw added.4 (once_more old added.0 inv.apart added.2);
    }
