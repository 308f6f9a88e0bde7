-- A new catalog is well-formed, so the premises can be met.
use Rattle.std.proofs.Common.{◌≡◌, ℕ, ◌+◌, ◌^◌, ◌<◌, ◌≤◌, Bool, true, false, cond, List, [], ◌∷◌, length, map, get_or, refl, sym, ap, ◌∙◌, arith}
use Prim.Native.Nat.{zero, suc}
use Rattle.std.specs.List.{AllByRecursion, count_by, sum_by}
use Rattle.std.specs.FinMap.{empty, get-empty, len-empty, len}
use Rattle.std.proofs.lemmas.Bool.{true≢false}
use Rattle.std.proofs.lemmas.List.{length-map}
use Rattle.std.proofs.lemmas.List.Sums.{sum_by-cons}
use Rattle.blob_digest.specs.Slots.{greatest_slots}
use Rattle.spec_lib.specs.Texts.{Text, same_text, text_cmp}
use Rattle.store_model.specs.Catalog.{Link, Tenant, Session, Resident, Catalog, link_cmp, session_number_cmp, next_number_of, opening, ContentRules}
use Rattle.store_model.specs.Invariant.{WellFormed, Sound}
use Rattle.spec_lib.proofs.Rows.{entries-empty}
use Rattle.store_model.proofs.Invariant.Shares.{held_count-none}
use Rattle.spec_lib.proofs.Options.{nothing, no_member}
use Rattle.spec_lib.proofs.Texts.{same_text_is, text_is_same}
use Rattle.blob_digest.specs.Tenants.{AreSupported}

one_each : (tenants : List Tenant) (t : ℕ) → t < length tenants → 0 < get_or (map {B = ℕ} (λ _. 1) tenants) t 0
one_each [] t lt = absurd (omega arith)
one_each (x ∷ tenants) zero lt = omega arith
one_each (x ∷ tenants) (suc t) lt = one_each tenants t (omega arith)

one_or_none : (tenants : List Tenant) (t : ℕ) → get_or (map {B = ℕ} (λ _. 1) tenants) t 0 ≤ 1
one_or_none [] t = omega arith
one_or_none (x ∷ tenants) zero = omega arith
one_or_none (x ∷ tenants) (suc t) = one_or_none tenants t

-- two names that differ occur once each
pub two_names_apart : (x y : Tenant) → same_text x.name y.name ≡ false → (name : Text) → count_by (λ t. same_text t.name name) (x ∷ y ∷ []) ≤ 1
two_names_apart x y differ name =
    let named : Tenant → ℕ = λ t. cond (same_text t.name name) 1 0 in
    let sum : sum_by named (x ∷ y ∷ []) ≡ named x + (named y + 0) = sum_by-cons named x (y ∷ []) ∙ ap (λ n. named x + n) (sum_by-cons named y []) in
    let few = by (same_text x.name name) (same_text y.name name) refl refl in
    rw sum few
  where
    by : (a b : Bool) → same_text x.name name ≡ a → same_text y.name name ≡ b → cond a 1 0 + (cond b 1 0 + 0) ≤ 1
    by true true is other = absurd (true≢false (sym (same_text_is x.name y.name (text_is_same x.name name is ∙ sym (text_is_same y.name name other))) ∙ differ))
    by true false is other = omega arith
    by false true is other = omega arith
    by false false is other = omega arith

module _ (tenants : List Tenant) (slots : ℕ) (contents : ContentRules) where
  abbrev C : Catalog
  C = opening tenants slots contents

  pub WellFormed-opening : 0 < length tenants → length tenants ≤ 4096 → ((name : Text) → count_by (λ t. same_text t.name name) tenants ≤ 1) → contents.max_blob ≤ 2 ^ 40 → AllByRecursion (λ t. t.quota ≤ 2 ^ 50) tenants → AllByRecursion (λ t. AreSupported t.limits) tenants → WellFormed C
  WellFormed-opening some few apart small quotas limits = record {
    content = λ d b h. nothing (get-empty text_cmp d) h;
    links = λ l h. no_member (get-empty link_cmp l) h;
    manifests = λ l bytes h. nothing (get-empty link_cmp l) h;
    sessions = λ key s h. nothing (get-empty session_number_cmp key) h;
    repositories = record {
      owned = λ r h. no_member (get-empty text_cmp r) h;
      few = λ t. rw (entries-empty text_cmp (Unit {0})) (omega arith);
      short_names = λ r h. no_member (get-empty text_cmp r) h;
    };
    numbering = record {
      one_each = let f : Tenant → ℕ = λ _. 1 in length-map tenants f;
      from_one = one_each tenants;
      few = λ t. let one : next_number_of C t ≤ 1 = one_or_none tenants t in omega arith;
    };
    limits = record {
      tenants = (some, few);
      names_apart = apart;
      max_blob = small;
      quotas = quotas;
      limits = limits;
    };
    few_sessions = λ t. rw (entries-empty session_number_cmp Session) (omega arith);
    few_manifests = λ r. rw (entries-empty link_cmp Text) (omega arith);
  }

  pub Sound-opening : 0 < length tenants → length tenants ≤ 4096 → ((name : Text) → count_by (λ t. same_text t.name name) tenants ≤ 1) → contents.max_blob ≤ 2 ^ 40 → AllByRecursion (λ t. t.quota ≤ 2 ^ 50) tenants → AllByRecursion (λ t. AreSupported t.limits) tenants → 0 < slots → slots ≤ greatest_slots → Sound C
  Sound-opening some few apart small quotas limits any at_most = record {
    lawful = WellFormed-opening some few apart small quotas limits;
    quotas = λ t there. rw (entries-empty text_cmp Resident, entries-empty session_number_cmp Session) (omega arith);
    shares = λ t there. (let none = held_count-none C t (ap (map {B = Link} (λ (e : Link × Unit {0}). e.0)) (entries-empty link_cmp (Unit {0}))) in omega arith);
    slots = record { some = any; few = at_most; fit = let none : len (empty {X = Resident} {R = text_cmp}) ≡ 0 = len-empty text_cmp Resident in omega arith };
  }
