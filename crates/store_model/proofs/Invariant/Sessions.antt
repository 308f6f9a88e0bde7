-- Opening and removing a session keep the catalog well-formed. Opening changes no use; removing lowers its tenant's use by its bytes.
use Rattle.std.proofs.Common.{◌≡◌, ℕ, ◌+◌, ◌^◌, ◌<◌, ◌≤◌, true, false, cond, [], length, Option, Some, None, refl, sym, ap, ◌∙◌, subst, arith, inl, inr, get_or-set_same, get_or-set_other, ◌≢◌}
use Rattle.std.specs.Prelude.{◌==◌, nat_le, slice_set}
use Rattle.std.specs.FinMap.{get, insert, remove}
use Rattle.std.proofs.lemmas.Bool.{cases_eq, leb-false, eq-eqb, ne_eqb, or_parts}
use Rattle.std.proofs.lemmas.List.{length-set}
use Rattle.spec_lib.specs.Sets as set
use Rattle.spec_lib.specs.Texts.{Text}
use Rattle.store_model.specs.Catalog.{SessionNumber, CheckedIn, Session, Catalog, is_repo_of, open_sessions, session_charge, used_bytes, next_number_of, charged_length, limits_of}
use Rattle.store_model.specs.Commands.{cannot_open}
use Rattle.store_model.specs.Invariant.{WellFormed, WellFormedSession}
use Rattle.blob_digest.proofs.KeyOrders.{number_cmp_total, exact_number}
use Rattle.spec_lib.proofs.Sums.{sum_new, sum_split}
use Rattle.spec_lib.proofs.Maps.{got-insert, got-remove, sum_at}
use Rattle.blob_digest.specs.Tenants.{greatest_limits}
use Rattle.store_model.proofs.Invariant.TenantLimits.{limits_supported}

module _ (C : Catalog) (t : ℕ) (r : Text) (lawful : WellFormed C) where
  abbrev new : Session
  new = record { repo = r; chunks = CheckedIn [] }

  abbrev after : Catalog
  after = record C { sessions = insert C.sessions (t, next_number_of C t) new; next = slice_set C.next t (next_number_of C t + 1) }

  pub fresh : get C.sessions (t, next_number_of C t) ≡ None
  fresh = none_of (get C.sessions (t, next_number_of C t)) refl
    where
      none_of : (x : Option Session) → get C.sessions (t, next_number_of C t) ≡ x → x ≡ None
      none_of None h = refl
      none_of (Some s) h = absurd (let k = (lawful.sessions (t, next_number_of C t) s h).number in omega arith)

  pub used_bytes-open : (u : ℕ) → used_bytes after u ≡ used_bytes C u
  used_bytes-open u =
      let sum = sum_new number_cmp_total exact_number (session_charge u) C.sessions (t, next_number_of C t) new fresh in
      let none : session_charge u ((t, next_number_of C t), new) ≡ 0 = elim (t == u) as (λ b. cond {A = ℕ} b 0 0 ≡ 0) [ true ↦ refl | false ↦ refl ] in
      omega arith

  module _ (there : t < length C.tenants) (repo : set.contains C.repos r ≡ true) (own : is_repo_of C t r ≡ true) (opens : cannot_open C t ≡ false) where
    in_next : t < length C.next
    in_next = let same = lawful.numbering.one_each in omega arith

    no_less : (u : ℕ) → next_number_of C u ≤ next_number_of after u
    no_less u = elim (cases_eq u t) [
      | inl e ↦ rw (e, get_or-set_same C.next t (next_number_of C t + 1) 0 in_next) (omega arith)
      | inr other ↦ rw (get_or-set_other C.next t u (next_number_of C t + 1) 0 other) (omega arith)
    ]

    next_small : (u : ℕ) → next_number_of after u ≤ 2 ^ 32
    next_small u =
        let room : next_number_of C t < 2 ^ 32 = leb-false (2 ^ 32) (next_number_of C t) (or_parts (nat_le (limits_of C t).sessions (open_sessions C t)) (nat_le (2 ^ 32) (next_number_of C t)) opens).1 in
        elim (cases_eq u t) [
          | inl e ↦ rw (e, get_or-set_same C.next t (next_number_of C t + 1) 0 in_next) (omega arith)
          | inr other ↦ rw (get_or-set_other C.next t u (next_number_of C t + 1) 0 other) (lawful.numbering.few u)
        ]

    open_few : (u : ℕ) → open_sessions after u ≤ greatest_limits.sessions
    open_few u =
        let sum = sum_new number_cmp_total exact_number (λ e. cond (e.0.0 == u) 1 0) C.sessions (t, next_number_of C t) new fresh in
        let before = lawful.few_sessions u in
        let limit : ℕ = (limits_of C t).sessions in
        let few : open_sessions C t < limit = leb-false limit (open_sessions C t) (or_parts (nat_le limit (open_sessions C t)) (nat_le (2 ^ 32) (next_number_of C t)) opens).0 in
        let supported : limit ≤ greatest_limits.sessions = (limits_supported C lawful t).sessions in
        elim (cases_eq u t) [
          | inl e ↦ let one : cond {A = ℕ} (t == u) 1 0 ≡ 1 = ap (λ b. cond b 1 0) (eq-eqb t u (sym e)) in let same : open_sessions C u ≡ open_sessions C t = ap (open_sessions C) e in omega arith
          | inr other ↦ let none : cond {A = ℕ} (t == u) 1 0 ≡ 0 = ap (λ b. cond b 1 0) (ne_eqb t u (λ e. other (sym e))) in omega arith
        ]

    is_new : WellFormedSession after (t, next_number_of C t) new
    is_new = record {
      repo = repo;
      tenant = own;
      chunks = tt;
      small = omega arith;
      positive = lawful.numbering.from_one t there;
      number = rw (get_or-set_same C.next t (next_number_of C t + 1) 0 in_next) (omega arith);
    }

    session_lawful : (key : SessionNumber) (s : Session) → get after.sessions key ≡ Some s → WellFormedSession after key s
    session_lawful key s h = elim (got-insert number_cmp_total exact_number C.sessions (t, next_number_of C t) new key s h) [
      | inl e ↦ subst (λ (y : Session). WellFormedSession after key y) e.1 (subst (λ (q : SessionNumber). WellFormedSession after q new) (sym e.0) is_new)
      | inr old ↦
          let k = lawful.sessions key s old in
          let more = no_less key.0 in
          let under : key.1 < next_number_of C key.0 = k.number in
          record { repo = k.repo; tenant = k.tenant; chunks = k.chunks; small = k.small; positive = k.positive; number = omega (arith, more, under) }
    ]

    pub WellFormed-open : WellFormed after
    WellFormed-open = record {
      content = lawful.content;
      links = lawful.links;
      manifests = lawful.manifests;
      sessions = session_lawful;
      repositories = lawful.repositories;
      numbering = record {
        one_each = length-set C.next t (next_number_of C t + 1) ∙ lawful.numbering.one_each;
        from_one = λ u lt. let one = lawful.numbering.from_one u lt in let more = no_less u in omega (arith, one, more);
        few = next_small;
      };
      limits = lawful.limits;
      few_sessions = open_few;
      few_manifests = lawful.few_manifests;
    }

-- ---- a session that is removed

module _ (C : Catalog) (key : SessionNumber) where
  abbrev without : Catalog
  without = record C { sessions = remove C.sessions key }

  fewer : (u : ℕ) → open_sessions without u ≤ open_sessions C u
  fewer u = let sum = sum_at number_cmp_total exact_number (λ e. cond (e.0.0 == u) 1 0) C.sessions key in omega arith

  pub WellFormed-gone : WellFormed C → WellFormed without
  WellFormed-gone lawful = record {
    content = lawful.content;
    links = lawful.links;
    manifests = lawful.manifests;
    sessions = λ q s h. lawful.sessions q s (got-remove number_cmp_total exact_number C.sessions key q s h);
    repositories = lawful.repositories;
    numbering = lawful.numbering;
    limits = lawful.limits;
    few_manifests = lawful.few_manifests;
    few_sessions = λ u. let few = lawful.few_sessions u in let less = fewer u in omega arith;
  }

  module _ (s : Session) (found : get C.sessions key ≡ Some s) where
    -- the tenant's use falls by what the session counted, and no other's
    pub used_bytes-gone : used_bytes C key.0 ≡ used_bytes without key.0 + charged_length s
    used_bytes-gone =
        let sum = sum_split number_cmp_total exact_number (session_charge key.0) C.sessions key s found in
        let own : session_charge key.0 (key, s) ≡ charged_length s = ap (λ b. cond b (charged_length s) 0) (eq-eqb key.0 key.0 refl) in
        omega arith

    pub used_other-gone : (u : ℕ) → u ≢ key.0 → used_bytes C u ≡ used_bytes without u
    used_other-gone u other =
        let sum = sum_split number_cmp_total exact_number (session_charge u) C.sessions key s found in
        let none : session_charge u (key, s) ≡ 0 = ap (λ b. cond b (charged_length s) 0) (ne_eqb key.0 u (λ e. other (sym e))) in
        omega arith
