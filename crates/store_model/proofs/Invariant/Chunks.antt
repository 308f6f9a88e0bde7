-- Replacing a session's chunks changes its tenant's use and keeps the catalog well-formed.
use Rattle.std.proofs.Common.{◌≡◌, ◌≢◌, ℕ, ◌+◌, ◌<◌, ◌≤◌, true, false, cond, [], length, Some, refl, sym, ◌∙◌, subst, arith, inl, inr}
use Rattle.std.specs.Prelude.{◌==◌}
use Rattle.std.specs.List.{AllByRecursion}
use Rattle.std.specs.Ordering.{eq_by_cmp}
use Rattle.std.specs.Cmp.{Equal-is}
use Rattle.std.specs.FinMap.{get, get-insert}
use Rattle.std.proofs.lemmas.Bool.{cases_eq, eq-eqb, ne_eqb}
use Rattle.blob_digest.proofs.KeyOrders.{number_cmp_total, exact_number}
use Rattle.spec_lib.proofs.Sums.{sum_changed}
use Rattle.store_model.specs.Sessions.{at_home, with_chunks}
use Rattle.store_model.specs.Catalog.{SessionNumber, Chunks, Session, Catalog, session_number_cmp, charged_length, quota_of, session_charge, used_bytes, open_sessions}
use Rattle.store_model.specs.Invariant.{WellFormed, WellFormedSession, Sound}

module _ (C : Catalog) (key : SessionNumber) (s : Session) (chunks : Chunks) (found : get C.sessions key ≡ Some s) where
  abbrev new : Session
  new = record s { chunks = chunks }

  abbrev after : Catalog
  after = record C { sessions = with_chunks C.sessions key s chunks }

  -- the tenant's use changes by the session's bytes, and no other tenant's use changes
  pub used_bytes-chunks : used_bytes after key.0 + charged_length s ≡ used_bytes C key.0 + charged_length new
  used_bytes-chunks =
      let changed = sum_changed number_cmp_total exact_number (session_charge key.0) C.sessions key s new found in
      let own : (key.0 == key.0) ≡ true = eq-eqb key.0 key.0 refl in
      let now : session_charge key.0 (key, new) ≡ charged_length new = rw own refl in
      let before : session_charge key.0 (key, s) ≡ charged_length s = rw own refl in
      omega arith

  pub used_other-chunks : (u : ℕ) → u ≢ key.0 → used_bytes after u ≡ used_bytes C u
  used_other-chunks u differ =
      let changed = sum_changed number_cmp_total exact_number (session_charge u) C.sessions key s new found in
      let other : (key.0 == u) ≡ false = ne_eqb key.0 u (λ e. differ (sym e)) in
      let now : session_charge u (key, new) ≡ 0 = rw other refl in
      let before : session_charge u (key, s) ≡ 0 = rw other refl in
      omega arith

  open_sessions-chunks : (u : ℕ) → open_sessions after u ≡ open_sessions C u
  open_sessions-chunks u =
      let changed = sum_changed number_cmp_total exact_number (λ e. cond (e.0.0 == u) 1 0) C.sessions key s new found in
      omega arith

  kept : (q : SessionNumber) (x : Session) → WellFormedSession C q x → WellFormedSession after q x
  kept q x k = record { repo = k.repo; tenant = k.tenant; chunks = k.chunks; small = k.small; positive = k.positive; number = k.number }

  module _ (nonempty : AllByRecursion (λ c. c ≢ []) (at_home chunks)) (small : charged_length new ≤ C.contents.max_blob) where
    lawful_session : WellFormed C → (q : SessionNumber) (x : Session) → cond (eq_by_cmp session_number_cmp q key) (Some new) (get C.sessions q) ≡ Some x → WellFormedSession after q x
    lawful_session lawful q x h =
        elim (eq_by_cmp session_number_cmp q key) as (λ b. eq_by_cmp session_number_cmp q key ≡ b → cond b (Some new) (get C.sessions q) ≡ Some x → WellFormedSession after q x) [
          | true ↦ λ tie h.
              let is_key : key ≡ q = sym (exact_number q key ((Equal-is (session_number_cmp q key)).0 tie)) in
              let is_session : new ≡ x = cc in
              let k = lawful.sessions key s found in
              let here : WellFormedSession after key new = record { repo = k.repo; tenant = k.tenant; chunks = nonempty; small = small; positive = k.positive; number = k.number } in
              subst (λ (y : Session). WellFormedSession after q y) is_session (subst (λ (p : SessionNumber). WellFormedSession after p new) is_key here)
          | false ↦ λ tie h. kept q x (lawful.sessions q x h)
        ] refl h

    pub WellFormed-chunks : WellFormed C → WellFormed after
    WellFormed-chunks lawful = record {
      content = lawful.content;
      links = lawful.links;
      manifests = lawful.manifests;
      sessions = λ q x h. lawful_session lawful q x (sym (get-insert number_cmp_total C.sessions key new q) ∙ h);
      repositories = lawful.repositories;
      numbering = lawful.numbering;
      limits = lawful.limits;
      few_sessions = λ u. let same = open_sessions-chunks u in let few = lawful.few_sessions u in omega arith;
      few_manifests = lawful.few_manifests;
    }

    pub Sound-chunks : (key.0 < length C.tenants → used_bytes C key.0 + charged_length new ≤ quota_of C key.0 + charged_length s) → Sound C → Sound after
    Sound-chunks within sound = record {
      lawful = WellFormed-chunks sound.lawful;
      quotas = λ u there. elim (cases_eq u key.0) [
        | inl e ↦ rw e (let change = used_bytes-chunks in let less = within (subst (λ n. n < length C.tenants) e there) in omega arith)
        | inr other ↦ let same = used_other-chunks u other in let k = sound.quotas u there in omega arith
      ];
      shares = sound.shares;
      slots = record { some = sound.slots.some; few = sound.slots.few; fit = sound.slots.fit };
    }
