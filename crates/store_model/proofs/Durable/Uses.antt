-- Two catalogs that agree with one durable state: the one with no session checked out uses no more than the other.
use Rattle.std.proofs.Common.{◌≡◌, ◌≢◌, ℕ, ◌≤◌, Bool, true, false, cond, List, [], Option, Some, None, refl, sym, ap, ◌∙◌, subst, arith, inl, inr, length}
use Rattle.std.specs.Prelude.{◌&&◌, ◌==◌, if◌then◌else◌}
use Rattle.std.specs.declared.cmp.Ordering.{Ordering}
use Rattle.std.specs.Cmp.{IsTotalOrder}
use Rattle.std.specs.Cmp.Lexicographic.{nat_list_cmp_total}
use Rattle.std.specs.List.{AllByRecursion, sum_by}
use Rattle.std.specs.FinMap.{get-empty, same_map, FinMap, IsAntisymmetric, empty, entries, get, insert, remove}
use Rattle.std.proofs.lemmas.Bool.{and_parts}
use Rattle.std.proofs.lemmas.Map.Lookups.{exact_bytes}
use Rattle.blob_digest.proofs.KeyOrders.{number_cmp_total, exact_number}
use Rattle.spec_lib.specs.Sets as set
use Rattle.spec_lib.specs.Texts.{Text}
use Rattle.spec_lib.proofs.Lists.{witness}
use Rattle.spec_lib.proofs.Maps.{cases_key, get-insert_at, get-insert_other, get-remove_other, map_induct, sum_at, term}
use Rattle.spec_lib.proofs.Options.{nothing, some_same}
use Rattle.spec_lib.proofs.Rows.{entries-empty}
use Rattle.spec_lib.proofs.Sums.{sum_new}
use Rattle.store_model.specs.Sessions.{session_charges}
use Rattle.store_model.specs.Catalog.{Catalog, CheckedIn, CheckedOutWith, Chunks, Resident, Session, SessionNumber, blob_share, charged_length, holds, is_repo_of, open_count_in, open_sessions, session_charge, session_charges_of, session_number_cmp, tenant_holds, used_bytes}
use Rattle.store_model.specs.Durable.{Agrees, AgreesOnChunks, AgreesOnSession, DurableState, TakenSessions}

-- ---- sums

-- if each key adds no more, the sum is no more
module _ {K : Type 0} {R : K → K → Ordering} (o : IsTotalOrder R) (same : IsAntisymmetric R) where
  pub sum_within : {X Y : Type 0} (f : K × X → ℕ) (g : K × Y → ℕ) (m : FinMap R X) (n : FinMap R Y) → ((q : K) → term f q (get m q) ≤ term g q (get n q)) → sum_by f (entries m) ≤ sum_by g (entries n)
  sum_within {X} {Y} f g m =
      map_induct o same (λ m. (n : FinMap R Y) → ((q : K) → term f q (get m q) ≤ term g q (get n q)) → sum_by f (entries m) ≤ sum_by g (entries n))
      (λ n within. let none : sum_by f (entries empty) ≡ 0 = ap (sum_by f) (entries-empty R X) in omega arith)
      (λ m k v none rest n within.
      let at : f (k, v) ≤ term g k (get n k) = subst (λ x. term f k x ≤ term g k (get n k)) (get-insert_at o same m k v) (within k) in
      let left = rest (remove n k) (λ q. elim (cases_key o same q k) [
        | inl e ↦ (let nothing_here : term f q (get m q) ≡ 0 = ap (term f q) (ap (get m) e ∙ none) in omega arith)
        | inr differ ↦ subst (λ x. term f q x ≤ term g q (get (remove n k) q)) (get-insert_other o same m k v q differ)
            (subst (λ x. term f q (get (insert m k v) q) ≤ term g q x) (sym (get-remove_other o same n k q differ)) (within q))
      ]) in
      let now = sum_new o same f m k v none in
      let old = sum_at o same g n k in
      omega arith)
      m

-- ---- sessions and uses

module _ (taken : TakenSessions) (D : DurableState) (C : Catalog) (a : Agrees taken D C) where
  -- a durable session is open, with no fewer bytes
  pub was_open : (key : SessionNumber) (s : Session) → get D.sessions key ≡ Some s →
      (x : Session) × (chunks : List Text) × (get C.sessions key ≡ Some x) × (s ≡ record { repo = x.repo; chunks = CheckedIn chunks }) × AllByRecursion (λ c. c ≢ []) chunks × (charged_length s ≤ charged_length x)
  was_open key s found = by (get C.sessions key) refl (a.sessions key)
    where
      no_fewer : (repo : Text) (x : Chunks) (chunks : List Text) → AgreesOnChunks (get taken key) repo x chunks → charged_length (record { repo = []; chunks = CheckedIn chunks }) ≤ charged_length (record { repo = []; chunks = x })
      no_fewer repo (CheckedIn cs) chunks is = subst (λ c. charged_length (record { repo = []; chunks = CheckedIn chunks }) ≤ charged_length (record { repo = []; chunks = CheckedIn c })) (sym is) (omega arith)
      no_fewer repo (CheckedOutWith n m) chunks is = let len = is.0 in omega arith

      by : (o : Option Session) → get C.sessions key ≡ o → AgreesOnSession (get taken key) (get D.sessions key) o →
          (x : Session) × (chunks : List Text) × (get C.sessions key ≡ Some x) × (s ≡ record { repo = x.repo; chunks = CheckedIn chunks }) × AllByRecursion (λ c. c ≢ []) chunks × (charged_length s ≤ charged_length x)
      by None here is = nothing is found
      by (Some x) here is =
          let same : s ≡ record { repo = x.repo; chunks = CheckedIn is.0 } = some_same (sym found ∙ is.1) in
          (x, is.0, here, same, is.2, subst (λ y. charged_length y ≤ charged_length x) (sym same) (no_fewer x.repo x.chunks is.0 is.3))

  pub open_less : (t : ℕ) → open_count_in D.sessions t ≤ open_sessions C t
  open_less t = sum_within number_cmp_total exact_number (λ e. cond (e.0.0 == t) 1 0) (λ e. cond (e.0.0 == t) 1 0) D.sessions C.sessions (λ q. by q (get D.sessions q) refl)
    where
      by : (q : SessionNumber) (o : Option Session) → get D.sessions q ≡ o → term (λ (e : SessionNumber × Session). cond (e.0.0 == t) 1 0) q o ≤ term (λ (e : SessionNumber × Session). cond (e.0.0 == t) 1 0) q (get C.sessions q)
      by q None found = omega arith
      by q (Some s) found = let was = was_open q s found in subst (λ o. cond (q.0 == t) 1 0 ≤ term (λ (e : SessionNumber × Session). cond (e.0.0 == t) 1 0) q o) (sym was.2) (omega arith)

  pub charges_less : (t : ℕ) → session_charges D.sessions t ≤ session_charges_of C t
  charges_less t = sum_within number_cmp_total exact_number (session_charge t) (session_charge t) D.sessions C.sessions (λ q. by q (get D.sessions q) refl)
    where
      either : (b : Bool) (n m : ℕ) → n ≤ m → (if b then n else 0) ≤ (if b then m else 0)
      either true n m less = less
      either false n m less = omega arith

      by : (q : SessionNumber) (o : Option Session) → get D.sessions q ≡ o → term (session_charge t) q o ≤ term (session_charge t) q (get C.sessions q)
      by q None found = omega arith
      by q (Some s) found = let was = was_open q s found in subst (λ o. session_charge t (q, s) ≤ term (session_charge t) q o) (sym was.2) (either (q.0 == t) (charged_length s) (charged_length was.0) was.5)

  -- ---- a catalog with no session checked out

  module _ (R : Catalog) (b : Agrees empty D R) where
    -- its sessions are the durable ones
    pub sessions_are : R.sessions ≡ D.sessions
    sessions_are = same_map number_cmp_total exact_number R.sessions D.sessions (λ q. by q (get R.sessions q) (b.sessions q))
      where
        home : (q : SessionNumber) (repo : Text) (x : Chunks) (chunks : List Text) → AgreesOnChunks (get {R = session_number_cmp} empty q) repo x chunks → x ≡ CheckedIn chunks
        home q repo (CheckedIn cs) chunks is = ap CheckedIn is
        home q repo (CheckedOutWith n m) chunks is = nothing (get-empty session_number_cmp q) is.1

        by : (q : SessionNumber) (o : Option Session) → AgreesOnSession (get {R = session_number_cmp} empty q) (get D.sessions q) o → o ≡ get D.sessions q
        by q None is = sym is
        by q (Some s) is = (λ i. Some (record { repo = s.repo; chunks = home q s.repo s.chunks is.0 is.3 i })) ∙ sym is.1

    -- the other catalog with the slots, limit, sessions and blobs of this one
    abbrev pub as_was : Catalog
    as_was = record C { slots = R.slots; contents = R.contents; sessions = D.sessions; residents = R.residents; retired = R.retired }

    pub as_was_is : as_was ≡ R
    as_was_is = λ i. record {
      tenants = (sym a.tenants ∙ b.tenants) i;
      slots = R.slots;
      contents = R.contents;
      repos = (sym a.repos ∙ b.repos) i;
      links = (sym a.links ∙ b.links) i;
      manifests = (sym a.manifests ∙ b.manifests) i;
      sessions = sym sessions_are i;
      next = (sym a.next ∙ b.next) i;
      residents = R.residents;
      retired = R.retired;
    }

    -- a tenant's blob is the same in both
    share_less : (t : ℕ) (d : Text) (o : Option Resident) → get R.residents d ≡ o → term (blob_share as_was t) d o ≤ term (blob_share C t) d (get C.residents d)
    share_less t d None found = omega arith
    share_less t d (Some x) found = by (tenant_holds C t d) refl
      where
        by : (h : Bool) → tenant_holds C t d ≡ h → (if h then length x.bytes else 0) ≤ term (blob_share C t) d (get C.residents d)
        by false is = omega arith
        by true is =
            let w = witness (λ r. is_repo_of C t r && holds C r d) (set.items C.repos) is in
            let link : set.contains C.links (w.0, d) ≡ true = (and_parts (is_repo_of C t w.0) (holds C w.0 d) w.1).1 in
            let here = a.contents (w.0, d) link in
            let there = b.contents (w.0, d) (ap (λ l. set.contains l (w.0, d)) (sym b.links ∙ a.links) ∙ link) in
            let same : x.bytes ≡ here.0.bytes = ap (λ (y : Resident). y.bytes) (some_same (sym found ∙ there.1)) ∙ some_same (sym there.2 ∙ here.2) in
            let counts : term (blob_share C t) d (get C.residents d) ≡ length here.0.bytes = ap (term (blob_share C t) d) here.1 ∙ ap (λ h. if h then length here.0.bytes else 0) is in
            let long : length x.bytes ≡ length here.0.bytes = ap length same in
            omega arith

    pub used_within : (t : ℕ) → used_bytes R t ≤ used_bytes C t
    used_within t = subst (λ X. used_bytes X t ≤ used_bytes C t) as_was_is (
        let one = sum_within nat_list_cmp_total exact_bytes (blob_share as_was t) (blob_share C t) R.residents C.residents (λ d. share_less t d (get R.residents d) refl) in
        let two = charges_less t in
        omega arith)
