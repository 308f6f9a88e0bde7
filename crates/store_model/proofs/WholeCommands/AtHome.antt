-- The sessions of a catalog after every hand was checked in, and the facts that this leaves unchanged.
use Rattle.std.proofs.Common.{◌≡◌, ◌≢◌, ℕ, ◌+◌, ◌≤◌, Bool, true, false, cond, List, [], length, Option, Some, None, Ok, refl, sym, ap, ◌∙◌, subst, arith, inl, inr}
use Rattle.std.specs.Prelude.{◌==◌, nat_lt, if◌then◌else◌}
use Rattle.std.specs.List.{AllByRecursion, sum_by}
use Rattle.std.specs.FinMap.{entries, get, insert, remove}
use Rattle.std.proofs.lemmas.Bool.{false≢true}
use Rattle.blob_digest.proofs.KeyOrders.{number_cmp_total, exact_number}
use Rattle.spec_lib.specs.Texts.{Text, same_text}
use Rattle.spec_lib.proofs.Lists.{list_any_count, sum_by-add}
use Rattle.spec_lib.proofs.Maps.{cases_key, get-insert_at, get-insert_other, get-remove_other, sum_alike, term}
use Rattle.spec_lib.proofs.Sums.{get-remove_same}
use Rattle.store_model.specs.Catalog.{Catalog, Chunks, CheckedIn, CheckedOutWith, SessionNumber, Session, Tenant, charged_length, open_sessions, received_length, session_charge, session_charges_of, tenant_of, used_bytes}
use Rattle.store_model.specs.Commands.{has_sessions}
use Rattle.store_model.specs.Sessions.{Sessions, are_checked_in, length_after, reserved_of, with_chunks}
use Rattle.store_model.specs.WholeCommands.{CheckedOutSessions, CheckedOut}
use Rattle.store_model.proofs.Commands.Hands.{home_charged}

-- a session is checked out with this hand's lengths
pub record IsLent (tenants : List Tenant) (max_blob : ℕ) (k : SessionNumber) (s : Session) (out : CheckedOut) : Type 0 where
  pub key : out.hand.key ≡ k
  pub unfilled : out.hand.last ≡ None
  pub repo : s.repo ≡ out.repo
  pub named : s.repo ≡ out.hand.repo
  pub known : tenant_of tenants out.repo ≡ Some k.0
  pub chunks : s.chunks ≡ CheckedOutWith (sum_by length out.hand.chunks) out.hand.reserved
  pub pieces : AllByRecursion (λ c. c ≢ []) out.hand.chunks
  pub after : ℕ
  pub fits : length_after max_blob (sum_by length out.hand.chunks) out.range out.hand.reserved ≡ Ok after

-- a session, its checked-out hand, and the session after that hand was checked in
abbrev pub AreOne : List Tenant → ℕ → SessionNumber → Option Session → Option CheckedOut → Option Session → Type 0
AreOne tenants max_blob k None None home = home ≡ None
AreOne tenants max_blob k None (Some out) home = ⊥
AreOne tenants max_blob k (Some s) None home = (are_checked_in s.chunks ≡ true) × (home ≡ Some s)
AreOne tenants max_blob k (Some s) (Some out) home = IsLent tenants max_blob k s out × (home ≡ Some (record s { chunks = CheckedIn out.hand.chunks }))

-- the sessions of a catalog after every hand was checked in
abbrev pub AtHome : CheckedOutSessions → Catalog → Sessions → Type 0
AtHome hands C m = (k : SessionNumber) → AreOne C.tenants C.contents.max_blob k (get C.sessions k) (get hands k) (get m k)

pub as_found : (tenants : List Tenant) (max_blob : ℕ) (k : SessionNumber) {s s' : Option Session} {out out' : Option CheckedOut} {home home' : Option Session} → s' ≡ s → out' ≡ out → home' ≡ home →
    AreOne tenants max_blob k s out home → AreOne tenants max_blob k s' out' home'
as_found tenants max_blob k {s} {s'} {out} {out'} {home} {home'} a b c one =
    subst (λ x. AreOne tenants max_blob k x out' home') (sym a) (subst (λ x. AreOne tenants max_blob k s x home') (sym b) (subst (λ x. AreOne tenants max_blob k s out x) (sym c) one))

-- the numbers that a session adds: to a tenant's sessions, bytes received and bytes reserved
abbrev one_more : ℕ → SessionNumber × Session → ℕ
one_more t e = cond (e.0.0 == t) 1 0

abbrev brings : ℕ → SessionNumber × Session → ℕ
brings t e = if e.0.0 == t then received_length e.1 else 0

abbrev reserves : ℕ → SessionNumber × Session → ℕ
reserves t e = if e.0.0 == t then reserved_of e.1.chunks else 0

module _ (hands : CheckedOutSessions) (C : Catalog) (m : Sessions) (at_home : AtHome hands C m) where
  -- ---- what is found

  -- a checked-in session is unchanged
  pub found_home : (k : SessionNumber) (s : Session) → get C.sessions k ≡ Some s → are_checked_in s.chunks ≡ true → (get hands k ≡ None) × (get m k ≡ Some s)
  found_home k s found home = at (get hands k) refl (subst (λ o. AreOne C.tenants C.contents.max_blob k o (get hands k) (get m k)) found (at_home k))
    where
      at : (out : Option CheckedOut) → get hands k ≡ out → AreOne C.tenants C.contents.max_blob k (Some s) out (get m k) → (get hands k ≡ None) × (get m k ≡ Some s)
      at None none one = (none, one.1)
      at (Some out) is one = absurd (false≢true (ap are_checked_in (sym one.0.chunks) ∙ home))

  pub found_none : (k : SessionNumber) → get C.sessions k ≡ None → get hands k ≡ None
  found_none k none = at (get hands k) refl (subst (λ o. AreOne C.tenants C.contents.max_blob k o (get hands k) (get m k)) none (at_home k))
    where
      at : (out : Option CheckedOut) → get hands k ≡ out → AreOne C.tenants C.contents.max_blob k None out (get m k) → get hands k ≡ None
      at None is one = is
      at (Some out) is one = absurd one

  -- the session of a checked-out hand
  pub found_out : (k : SessionNumber) (out : CheckedOut) → get hands k ≡ Some out → (s : Session) × (get C.sessions k ≡ Some s) × IsLent C.tenants C.contents.max_blob k s out × (get m k ≡ Some (record s { chunks = CheckedIn out.hand.chunks }))
  found_out k out is = at (get C.sessions k) refl (subst (λ o. AreOne C.tenants C.contents.max_blob k (get C.sessions k) o (get m k)) is (at_home k))
    where
      at : (s : Option Session) → get C.sessions k ≡ s → AreOne C.tenants C.contents.max_blob k s (Some out) (get m k) →
          (s : Session) × (get C.sessions k ≡ Some s) × IsLent C.tenants C.contents.max_blob k s out × (get m k ≡ Some (record s { chunks = CheckedIn out.hand.chunks }))
      at None found one = absurd one
      at (Some s) found one = (s, found, one.0, one.1)

  -- ---- one session changes

  at_key : (k : SessionNumber) (after : Sessions) (hands' : CheckedOutSessions) (m' : Sessions) →
      ((q : SessionNumber) → q ≢ k → (get after q ≡ get C.sessions q) × (get hands' q ≡ get hands q) × (get m' q ≡ get m q)) →
      AreOne C.tenants C.contents.max_blob k (get after k) (get hands' k) (get m' k) → AtHome hands' (record C { sessions = after }) m'
  at_key k after hands' m' elsewhere here q = elim (cases_key number_cmp_total exact_number q k) [
    | inl e ↦ subst (λ (x : SessionNumber). AreOne C.tenants C.contents.max_blob x (get after x) (get hands' x) (get m' x)) (sym e) here
    | inr other ↦ let same = elsewhere q other in as_found C.tenants C.contents.max_blob q same.0 same.1 same.2 (at_home q)
  ]

  pub insert_home : (k : SessionNumber) (s : Session) → get hands k ≡ None → are_checked_in s.chunks ≡ true → AtHome hands (record C { sessions = insert C.sessions k s }) (insert m k s)
  insert_home k s none home = at_key k (insert C.sessions k s) hands (insert m k s)
      (λ q other. (get-insert_other number_cmp_total exact_number C.sessions k s q other, refl, get-insert_other number_cmp_total exact_number m k s q other))
      (as_found C.tenants C.contents.max_blob k (get-insert_at number_cmp_total exact_number C.sessions k s) none (get-insert_at number_cmp_total exact_number m k s) (home, refl))

  pub remove_home : (k : SessionNumber) → get hands k ≡ None → AtHome hands (record C { sessions = remove C.sessions k }) (remove m k)
  remove_home k none = at_key k (remove C.sessions k) hands (remove m k)
      (λ q other. (get-remove_other number_cmp_total exact_number C.sessions k q other, refl, get-remove_other number_cmp_total exact_number m k q other))
      (as_found C.tenants C.contents.max_blob k (get-remove_same number_cmp_total exact_number C.sessions k) none (get-remove_same number_cmp_total exact_number m k) refl)

  -- a session that is checked out is still checked in here
  pub lend : (k : SessionNumber) (s : Session) (n : ℕ) (out : CheckedOut) → get C.sessions k ≡ Some s → s.chunks ≡ CheckedIn out.hand.chunks → IsLent C.tenants C.contents.max_blob k (record s { chunks = CheckedOutWith (received_length s) n }) out →
      AtHome (insert hands k out) (record C { sessions = with_chunks C.sessions k s (CheckedOutWith (received_length s) n) }) m
  lend k s n out found home lent = at_key k (with_chunks C.sessions k s (CheckedOutWith (received_length s) n)) (insert hands k out) m
      (λ q other. (get-insert_other number_cmp_total exact_number C.sessions k _ q other, get-insert_other number_cmp_total exact_number hands k out q other, refl))
      (as_found C.tenants C.contents.max_blob k (get-insert_at number_cmp_total exact_number C.sessions k _) (get-insert_at number_cmp_total exact_number hands k out) refl
      (lent, (found_home k s found (ap are_checked_in home)).1 ∙ (λ i. Some (record s { chunks = home i }))))

  -- a session that is checked in is unchanged
  pub bring : (k : SessionNumber) (s : Session) (out : CheckedOut) → get m k ≡ Some (record s { chunks = CheckedIn out.hand.chunks }) → AtHome (remove hands k) (record C { sessions = with_chunks C.sessions k s (CheckedIn out.hand.chunks) }) m
  bring k s out same = at_key k (with_chunks C.sessions k s (CheckedIn out.hand.chunks)) (remove hands k) m
      (λ q other. (get-insert_other number_cmp_total exact_number C.sessions k _ q other, get-remove_other number_cmp_total exact_number hands k q other, refl))
      (as_found C.tenants C.contents.max_blob k (get-insert_at number_cmp_total exact_number C.sessions k _) (get-remove_same number_cmp_total exact_number hands k) refl (refl, same))

  -- ---- counts and sums

  abbrev home : Catalog
  home = record C { sessions = m }

  pub open_home : (t : ℕ) → open_sessions C t ≡ open_sessions home t
  open_home t = sum_alike number_cmp_total exact_number (one_more t) (one_more t) C.sessions m (λ q. at q (get C.sessions q) (get hands q) (get m q) (at_home q))
    where
      at : (q : SessionNumber) (s : Option Session) (out : Option CheckedOut) (h : Option Session) → AreOne C.tenants C.contents.max_blob q s out h → term (one_more t) q s ≡ term (one_more t) q h
      at q None None h is = sym (ap (term (one_more t) q) is)
      at q None (Some out) h is = absurd is
      at q (Some s) None h is = sym (ap (term (one_more t) q) is.1)
      at q (Some s) (Some out) h is = sym (ap (term (one_more t) q) is.1)

  pub sessions_home : (r : Text) → has_sessions C r ≡ has_sessions home r
  sessions_home r =
      list_any_count (λ e. same_text e.1.repo r) (entries C.sessions)
      ∙ ap (nat_lt 0) (sum_alike number_cmp_total exact_number one one C.sessions m (λ q. at q (get C.sessions q) (get hands q) (get m q) (at_home q)))
      ∙ sym (list_any_count (λ e. same_text e.1.repo r) (entries m))
    where
      one : SessionNumber × Session → ℕ
      one e = cond (same_text e.1.repo r) 1 0

      at : (q : SessionNumber) (s : Option Session) (out : Option CheckedOut) (h : Option Session) → AreOne C.tenants C.contents.max_blob q s out h → term one q s ≡ term one q h
      at q None None h is = sym (ap (term one q) is)
      at q None (Some out) h is = absurd is
      at q (Some s) None h is = sym (ap (term one q) is.1)
      at q (Some s) (Some out) h is = sym (ap (term one q) is.1)

  -- the reserved bytes are used in addition
  pub used_home : (t : ℕ) → used_bytes home t ≤ used_bytes C t
  used_home t =
      let parts : session_charges_of C t ≡ sum_by (brings t) (entries C.sessions) + sum_by (reserves t) (entries C.sessions) = sum_by-add (brings t) (reserves t) (session_charge t) (λ e. both (e.0.0 == t) (received_length e.1) (reserved_of e.1.chunks)) (entries C.sessions) in
      let same : sum_by (brings t) (entries C.sessions) ≡ session_charges_of home t = sum_alike number_cmp_total exact_number (brings t) (session_charge t) C.sessions m (λ q. at q (get C.sessions q) (get hands q) (get m q) (at_home q)) in
      omega arith
    where
      both : (b : Bool) (x y : ℕ) → (if b then x + y else 0) ≡ (if b then x else 0) + (if b then y else 0)
      both true x y = refl
      both false x y = refl

      at : (q : SessionNumber) (s : Option Session) (out : Option CheckedOut) (h : Option Session) → AreOne C.tenants C.contents.max_blob q s out h → term (brings t) q s ≡ term (session_charge t) q h
      at q None None h is = sym (ap (term (session_charge t) q) is)
      at q None (Some out) h is = absurd is
      at q (Some s) None h is = ap (λ n. if q.0 == t then n else 0) (sym (counts s is.0)) ∙ sym (ap (term (session_charge t) q) is.1)
        where
          counts : (x : Session) → are_checked_in x.chunks ≡ true → charged_length x ≡ received_length x
          counts x home = by x.chunks refl home
            where
              by : (c : Chunks) → x.chunks ≡ c → are_checked_in c ≡ true → charged_length x ≡ received_length x
              by (CheckedIn chunks) is home = home_charged x chunks is
              by (CheckedOutWith n r) is home = absurd (false≢true home)
      at q (Some s) (Some out) h is =
          (let n : received_length s ≡ sum_by length out.hand.chunks + 0 = rw is.0.chunks (omega arith) in ap (λ n. if q.0 == t then n else 0) n) ∙ sym (ap (term (session_charge t) q) is.1)
