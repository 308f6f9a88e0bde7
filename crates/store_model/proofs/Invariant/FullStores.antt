-- If the tenants' shares fit the slots, a store that is full for a tenant within its share has an orphan or a retired slot.
use Rattle.std.proofs.Common.{◌≡◌, ℕ, ◌+◌, ◌<◌, ◌≤◌, Bool, true, false, cond, not, List, [], ◌∷◌, length, Option, Some, None, is_some, Result, Ok, Err, refl, sym, ap, ◌∙◌, subst, arith}
use Prim.Native.Nat.{zero, suc}
use Rattle.std.specs.Prelude.{◌&&◌, ◌||◌, nat_le, nat_lt, slice_get, if◌then◌else◌}
use Rattle.std.specs.Option.{ok_or, option_map_or}
use Rattle.std.specs.Cmp.Lexicographic.{nat_list_cmp_total}
use Rattle.std.specs.List.{count_by, list_any, sum_by}
use Rattle.std.specs.FinMap.{contains_key, entries, get, len, len-entries}
use Rattle.std.proofs.lemmas.Bool.{and_parts, eqb-false, leb-false, leb-true, lt-ltb, not-true, or_right}
use Rattle.std.proofs.lemmas.List.Sums.{sum_by-cons}
use Rattle.std.proofs.lemmas.Map.Lookups.{exact_bytes}
use Rattle.blob_digest.specs.declared.range.ByteRange.{ByteRange}
use Rattle.blob_digest.specs.declared.refusal.Refusal.{Refusal}
use Rattle.blob_digest.specs.declared.refusal.Refusal.TheVariants.{DigestInvalid, LimitReached, NameUnknown, RangeInvalid, SizeInvalid, StoreFull, UploadUnknown}
use Rattle.spec_lib.specs.Outcomes.{◌>>=◌, refuse}
use Rattle.spec_lib.specs.Sets as set
use Rattle.spec_lib.specs.Texts.{Text, same_text}
use Rattle.store_model.specs.Catalog.{Catalog, HandRecord, Resident, Session, Tenant, held_count, held_digests, holds, link_count, received_length, share_of, tenant_holds, tenant_of}
use Rattle.store_model.specs.Commands.{check_quota, check_share, chunk_length_check, content_in, is_digest_accepted, is_full_for, passes_share, tenant}
use Rattle.store_model.specs.Invariant.{Sound, WellFormed}
use Rattle.store_model.specs.Sessions.{Chunks, are_of_hand, CheckedIn, CheckedOutWith, hand_content, has_other_length, length_after, not_busy, session_in, session_of_hand, starts_elsewhere}
use Rattle.store_model.specs.Shares.{AtClose, AtFinish, FullStoresHaveOrphans, IsFull, SharesFit, SweptStoresAreFullByLeases, orphan_count}
use Rattle.store_model.specs.Sweep.{IsAfterSweep, is_orphan}
use Rattle.spec_lib.proofs.Lists.{count_by-none, list_any_count, sum_by-ones}
use Rattle.spec_lib.proofs.Maps.{sum_alike, term}
use Rattle.spec_lib.proofs.Options.{no_value, some_value}
use Rattle.spec_lib.proofs.Outcomes.{not_refused, some_of_ok}
use Rattle.store_model.proofs.Commands.Accepted.{tenant_there}
use Rattle.store_model.proofs.Commands.Hands.{taken_found}
use Rattle.store_model.proofs.Commands.Sweep.{Sound-sweep}
use Rattle.store_model.proofs.Durable.Uses.{sum_within}
use Rattle.store_model.proofs.Invariant.Bounds.{count_by-or, count_by-split}
use Rattle.store_model.proofs.Invariant.DistinctUse.{contains-held_digests, some_member}
use Rattle.store_model.proofs.Invariant.Links.{is_held, is_unheld, unlinked}
use Rattle.store_model.proofs.Invariant.Repos.{is_own}
use Rattle.store_model.proofs.Invariant.SessionTenants.{session_tenant}
use Rattle.store_model.proofs.Invariant.Shares.{items_len}

-- ---- elements counted by tenant

-- whether an element passes the test of one of the tenants, which are numbered from 0
abbrev any_tenant : {A : Type 0} → List Tenant → (ℕ → A → Bool) → A → Bool
any_tenant [] h x = false
any_tenant (t ∷ ts) h x = h 0 x || any_tenant ts (λ u. h (suc u)) x

any_tenant_at : {A : Type 0} (ts : List Tenant) (h : ℕ → A → Bool) (u : ℕ) (x : A) → u < length ts → h u x ≡ true → any_tenant ts h x ≡ true
any_tenant_at [] h u x there is = absurd (omega arith)
any_tenant_at (t ∷ ts) h zero x there is = ap (λ b. b || any_tenant ts (λ u. h (suc u)) x) is
any_tenant_at (t ∷ ts) h (suc u) x there is = or_right (h 0 x) (any_tenant ts (λ v. h (suc v)) x) (any_tenant_at ts (λ v. h (suc v)) u x (omega arith) is)

abbrev share_at : List Tenant → ℕ → ℕ
share_at ts u = option_map_or (λ x. x.share) (slice_get ts u) 0

abbrev shares : List Tenant → ℕ
shares ts = sum_by (λ (t : Tenant). t.share) ts

module _ {A : Type 0} (xs : List A) where
  -- if no tenant's elements exceed its share, all of them are within the sum of the shares
  within_shares : (ts : List Tenant) (h : ℕ → A → Bool) → ((u : ℕ) → u < length ts → count_by (h u) xs ≤ share_at ts u) → count_by (any_tenant ts h) xs ≤ shares ts
  within_shares [] h keeps = let none : count_by (any_tenant [] h) xs ≡ 0 = count_by-none (any_tenant [] h) (λ x. refl) xs in omega arith
  within_shares (t ∷ ts) h keeps =
      let first : count_by (h 0) xs ≤ t.share = keeps 0 (omega arith) in
      let rest = within_shares ts (λ u. h (suc u)) (λ u there. keeps (suc u) (omega arith)) in
      let both = count_by-or (any_tenant (t ∷ ts) h) (h 0) (any_tenant ts (λ u. h (suc u))) (λ x is. is) xs in
      let sum : shares (t ∷ ts) ≡ t.share + shares ts = sum_by-cons (λ (x : Tenant). x.share) t ts in
      omega arith

  -- and if one of them has fewer than its share, they are fewer than the sum
  below_shares : (ts : List Tenant) (h : ℕ → A → Bool) (k : ℕ) → k < length ts → count_by (h k) xs < share_at ts k → ((u : ℕ) → u < length ts → count_by (h u) xs ≤ share_at ts u) → count_by (any_tenant ts h) xs < shares ts
  below_shares [] h k there fewer keeps = absurd (omega arith)
  below_shares (t ∷ ts) h zero there fewer keeps =
      let first : count_by (h 0) xs < t.share = fewer in
      let rest = within_shares ts (λ u. h (suc u)) (λ u there. keeps (suc u) (omega arith)) in
      let both = count_by-or (any_tenant (t ∷ ts) h) (h 0) (any_tenant ts (λ u. h (suc u))) (λ x is. is) xs in
      let sum : shares (t ∷ ts) ≡ t.share + shares ts = sum_by-cons (λ (x : Tenant). x.share) t ts in
      omega arith
  below_shares (t ∷ ts) h (suc k) there fewer keeps =
      let first : count_by (h 0) xs ≤ t.share = keeps 0 (omega arith) in
      let rest = below_shares ts (λ u. h (suc u)) k (omega arith) fewer (λ u there. keeps (suc u) (omega arith)) in
      let both = count_by-or (any_tenant (t ∷ ts) h) (h 0) (any_tenant ts (λ u. h (suc u))) (λ x is. is) xs in
      let sum : shares (t ∷ ts) ≡ t.share + shares ts = sum_by-cons (λ (x : Tenant). x.share) t ts in
      omega arith

-- ---- the blobs of a full store

in_set : (x : Option (Unit {0})) → ◌≡◌ {A = ℕ} (option_map_or (λ _. 1) x 0) (cond (is_some x) 1 0)
in_set None = refl
in_set (Some u) = refl

module _ (C : Catalog) (sound : Sound C) where
  abbrev lawful : WellFormed C
  lawful = sound.lawful

  abbrev blobs : List (Text × Resident)
  blobs = entries C.residents

  -- whether a tenant holds a stored blob
  abbrev holder : ℕ → Text × Resident → Bool
  holder u e = tenant_holds C u e.0

  -- the number of stored blobs that a tenant holds is that of its digests
  held_blobs : (u : ℕ) → count_by (holder u) blobs ≡ held_count C u
  held_blobs u =
      sum_alike nat_list_cmp_total exact_bytes one unit C.residents (held_digests C u) (λ d. at d (get C.residents d) refl)
      ∙ sum_by-ones (entries (held_digests C u)) ∙ sym (len-entries (held_digests C u)) ∙ sym (items_len (held_digests C u))
    where
      one : Text × Resident → ℕ
      one e = cond (tenant_holds C u e.0) 1 0

      unit : Text × Unit {0} → ℕ
      unit e = 1

      held : (d : Text) → term unit d (get (held_digests C u) d) ≡ cond (tenant_holds C u d) 1 0
      held d = in_set (get (held_digests C u) d) ∙ ap (λ b. cond {A = ℕ} b 1 0) (contains-held_digests C lawful u d)

      at : (d : Text) (x : Option Resident) → get C.residents d ≡ x → term one d x ≡ term unit d (get (held_digests C u) d)
      at d None none = sym (held d ∙ ap (λ b. cond {A = ℕ} b 1 0) (is_unheld C u d (unlinked C lawful d none)))
      at d (Some b) found = sym (held d)

  -- each blob that is no orphan is held by some tenant
  has_holder : (e : Text × Resident) → is_orphan C e.0 ≡ false → any_tenant C.tenants holder e ≡ true
  has_holder e linked =
      let counted : 0 < link_count C e.0 = (let differ = eqb-false (link_count C e.0) 0 linked in omega (arith, differ)) in
      let some : list_any (λ r. holds C r e.0) (set.items C.repos) ≡ true = list_any_count (λ r. holds C r e.0) (set.items C.repos) ∙ lt-ltb 0 (link_count C e.0) counted in
      let r = some_member nat_list_cmp_total exact_bytes (λ r. holds C r e.0) C.repos some in
      let t = some_value (tenant_of C.tenants r.0) (lawful.repositories.owned r.0 r.1) in
      any_tenant_at C.tenants holder t.0 e (tenant_there C.tenants r.0 t.0 t.1) (is_held C t.0 r.0 e.0 r.1 (is_own C t.0 r.0 t.1) r.2)

  pub full_for_tenant : SharesFit C → (t : ℕ) (d : Text) → t < length C.tenants → passes_share C t d ≡ false → is_full_for C d ≡ true → 0 < orphan_count C + C.retired
  full_for_tenant fit t d there admits full =
      let both = and_parts (not (contains_key C.residents d)) (nat_le C.slots (len C.residents + C.retired)) full in
      let unheld : tenant_holds C t d ≡ false = is_unheld C t d (unlinked C lawful d (no_value (get C.residents d) (not-true (contains_key C.residents d) both.0))) in
      let fewer : held_count C t < share_of C t = leb-false (share_of C t) (held_count C t) (sym (ap (λ b. not b && nat_le (share_of C t) (held_count C t)) unheld) ∙ admits) in
      let more : C.slots ≤ len C.residents + C.retired = leb-true C.slots (len C.residents + C.retired) both.1 in
      let few : count_by (any_tenant C.tenants holder) blobs < shares C.tenants =
      below_shares blobs C.tenants holder t there (let same = held_blobs t in omega arith) (λ u inside. let same = held_blobs u in let keeps = sound.shares u inside in omega arith) in
      let parts = count_by-split (λ e. is_orphan C e.0) blobs in
      let all = len-entries C.residents in
      let none : count_by (λ (e : Text × Resident). false) blobs ≡ 0 = count_by-none (λ (e : Text × Resident). false) (λ e. refl) blobs in
      let less = count_by-or (λ e. not (is_orphan C e.0)) (any_tenant C.tenants holder) (λ e. false) (λ e is. ap (λ b. b || false) (has_holder e (not_orphan (is_orphan C e.0) is))) blobs in
      omega arith
    where
      not_orphan : (b : Bool) → not b ≡ true → b ≡ false
      not_orphan false h = refl
      not_orphan true h = cc

-- ---- the commands that may find no slot

-- a check that does not fail with `StoreFull`
abbrev IsOther : {A : Type 0} → Result A Refusal → Type 0
IsOther x = x ≡ Err StoreFull → ⊥

-- the failure is that of a later step
through : {A X P : Type 0} (x : Result X Refusal) (f : X → Result A Refusal) → IsOther x → ((a : X) → x ≡ Ok a → f a ≡ Err StoreFull → P) → (x >>= f) ≡ Err StoreFull → P
through (Ok a) f other later h = later a refl h
through (Err e) f other later h = absurd (let same : e ≡ StoreFull = cc in other (ap (λ (r : Refusal). Err r) same))

other_refusal : (b : Bool) (e : Refusal) → (e ≡ StoreFull → ⊥) → IsOther (refuse b e)
other_refusal true e differ h = let same : e ≡ StoreFull = cc in differ same
other_refusal false e differ h = absurd cc

other_option : {A : Type 0} (o : Option A) (e : Refusal) → (e ≡ StoreFull → ⊥) → IsOther (ok_or o e)
other_option None e differ h = let same : e ≡ StoreFull = cc in differ same
other_option (Some x) e differ h = absurd cc

other_bind : {A X : Type 0} (x : Result X Refusal) (f : X → Result A Refusal) → IsOther x → ((a : X) → IsOther (f a)) → IsOther (x >>= f)
other_bind x f first later h = through x f first (λ a _ h. later a h) h

other_session : (o : Option Session) (repo : Text) → IsOther (session_in o repo)
other_session None repo h = absurd cc
other_session (Some s) repo h = by (same_text s.repo repo) h
  where
    by : (b : Bool) → IsOther (if b then Ok s else Err UploadUnknown)
    by true h = absurd cc
    by false h = absurd cc

other_busy : (chunks : Chunks) → IsOther (not_busy chunks)
other_busy (CheckedIn chunks) h = absurd cc
other_busy (CheckedOutWith received reserved) h = absurd cc

other_length : (max_blob before n : ℕ) (range : Option ByteRange) → IsOther (length_after max_blob before range n)
other_length max_blob before n range =
    other_bind (refuse (has_other_length range n || nat_lt max_blob (before + n)) SizeInvalid) _ (other_refusal _ SizeInvalid (λ e. absurd cc)) (λ _.
    other_bind (refuse (starts_elsewhere range before) (RangeInvalid before)) _ (other_refusal _ (RangeInvalid before) (λ e. absurd cc)) (λ _ h. absurd cc))

other_check : (C : Catalog) (t : ℕ) (repo : Text) (number : ℕ) (range : Option ByteRange) (n : ℕ) → IsOther (chunk_length_check C t repo number range n)
other_check C t repo number range n = other_bind (session_in (get C.sessions (t, number)) repo) _ (other_session (get C.sessions (t, number)) repo) (λ s. other_bind (not_busy s.chunks) _ (other_busy s.chunks) (λ _. other_length C.contents.max_blob (received_length s) n range))

other_hand : (o : Option Session) (h : HandRecord) → IsOther (session_of_hand o h)
other_hand None h is = absurd cc
other_hand (Some s) h is = by (are_of_hand h s.chunks) is
  where
    by : (b : Bool) → IsOther (if b then Ok s else Err UploadUnknown)
    by true is = absurd cc
    by false is = absurd cc

last_step : {B : Type 0} (b : Bool) (x : B) → ◌≡◌ {A = Result B Refusal} (refuse b StoreFull >>= λ _. Ok x) (Err StoreFull) → b ≡ true
last_step true x h = refl
last_step false x h = absurd cc

module _ (C : Catalog) (sound : Sound C) (fit : SharesFit C) where
  full_by_orphans : IsFull C → 0 < orphan_count C + C.retired
  full_by_orphans (AtClose repo number d range last is) =
      through (tenant C repo) _ (other_option (tenant_of C.tenants repo) NameUnknown (λ e. absurd cc)) (λ t known.
      through (chunk_length_check C t repo number range (length last)) _ (other_check C t repo number range (length last)) (λ _ _.
      through (check_quota C t (length last)) _ (other_refusal _ _ (λ e. absurd cc)) (λ _ _.
      through (refuse (not (is_digest_accepted C d (content_in C.sessions (t, number) last))) DigestInvalid) _ (other_refusal _ DigestInvalid (λ e. absurd cc)) (λ _ _.
      through (check_share C t d) _ (other_refusal _ LimitReached (λ e. absurd cc)) (λ u admits h.
      full_for_tenant C sound fit t d (tenant_there C.tenants repo t (some_of_ok (tenant_of C.tenants repo) NameUnknown t known)) (not_refused (passes_share C t d) LimitReached u admits) (last_step (is_full_for C d) _ h)))))) is
  full_by_orphans (AtFinish hand d is) =
      through (session_of_hand (get C.sessions hand.key) hand) _ (other_hand (get C.sessions hand.key) hand) (λ s here.
      through (refuse (not (is_digest_accepted C d (hand_content hand))) DigestInvalid) _ (other_refusal _ DigestInvalid (λ e. absurd cc)) (λ _ _.
      through (check_share C hand.key.0 d) _ (other_refusal _ LimitReached (λ e. absurd cc)) (λ u admits h.
      full_for_tenant C sound fit hand.key.0 d (session_tenant C lawful_here hand.key s (taken_found (get C.sessions hand.key) hand s here).0) (not_refused (passes_share C hand.key.0 d) LimitReached u admits) (last_step (is_full_for C d) _ h)))) is
    where
      lawful_here : WellFormed C
      lawful_here = sound.lawful

pub full_stores_have_orphans : FullStoresHaveOrphans
full_stores_have_orphans C sound fit full = full_by_orphans C sound fit full

-- ---- after a sweep

-- each orphan that a sweep left is condemned
pub swept_stores_are_full_by_leases : SweptStoresAreFullByLeases
swept_stores_are_full_by_leases C C' swept sound fit sweep full =
    let sound' : Sound C' = Sound-sweep (λ _. true) C C' swept sweep sound.lawful sound.quotas sound.shares sound.slots in
    let fit' : SharesFit C' = subst (λ (D : Catalog). SharesFit D) (sym sweep.rest) fit in
    let some = full_by_orphans C' sound' fit' full in
    let held = sweep.held in
    let few : orphan_count C' ≤ count_by (λ (e : Text × Resident). e.1.condemned) (entries C'.residents) = orphans_condemned in
    omega arith
  where
    same_orphans : (d : Text) → is_orphan C' d ≡ is_orphan C d
    same_orphans d = ap (λ (D : Catalog). is_orphan D d) sweep.rest

    condemned : (d : Text) (b : Resident) → get C'.residents d ≡ Some b → is_orphan C' d ≡ true → b.condemned ≡ true
    condemned d b found orphan = by (get C.residents d) refl
      where
        by : (o : Option Resident) → get C.residents d ≡ o → b.condemned ≡ true
        by None none = absurd (let nothing = sweep.no_others d none in let h : Some b ≡ None = sym found ∙ nothing in cc)
        by (Some x) was =
            let left : IsAfterSweep true x (Some b) = subst (λ o. IsAfterSweep true x o) found (subst (λ p. IsAfterSweep p x (get C'.residents d)) (sym (same_orphans d) ∙ orphan) (sweep.orphans d x was)) in
            ap (λ (y : Resident). y.condemned) left.1

    orphans_condemned : orphan_count C' ≤ count_by (λ (e : Text × Resident). e.1.condemned) (entries C'.residents)
    orphans_condemned = sum_within nat_list_cmp_total exact_bytes (λ (e : Text × Resident). cond (is_orphan C' e.0) 1 0) (λ (e : Text × Resident). cond e.1.condemned 1 0) C'.residents C'.residents (λ d. at d (get C'.residents d) refl)
      where
        either : (a b : Bool) → (a ≡ true → b ≡ true) → cond {A = ℕ} a 1 0 ≤ cond b 1 0
        either false b gives = omega arith
        either true true gives = omega arith
        either true false gives = absurd (let h : false ≡ true = gives refl in cc)

        at : (d : Text) (o : Option Resident) → get C'.residents d ≡ o → term (λ (e : Text × Resident). cond {A = ℕ} (is_orphan C' e.0) 1 0) d o ≤ term (λ (e : Text × Resident). cond {A = ℕ} e.1.condemned 1 0) d o
        at d None found = omega arith
        at d (Some b) found = either (is_orphan C' d) b.condemned (condemned d b found)
