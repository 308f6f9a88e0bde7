-- An accepted finish keeps a catalog sound: the session's bytes become the blob's, which the tenant uses once.
use Rattle.std.proofs.Common.{◌≡◌, ◌≢◌, ℕ, ◌+◌, ◌<◌, ◌≤◌, Bool, true, false, cond, not, length, Option, Some, None, Ok, refl, sym, ap, ◌∙◌, subst, arith, inl, inr}
use Rattle.std.specs.Prelude.{◌&&◌, nat_le, if◌then◌else◌}
use Rattle.std.specs.Cmp.Lexicographic.{nat_list_cmp_total}
use Rattle.std.specs.FinMap.{get, insert, len}
use Rattle.std.proofs.lemmas.Bool.{cases_eq, leb-false, not-false, and_parts}
use Rattle.std.proofs.lemmas.Map.Lookups.{exact_bytes}
use Rattle.blob_digest.specs.declared.refusal.Refusal.TheVariants.{DigestInvalid}
use Rattle.spec_lib.specs.Sets as set
use Rattle.spec_lib.specs.Texts.{Text}
use Rattle.store_model.specs.Catalog.{Session, Resident, Catalog, HandRecord, charged_length, tenant_of, tenant_holds, held_count, held_digests, used_bytes, quota_of, share_of, ContentRules}
use Rattle.store_model.specs.Commands.{check_share, finish, has_slot, is_full_for, passes_share, is_digest_accepted, fits_stored, with_stored_blob, session_of_hand, was_leased, hand_content, is_named}
use Rattle.spec_lib.specs.Outcomes.{refuse}
use Rattle.store_model.specs.Invariant.{WellFormed, KeepsQuotas, KeepsShares, FitsSlots, Sound}
use Rattle.spec_lib.proofs.Maps.{get-insert_at}
use Rattle.store_model.proofs.Invariant.Repos.{is_own, is_no_other}
use Rattle.store_model.proofs.Invariant.Blobs.{WellFormed-put, used_bytes-put, FitsSlots-put}
use Rattle.store_model.proofs.Invariant.Links.{WellFormed-link, used_other-link}
use Rattle.store_model.proofs.Invariant.Sessions.{WellFormed-gone, used_bytes-gone, used_other-gone}
use Rattle.store_model.proofs.Invariant.Use.{used_bytes-link}
use Rattle.store_model.proofs.Invariant.DistinctUse.{contains-held_digests}
use Rattle.store_model.proofs.Invariant.Shares.{held_count-link, held_other-link}
use Rattle.store_model.proofs.Commands.Hands.{taken_found, whole_long, IsProper}
use Rattle.spec_lib.proofs.Outcomes.{bound_ok, not_refused}
use Rattle.store_model.proofs.Commands.Fits.{fits_long}
use Rattle.store_model.proofs.Commands.Accepted.{left_by, answer_by}
use Rattle.store_model.proofs.Invariant.SessionTenants.{session_owner, session_tenant}
use Rattle.store_model.specs.Sessions.{HasNoOpenReserve}

-- a content that fits the stored blob is as long
bytes_kept : (rules : ContentRules) (x : Option Resident) (bytes : Text) → fits_stored rules x bytes ≡ true → (old : Resident) → x ≡ Some old → length old.bytes ≡ length bytes
bytes_kept rules None bytes same old e = absurd cc
bytes_kept rules (Some b) bytes same old e = let is : b ≡ old = cc in ap (λ (y : Resident). length y.bytes) (sym is) ∙ fits_long rules.on_disk b.bytes bytes same

module _ (C : Catalog) (t number : ℕ) (repo digest whole : Text) (s : Session) (lawful : WellFormed C) (known : tenant_of C.tenants repo ≡ Some t) (found : get C.sessions (t, number) ≡ Some s) (of_repo : s.repo ≡ repo) (same : fits_stored C.contents (get C.residents digest) whole ≡ true) where
  abbrev blob : Resident
  blob = record { bytes = whole; condemned = false; lent = was_leased (get C.residents digest) }

  abbrev put : Catalog
  put = record C { residents = insert C.residents digest blob }

  abbrev linked : Catalog
  linked = record put { links = set.insert C.links (repo, digest) }

  abbrev after : Catalog
  after = with_stored_blob C t repo number digest whole

  there : set.contains C.repos repo ≡ true
  there = ap (λ (r : Text). set.contains C.repos r) (sym of_repo) ∙ (lawful.sessions (t, number) s found).repo

  now_kept : get put.residents digest ≡ Some blob
  now_kept = get-insert_at nat_list_cmp_total exact_bytes C.residents digest blob

  module _ (is_digest : is_named C.contents digest whole ≡ true) where
    pub WellFormed-close : WellFormed after
    WellFormed-close = WellFormed-gone linked (t, number) (WellFormed-link put repo digest (WellFormed-put C digest blob refl lawful is_digest) there blob now_kept refl)

  -- the session's length is removed, and the blob's is added if the tenant did not have it
  pub used_bytes-close : used_bytes after t + charged_length s + (if tenant_holds C t digest then length whole else 0) ≡ used_bytes C t + length whole
  used_bytes-close =
      let a : used_bytes put t ≡ used_bytes C t = used_bytes-put C digest blob lawful (bytes_kept C.contents (get C.residents digest) whole same) t in
      let b : used_bytes linked t + (if tenant_holds C t digest then length whole else 0) ≡ used_bytes put t + length whole = used_bytes-link put t repo digest blob there (is_own C t repo known) now_kept in
      let c : used_bytes linked t ≡ used_bytes after t + charged_length s = used_bytes-gone linked (t, number) s found in
      omega arith

  pub used_other-close : (u : ℕ) → u ≢ t → used_bytes after u ≡ used_bytes C u
  used_other-close u other =
      let a : used_bytes put u ≡ used_bytes C u = used_bytes-put C digest blob lawful (bytes_kept C.contents (get C.residents digest) whole same) u in
      let b : used_bytes linked u ≡ used_bytes put u = used_other-link put repo digest u (is_no_other C t u repo known other) in
      let c : used_bytes linked u ≡ used_bytes after u = used_other-gone linked (t, number) s found u other in
      omega arith

  pub KeepsQuotas-close : (n : ℕ) → length whole ≡ charged_length s + n → used_bytes C t + n ≤ quota_of C t → KeepsQuotas C → KeepsQuotas after
  KeepsQuotas-close n long within keeps = λ u in_tenants. elim (cases_eq u t) [
    | inl e ↦ rw e (let sum = used_bytes-close in omega arith)
    | inr other ↦ let alike = used_other-close u other in let k = keeps u in_tenants in omega arith
  ]

  held_count-close : held_count after t ≡ cond (set.contains (held_digests C t) digest) (held_count C t) (held_count C t + 1)
  held_count-close = held_count-link C t repo digest (is_own C t repo known)

  -- the tenant held the digest before, or holds one more within its share
  within_share : (b : Bool) → tenant_holds C t digest ≡ b → (not b && nat_le (share_of C t) (held_count C t)) ≡ false → held_count C t ≤ share_of C t → held_count after t ≤ share_of C t
  within_share true has admits keeps =
      let same : held_count after t ≡ held_count C t = held_count-close ∙ ap (λ b. cond b (held_count C t) (held_count C t + 1)) (contains-held_digests C lawful t digest ∙ has) in
      omega arith
  within_share false has admits keeps =
      let room : held_count C t < share_of C t = leb-false (share_of C t) (held_count C t) admits in
      let more : held_count after t ≡ held_count C t + 1 = held_count-close ∙ ap (λ b. cond b (held_count C t) (held_count C t + 1)) (contains-held_digests C lawful t digest ∙ has) in
      omega arith

  pub KeepsShares-close : passes_share C t digest ≡ false → KeepsShares C → KeepsShares after
  KeepsShares-close admits keeps = λ u there. elim (cases_eq u t) [
    | inl e ↦ rw e (within_share (tenant_holds C t digest) refl admits (subst (λ n. held_count C n ≤ share_of C n) e (keeps u there)))
    | inr other ↦ let same : held_count after u ≡ held_count C u = held_other-link C u repo digest (is_no_other C t u repo known other) in let k = keeps u there in omega arith
  ]

  pub FitsSlots-close : is_full_for C digest ≡ false → FitsSlots C → FitsSlots after
  FitsSlots-close free fits =
      let f = FitsSlots-put C digest blob fits (λ new. leb-false C.slots (len C.residents + C.retired) (sym (ap (λ b. not b && nat_le C.slots (len C.residents + C.retired)) new) ∙ free)) in
      record { some = f.some; few = f.few; fit = f.fit }

module _ (C C' : Catalog) (h : HandRecord) (digest : Text) (n : ℕ) (proper : IsProper h) (full : HasNoOpenReserve h) (stepped : finish C h digest ≡ Ok (n, C')) where
  -- facts about an accepted finish
  pub record Finished : Type 0 where
    pub s : Session
    pub here : session_of_hand (get C.sessions h.key) h ≡ Ok s
    pub named : is_digest_accepted C digest (hand_content h) ≡ true
    pub admitted : check_share C h.key.0 digest ≡ Ok tt
    pub housed_ok : has_slot C digest ≡ Ok tt
    pub answer : length (hand_content h) ≡ n
    pub left : with_stored_blob C h.key.0 s.repo h.key.1 digest (hand_content h) ≡ C'

  pub finished : Finished
  finished =
      let a = bound_ok (session_of_hand (get C.sessions h.key) h) _ (n, C') stepped in
      let d = bound_ok (refuse (not (is_digest_accepted C digest (hand_content h))) DigestInvalid) _ (n, C') a.2 in
      let share = bound_ok (check_share C h.key.0 digest) _ (n, C') d.2 in
      let e = bound_ok (has_slot C digest) _ (n, C') share.2 in
      record { s = a.0; here = a.1; named = not-false _ (not_refused _ _ _ d.1); admitted = share.1; housed_ok = e.1; answer = answer_by e.2; left = left_by e.2 }

  pub Sound-after_finish : Sound C → Sound C'
  Sound-after_finish sound =
      let p = finished in
      let f = taken_found (get C.sessions h.key) h p.s p.here in
      let both = and_parts (is_named C.contents digest (hand_content h)) (fits_stored C.contents (get C.residents digest) (hand_content h)) p.named in
      let known = session_owner C sound.lawful h.key p.s f.0 in
      let there = session_tenant C sound.lawful h.key p.s f.0 in
      let counts : charged_length p.s ≡ length (hand_content h) = rw f.1 (sym (whole_long h proper full)) in
      let within : used_bytes C h.key.0 + 0 ≤ quota_of C h.key.0 = let keeps = sound.quotas h.key.0 there in omega arith in
      subst (λ (D : Catalog). Sound D) p.left (record {
        lawful = WellFormed-close C h.key.0 h.key.1 p.s.repo digest (hand_content h) p.s sound.lawful known f.0 refl both.1 both.0;
        quotas = KeepsQuotas-close C h.key.0 h.key.1 p.s.repo digest (hand_content h) p.s sound.lawful known f.0 refl both.1 0 (omega arith) within sound.quotas;
        shares = KeepsShares-close C h.key.0 h.key.1 p.s.repo digest (hand_content h) p.s sound.lawful known f.0 refl both.1 (not_refused _ _ _ p.admitted) sound.shares;
        slots = FitsSlots-close C h.key.0 h.key.1 p.s.repo digest (hand_content h) p.s sound.lawful known f.0 refl both.1 (not_refused _ _ _ p.housed_ok) sound.slots;
      })
