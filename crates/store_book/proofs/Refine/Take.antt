-- `Book::take`, by the clauses of its calls of the layers.
use Rattle.std.proofs.Common.{◌≡◌, ℕ, ◌+◌, ◌^◌, ◌<◌, true, length, Option, Result, Ok, Err, refl, sym, ap, ◌∙◌, subst, arith}
use Rattle.std.specs.Prelude.{nat_lt, slice_index}
use Rattle.std.specs.FinMap.{get}
use Rattle.std.proofs.lemmas.Bool.{ltb-false}
use Rattle.blob_digest.specs.declared.range.ByteRange.{ByteRange}
use Rattle.blob_digest.specs.declared.refusal.Refusal.{Refusal}
use Rattle.blob_digest.specs.declared.refusal.Refusal.TheVariants.{NameUnknown, Quota}
use Rattle.link_table.specs.Linked.{Linked, known_tenant, charge, with_charge, used_in, quota_in}
use Rattle.store_model.specs.Sessions.{CheckedOutWith, are_checked_in, chunk_length_check_in, hand_in, session_charges, is_checked_in, received_length, after_take_in, with_chunks}
use Rattle.upload_table.specs.Uploaded.{Uploaded, with_sessions}
use Rattle.spec_lib.specs.Texts.{Text}
use Rattle.store_model.specs.Catalog.{Catalog, tenant_of, used_bytes, quota_of}
use Rattle.spec_lib.specs.Outcomes.{◌>>=◌, refuse}
use Rattle.store_model.specs.Commands.{take, check_quota}
use Rattle.store_book.specs.Layers.{Layers, book_catalog, lent_marks, IsBook}
use Rattle.store_book.proofs.Layers.Sums.{used_is}
use Rattle.store_book.proofs.Layers.ChunkCharges.{IsBook-chunks}
use Rattle.store_model.proofs.Commands.Hands.{checked_home, home_charged, Checked}
use Rattle.spec_lib.proofs.Outcomes.{not_refused, some_of_ok}
use Rattle.store_model.proofs.Commands.Accepted.{tenant_there}
use Rattle.store_model.proofs.Invariant.Bounds.{quota_small}

pub snd_ok : {S : Type 0} (x y : S) → ◌≡◌ {A = Result (Unit {0} × S) Refusal} (Ok (tt, x)) (Ok (tt, y)) → x ≡ y
snd_ok {S} x y h = let p : ◌≡◌ {A = Unit {0} × S} (tt, x) (tt, y) = cc in λ i. (p i).1

module _ (L : Layers) (t : ℕ) (book : IsBook L) where
  abbrev C : Catalog
  C = book_catalog L

  -- the use that the links count is that of the catalog
  pub use_is : t < length L.links.tenants → used_in L.links t ≡ used_bytes C t
  use_is there = used_is L (lent_marks L.slots) book.tied (λ k h. (book.sound.lawful.links k h).repo) t book.charges there

  -- a charge succeeds or fails as the catalog's check of the quota does
  pub metered : (n : ℕ) → t < length L.links.tenants → check_quota C t n ≡ refuse (nat_lt (quota_in L.links.tenants t) (used_in L.links t + n)) (Quota (used_in L.links t) (quota_in L.links.tenants t))
  metered n there = let e = sym (use_is there) in λ i. refuse (nat_lt (quota_of C t) (e i + n)) (Quota (e i) (quota_of C t))

  charged_is : (n : ℕ) (l' : Linked) (x : Result (Unit {0}) Refusal) → ◌>>=◌ {B = Unit {0} × Linked} x (λ _. Ok (tt {0}, with_charge L.links t n)) ≡ Ok (tt {0}, l') → (x ≡ Ok tt) × (with_charge L.links t n ≡ l')
  charged_is n l' (Ok v) h = (refl, snd_ok _ _ h)
  charged_is n l' (Err e) h = absurd cc

  refused_is : (n : ℕ) (e : Refusal) (x : Result (Unit {0}) Refusal) → ◌>>=◌ {B = Unit {0} × Linked} x (λ _. Ok (tt {0}, with_charge L.links t n)) ≡ Err e → x ≡ Err e
  refused_is n e (Ok v) h = absurd cc
  refused_is n e (Err d) h = let same : d ≡ e = cc in ap Err same

  pub within_ok : (n : ℕ) (l' : Linked) → t < length L.links.tenants → charge L.links t n ≡ Ok (tt, l') → (check_quota C t n ≡ Ok tt) × (with_charge L.links t n ≡ l')
  within_ok n l' there h = let p = charged_is n l' _ h in (metered n there ∙ p.0, p.1)

  pub within_err : (n : ℕ) (e : Refusal) → t < length L.links.tenants → charge L.links t n ≡ Err e → check_quota C t n ≡ Err e
  within_err n e there h = metered n there ∙ refused_is n e _ h

  -- the charged sum does not overflow
  pub sessions_small : (n : ℕ) (l' : Linked) → t < length L.links.tenants → charge L.links t n ≡ Ok (tt, l') → session_charges L.uploads.sessions t + n < 2 ^ 64
  sessions_small n l' there h =
      let w = within_ok n l' there h in
      let within = ltb-false (quota_of C t) (used_bytes C t + n) (not_refused _ _ _ w.0) in
      let small = quota_small C book.sound.lawful t in
      omega arith

  module _ (number after n : ℕ) (repo : Text) (range : Option ByteRange) (known : known_tenant L.links repo ≡ Ok t) (checked : chunk_length_check_in L.uploads.sessions L.contents.max_blob (t, number) repo range n ≡ Ok after) where
    there : t < length L.links.tenants
    there = tenant_there L.links.tenants repo t (some_of_ok (tenant_of L.links.tenants repo) NameUnknown t known)

    met : Checked C t number repo n
    met = checked_home C t number repo range n after checked

    -- the session is checked in
    pub home_there : is_checked_in (get L.uploads.sessions (t, number)) ≡ true
    home_there = ap is_checked_in met.found ∙ ap are_checked_in met.home

    pub take_over : (e : Refusal) → charge L.links t n ≡ Err e → take C repo number range n ≡ Err e
    take_over e refused = rw (known, checked, within_err n e there refused) refl

    pub take_ok : (l' : Linked) (u' : Uploaded) → charge L.links t n ≡ Ok (tt, l') → u' ≡ with_sessions L.uploads (after_take_in L.uploads.sessions (t, number) n) →
        take C repo number range n ≡ Ok (hand_in L.uploads.sessions (t, number) n, book_catalog (record L { links = l'; uploads = u' }))
    take_ok l' u' metered taken =
        let w = within_ok n l' there metered in
        rw (known, checked, w.0) (λ i. Ok (hand_in L.uploads.sessions (t, number) n, book_catalog (record L { links = w.1 i; uploads = sym taken i })))

    -- after a session was checked out, the layers make a book
    pub IsBook-take : (l' : Linked) (u' : Uploaded) → charge L.links t n ≡ Ok (tt, l') → u' ≡ with_sessions L.uploads (after_take_in L.uploads.sessions (t, number) n) → IsBook (record L { links = l'; uploads = u' })
    IsBook-take l' u' metered taken =
        let w = within_ok n l' there metered in
        let within = ltb-false (quota_of C t) (used_bytes C t + n) (not_refused _ _ _ w.0) in
        let s = met.s in
        let before = home_charged s met.chunks met.home in
        let same : with_chunks L.uploads.sessions (t, number) s (CheckedOutWith (received_length s) n) ≡ after_take_in L.uploads.sessions (t, number) n = rw met.found refl in
        let now = IsBook-chunks L book (t, number) s (CheckedOutWith (received_length s) n) met.found (slice_index L.links.charges t + n) (omega (arith, before)) tt met.fits (λ _. omega (arith, before, within)) in
        let uploads = ap (with_sessions L.uploads) same ∙ sym taken in
        subst (λ (x : Layers). IsBook x) (λ i. record L { links = w.1 i; uploads = uploads i }) now
