-- `Book::put_back`, and the book after a failed `Book::finish`.
use Rattle.std.proofs.Common.{◌≡◌, ◌≢◌, ℕ, ◌+◌, ◌-◌, ◌<◌, ◌≤◌, List, [], length, Some, Ok, refl, sym, ap, ◌∙◌, subst, arith}
use Rattle.std.specs.Prelude.{slice_index}
use Rattle.std.specs.List.{AllByRecursion, sum_by}
use Rattle.std.specs.FinMap.{get}
use Rattle.link_table.specs.Linked.{Linked, discharge}
use Rattle.store_model.specs.Sessions.{CheckedIn, CheckedOutWith, Session, HandRecord, charged_length, chunks_of, put_back_outcome_in, session_of_hand, with_chunks}
use Rattle.upload_table.specs.Uploaded.{Uploaded, put_back_upload, with_sessions}
use Rattle.spec_lib.specs.Texts.{Text}
use Rattle.store_model.specs.Catalog.{Catalog}
use Rattle.store_book.specs.Layers.{Layers, book_catalog, IsBook}
use Rattle.store_book.proofs.Layers.ChunkCharges.{IsBook-chunks}
use Rattle.store_model.proofs.Commands.Hands.{all_chunks, spare, spare_is, taken_found, IsProper}
use Rattle.spec_lib.proofs.Outcomes.{bound_ok, ok_pair}
use Rattle.store_book.proofs.Layers.SessionCharges.{session_charged}
use Rattle.store_model.proofs.Invariant.SessionTenants.{session_tenant}

module _ (L : Layers) (h : HandRecord) where
  abbrev C : Catalog
  C = book_catalog L

  module _ (book : IsBook L) (proper : IsProper h) (s : Session) (here : session_of_hand (get L.uploads.sessions h.key) h ≡ Ok s) where
    pub session_here : (get L.uploads.sessions h.key ≡ Some s) × (s.chunks ≡ CheckedOutWith (sum_by length h.chunks) h.reserved)
    session_here = taken_found (get L.uploads.sessions h.key) h s here

    pub here_charged : charged_length s ≡ sum_by length h.chunks + h.reserved
    here_charged = rw session_here.1 refl

    pub here_tenant : h.key.0 < length L.links.tenants
    here_tenant = session_tenant C book.sound.lawful h.key s session_here.0

    -- the bytes of a checked-out session were charged
    pub here_small : sum_by length h.chunks + h.reserved ≤ slice_index L.links.charges h.key.0
    here_small = let counts = here_charged in let was = session_charged L h.key.0 h.key.1 book here_tenant s session_here.0 in omega arith

    -- after chunks were checked in and the unfilled reserve was discharged, the layers make a book
    pub IsBook-home : (chunks : List Text) (k : ℕ) → AllByRecursion (λ c. c ≢ []) chunks → sum_by length chunks + k ≡ sum_by length h.chunks + h.reserved →
        IsBook (record L { links = discharge L.links h.key.0 k; uploads = with_sessions L.uploads (with_chunks L.uploads.sessions h.key s (CheckedIn chunks)) })
    IsBook-home chunks k nonempty sum =
        let was = here_charged in
        let most = here_small in
        let small = (book.sound.lawful.sessions h.key s session_here.0).small in
        let counts : charged_length (record s { chunks = CheckedIn chunks }) ≡ sum_by length chunks = omega arith in
        IsBook-chunks L book h.key s (CheckedIn chunks) session_here.0 (slice_index L.links.charges h.key.0 - k) (omega (arith, was, most, counts, sum)) nonempty (omega (arith, was, small, counts, sum))
        (λ there. let keeps = book.sound.quotas h.key.0 there in omega (arith, was, counts, sum, keeps))

  module _ (book : IsBook L) (proper : IsProper h) where
    met : (n : ℕ) (u' : Uploaded) → put_back_upload L.uploads h ≡ Ok (n, u') → (s : Session) × (session_of_hand (get L.uploads.sessions h.key) h ≡ Ok s) × (with_sessions L.uploads (with_chunks L.uploads.sessions h.key s (CheckedIn (chunks_of h))) ≡ u')
    met n u' back =
        let a = bound_ok (put_back_outcome_in L.uploads.sessions h) _ (n, u') back in
        let b = bound_ok (session_of_hand (get L.uploads.sessions h.key) h) _ a.0 a.1 in
        (b.0, b.1, ap (with_sessions L.uploads) (ok_pair b.2).1 ∙ (ok_pair a.2).1)

    pub put_back_tenant : (n : ℕ) (u' : Uploaded) → put_back_upload L.uploads h ≡ Ok (n, u') → h.key.0 < length L.links.tenants
    put_back_tenant n u' back = let p = met n u' back in here_tenant book proper p.0 p.1

    pub put_back_charged : (n : ℕ) (u' : Uploaded) → put_back_upload L.uploads h ≡ Ok (n, u') → spare h ≤ slice_index L.links.charges h.key.0
    put_back_charged n u' back =
        let p = met n u' back in
        let most = here_small book proper p.0 p.1 in
        let sum = spare_is h proper in
        omega arith

    -- after a hand was put back, the layers make a book
    pub IsBook-put_back : (n : ℕ) (u' : Uploaded) (l' : Linked) → put_back_upload L.uploads h ≡ Ok (n, u') → l' ≡ discharge L.links h.key.0 (spare h) → IsBook (record L { links = l'; uploads = u' })
    IsBook-put_back n u' l' back links =
        let p = met n u' back in
        let now = IsBook-home book proper p.0 p.1 (chunks_of h) (spare h) (all_chunks h proper) (spare_is h proper) in
        subst (λ (x : Layers). IsBook x) (λ i. record L { links = sym links i; uploads = p.2 i }) now
