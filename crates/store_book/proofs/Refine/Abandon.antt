-- `Book::abandon`, by the clauses of its calls of the layers.
use Rattle.std.proofs.Common.{◌≡◌, ℕ, ◌-◌, ◌<◌, ◌≤◌, length, Some, Result, Ok, Err, refl, sym, ap, ◌∙◌, subst}
use Rattle.std.specs.Prelude.{slice_index, slice_set}
use Rattle.std.specs.FinMap.{get, remove}
use Rattle.std.proofs.Math.ListN.{length-set}
use Rattle.blob_digest.specs.declared.refusal.Refusal.{Refusal}
use Rattle.blob_digest.specs.declared.refusal.Refusal.TheVariants.{NameUnknown}
use Rattle.link_table.specs.Linked.{Linked, discharge, known_tenant}
use Rattle.store_model.specs.Sessions.{Session, charged_length, checked_in_length, not_busy, received_length, session_in, session_charges}
use Rattle.upload_table.specs.Uploaded.{Uploaded}
use Rattle.spec_lib.specs.Texts.{Text}
use Rattle.store_model.specs.Catalog.{Catalog, tenant_of}
use Rattle.spec_lib.specs.Outcomes.{◌>>=◌}
use Rattle.store_model.specs.Commands.{abandon}
use Rattle.store_book.specs.Layers.{Layers, book_catalog, IsBook}
use Rattle.store_model.proofs.Commands.Hands.{home_charged, home_chunks}
use Rattle.store_model.proofs.Commands.Abandon.{Sound-after_abandon}
use Rattle.spec_lib.proofs.Outcomes.{bound_ok, some_of_ok}
use Rattle.store_model.proofs.Commands.Accepted.{session_found, tenant_there}
use Rattle.store_book.proofs.Layers.SessionCharges.{session_charged, sums-gone}

-- the result for a checked-in session
received_ok : (x : Result Session Refusal) (n : ℕ) → (x >>= λ s. not_busy s.chunks >>= λ _. Ok (received_length s)) ≡ Ok n → (s : Session) × (x ≡ Ok s) × (not_busy s.chunks ≡ Ok tt) × (received_length s ≡ n)
received_ok (Ok s) n h = let b = bound_ok (not_busy s.chunks) (λ _. Ok (received_length s)) n h in (s, refl, b.1, cc b.2)
received_ok (Err e) n h = absurd cc

module _ (L : Layers) (t number : ℕ) (repo : Text) (known : known_tenant L.links repo ≡ Ok t) where
  abbrev C : Catalog
  C = book_catalog L

  module _ (n : ℕ) (answered : checked_in_length L.uploads.sessions (t, number) repo ≡ Ok n) where
    abbrev of_repo : (s : Session) × (session_in (get L.uploads.sessions (t, number)) repo ≡ Ok s) × (not_busy s.chunks ≡ Ok tt) × (received_length s ≡ n)
    of_repo = received_ok (session_in (get L.uploads.sessions (t, number)) repo) n answered

    found : get L.uploads.sessions (t, number) ≡ Some of_repo.0
    found = (session_found (get L.uploads.sessions (t, number)) repo of_repo.0 of_repo.1).0

    there : t < length L.links.tenants
    there = tenant_there L.links.tenants repo t (some_of_ok (tenant_of L.links.tenants repo) NameUnknown t known)

    abbrev l1 : Linked
    l1 = discharge L.links t n

    abbrev u1 : Uploaded
    u1 = record L.uploads { sessions = remove L.uploads.sessions (t, number) }

    abandoned : abandon C repo number ≡ Ok (n, book_catalog (record L { links = l1; uploads = u1 }))
    abandoned = rw (known, of_repo.1, of_repo.2) (ap (λ m. Ok (m, book_catalog (record L { links = l1; uploads = u1 }))) of_repo.3)

    counts : charged_length of_repo.0 ≡ n
    counts = let home = home_chunks of_repo.0.chunks tt of_repo.2 in home_charged of_repo.0 home.0 home.1 ∙ of_repo.3

    module _ (book : IsBook L) where
      pub abandoned_charged : n ≤ slice_index L.links.charges t
      abandoned_charged = subst (λ m. m ≤ slice_index L.links.charges t) counts (session_charged L t number book there of_repo.0 found)

      sums_after : (v : ℕ) → v < length L.links.tenants → slice_index l1.charges v ≡ session_charges u1.sessions v
      sums_after v lt = subst (λ m. slice_index (slice_set L.links.charges t (slice_index L.links.charges t - m)) v ≡ session_charges u1.sessions v) counts (sums-gone L t number book there of_repo.0 found v lt)

      -- after a session was abandoned, the layers make a book
      pub IsBook-abandon : (l' : Linked) (u' : Uploaded) → l' ≡ l1 → u' ≡ u1 → IsBook (record L { links = l'; uploads = u' })
      IsBook-abandon l' u' links uploads =
          let now : IsBook (record L { links = l1; uploads = u1 }) = record {
            sound = Sound-after_abandon C (book_catalog (record L { links = l1; uploads = u1 })) repo number n abandoned book.sound;
            tied = record { marks = book.tied.marks; distinct = book.tied.distinct; sizes = book.tied.sizes; counts = book.tied.counts };
            charges = record { one_each = length-set L.links.charges t (slice_index L.links.charges t - n) ∙ book.charges.one_each; sums = sums_after };
          } in
          subst (λ (x : Layers). IsBook x) (λ i. record L { links = sym links i; uploads = sym uploads i }) now
