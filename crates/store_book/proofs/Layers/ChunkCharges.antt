-- After a session's chunks changed and its tenant was charged for them, the layers make a book.
use Rattle.std.proofs.Common.{◌≡◌, ◌≢◌, ℕ, ◌+◌, ◌<◌, ◌≤◌, [], length, Some, ◌∙◌, arith, inl, inr}
use Rattle.std.specs.Prelude.{slice_index, slice_set}
use Rattle.std.specs.List.{AllByRecursion}
use Rattle.std.specs.FinMap.{get}
use Rattle.std.proofs.Math.ListN.{length-set}
use Rattle.std.proofs.lemmas.Bool.{cases_eq}
use Rattle.std.proofs.lemmas.List.{get_or-set_same, get_or-set_other}
use Rattle.store_model.specs.Sessions.{Chunks, Session, at_home, charged_length, with_chunks}
use Rattle.upload_table.specs.Uploaded.{with_sessions}
use Rattle.store_model.specs.Catalog.{SessionNumber, Catalog, session_charges_of, quota_of, used_bytes}
use Rattle.store_book.specs.Layers.{Layers, book_catalog, IsBook}
use Rattle.store_model.proofs.Invariant.Chunks.{used_bytes-chunks, used_other-chunks, Sound-chunks}
use Rattle.store_model.proofs.Invariant.SessionTenants.{session_tenant}

module _ (L : Layers) (book : IsBook L) (key : SessionNumber) (s : Session) (chunks : Chunks) (found : get L.uploads.sessions key ≡ Some s) (m : ℕ) (charge : m + charged_length s ≡ slice_index L.links.charges key.0 + charged_length (record s { chunks = chunks })) where
  abbrev C : Catalog
  C = book_catalog L

  abbrev after : Catalog
  after = record C { sessions = with_chunks L.uploads.sessions key s chunks }

  there : key.0 < length L.links.tenants
  there = session_tenant C book.sound.lawful key s found

  sums-chunks : (v : ℕ) → v < length L.links.tenants → slice_index (slice_set L.links.charges key.0 m) v ≡ session_charges_of after v
  sums-chunks v lt = elim (cases_eq v key.0) [
    | inl e ↦
        let change = used_bytes-chunks C key s chunks found in
        let mine = book.charges.sums key.0 there in
        let in_charges : key.0 < length L.links.charges = let same = book.charges.one_each in let lt = there in omega arith in
        rw (e, get_or-set_same L.links.charges key.0 m 0 in_charges) (omega (arith, change, mine, charge))
    | inr other ↦
        let same = used_other-chunks C key s chunks found v other in
        let old = book.charges.sums v lt in
        rw (get_or-set_other L.links.charges key.0 v m 0 other) (omega arith)
  ]

  pub IsBook-chunks : AllByRecursion (λ c. c ≢ []) (at_home chunks) → charged_length (record s { chunks = chunks }) ≤ L.contents.max_blob → (key.0 < length L.links.tenants → used_bytes C key.0 + charged_length (record s { chunks = chunks }) ≤ quota_of C key.0 + charged_length s) →
      IsBook (record L { links = record L.links { charges = slice_set L.links.charges key.0 m }; uploads = with_sessions L.uploads (with_chunks L.uploads.sessions key s chunks) })
  IsBook-chunks nonempty small within = record {
    sound = Sound-chunks C key s chunks found nonempty small within book.sound;
    tied = record { marks = book.tied.marks; distinct = book.tied.distinct; sizes = book.tied.sizes; counts = book.tied.counts };
    charges = record { one_each = length-set L.links.charges key.0 m ∙ book.charges.one_each; sums = sums-chunks };
  }
