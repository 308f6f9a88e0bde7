-- The charge for a session, and the charges after its removal.
use Rattle.std.proofs.Common.{◌≡◌, ℕ, ◌-◌, ◌<◌, ◌≤◌, length, Some, arith, inl, inr}
use Rattle.std.specs.Prelude.{slice_index, slice_set}
use Rattle.std.specs.FinMap.{get, remove}
use Rattle.std.proofs.lemmas.Bool.{cases_eq}
use Rattle.std.proofs.lemmas.List.{get_or-set_same, get_or-set_other}
use Rattle.store_model.specs.Sessions.{Session, charged_length, session_charges}
use Rattle.store_model.specs.Catalog.{Catalog}
use Rattle.store_book.specs.Layers.{Layers, book_catalog, IsBook}
use Rattle.store_model.proofs.Invariant.Sessions.{used_bytes-gone, used_other-gone}

module _ (L : Layers) (t number : ℕ) (book : IsBook L) (there : t < length L.links.tenants) (s : Session) (found : get L.uploads.sessions (t, number) ≡ Some s) where
  abbrev C : Catalog
  C = book_catalog L

  -- the bytes of a session were charged
  pub session_charged : charged_length s ≤ slice_index L.links.charges t
  session_charged =
      let fall = used_bytes-gone C (t, number) s found in
      let sum = book.charges.sums t there in
      omega arith

  -- after a session was removed and discharged, the charges are those of the others
  pub sums-gone : (v : ℕ) → v < length L.links.tenants → slice_index (slice_set L.links.charges t (slice_index L.links.charges t - charged_length s)) v ≡ session_charges (remove L.uploads.sessions (t, number)) v
  sums-gone v lt = elim (cases_eq v t) [
    | inl e ↦
        let fall = used_bytes-gone C (t, number) s found in
        let mine = book.charges.sums t there in
        let in_charges : t < length L.links.charges = let same = book.charges.one_each in let lt = there in omega arith in
        rw (e, get_or-set_same L.links.charges t (slice_index L.links.charges t - charged_length s) 0 in_charges) (omega arith)
    | inr other ↦
        let same = used_other-gone C (t, number) s found v other in
        let old = book.charges.sums v lt in
        rw (get_or-set_other L.links.charges t v (slice_index L.links.charges t - charged_length s) 0 other) (omega arith)
  ]
