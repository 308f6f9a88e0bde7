-- The view of the slots with the numbers of looks.
use Rattle.std.proofs.Common.{◌≡◌, ℕ, List, [], ◌∷◌, length, Some, refl, sym, ap, ◌∙◌, subst}
use Prim.Native.Nat.{zero, suc}
use Rattle.std.specs.Prelude.{slice_get, slice_index, replicate}
use Rattle.store_book.specs.BookState.{SlotView}
use Rattle.spec_lib.specs.Texts.{Text}
use Rattle.store_book.specs.Pinned.{Pinned, KeepsGenerations, slot_views, slot_views_of, with_looks}
use Rattle.store_book.specs.SlotSteps.{EachSlot, MayPlace, KeepsGeneration, SweepsSlot, is_unchanged, is_placed, same, condemned, freed, retired}
use Rattle.spec_lib.proofs.Options.{some_same}

pub length-with_looks : (looks : List ℕ) (xs : List SlotView) → length (with_looks looks xs) ≡ length xs
length-with_looks looks [] = refl
length-with_looks [] (s ∷ xs) = ap suc (length-with_looks [] xs)
length-with_looks (n ∷ looks) (s ∷ xs) = ap suc (length-with_looks looks xs)

-- the view of the slot k
pub at-with_looks : (looks : List ℕ) (xs : List SlotView) (k : ℕ) (b : SlotView) → slice_get (with_looks looks xs) k ≡ Some b → (a : SlotView) × (slice_get xs k ≡ Some a) × (b ≡ record a { looks = slice_index looks k })
at-with_looks looks [] k b at = absurd cc
at-with_looks [] (s ∷ xs) zero b at = (s, refl, sym (some_same at))
at-with_looks [] (s ∷ xs) (suc k) b at = at-with_looks [] xs k b at
at-with_looks (n ∷ looks) (s ∷ xs) zero b at = (s, refl, sym (some_same at))
at-with_looks (n ∷ looks) (s ∷ xs) (suc k) b at = at-with_looks looks xs k b at

pub get-with_looks : (looks : List ℕ) (xs : List SlotView) (k : ℕ) (a : SlotView) → slice_get xs k ≡ Some a → slice_get (with_looks looks xs) k ≡ Some (record a { looks = slice_index looks k })
get-with_looks looks [] k a at = absurd cc
get-with_looks [] (s ∷ xs) zero a at = ap (λ (z : SlotView). Some (record z { looks = 0 })) (some_same at)
get-with_looks [] (s ∷ xs) (suc k) a at = get-with_looks [] xs k a at
get-with_looks (n ∷ looks) (s ∷ xs) zero a at = ap (λ (z : SlotView). Some (record z { looks = n })) (some_same at)
get-with_looks (n ∷ looks) (s ∷ xs) (suc k) a at = get-with_looks looks xs k a at

pub slot_views_of-opening : (n : ℕ) (s : SlotView) → with_looks (replicate n 0) (replicate n s) ≡ replicate n (record s { looks = 0 })
slot_views_of-opening zero s = refl
slot_views_of-opening (suc n) s = ap (λ xs. record s { looks = 0 } ∷ xs) (slot_views_of-opening n s)

-- ---- relations that do not depend on looks

abbrev pub IsBlind : (SlotView → SlotView → Type 0) → Type 0
IsBlind R = (a b : SlotView) (n m : ℕ) → R a b → R (record a { looks = n }) (record b { looks = m })

pub EachSlot-slot_views_of : (R : SlotView → SlotView → Type 0) → IsBlind R → (p q : Pinned) → EachSlot R (slot_views p.slots p.bounds) (slot_views q.slots q.bounds) → EachSlot R (slot_views_of p) (slot_views_of q)
EachSlot-slot_views_of R blind p q each = (
  length-with_looks q.looks (slot_views q.slots q.bounds) ∙ each.0 ∙ sym (length-with_looks p.looks (slot_views p.slots p.bounds)),
  λ k a b at_a at_b.
      let x = at-with_looks p.looks (slot_views p.slots p.bounds) k a at_a in
      let y = at-with_looks q.looks (slot_views q.slots q.bounds) k b at_b in
      subst (λ z. R z b) (sym x.2) (subst (λ z. R (record x.0 { looks = slice_index p.looks k }) z) (sym y.2) (blind x.0 y.0 (slice_index p.looks k) (slice_index q.looks k) (each.1 k x.0 y.0 x.1 y.1))),
)

pub KeepsGenerations-slot_views_of : (p q : Pinned) → KeepsGenerations p q → (q.table ≡ p.table) × EachSlot KeepsGeneration (slot_views_of p) (slot_views_of q)
KeepsGenerations-slot_views_of p q quiet = (quiet.table, EachSlot-slot_views_of KeepsGeneration (λ a b n m r. r) p q quiet.slots)

pub housing_blind : (digest : Text) → IsBlind (MayPlace digest)
housing_blind digest a b n m (is_unchanged quiet phase is) = is_unchanged quiet phase is
housing_blind digest a b n m (is_placed quiet was live is) = is_placed quiet was live is

pub swept_blind : IsBlind SweepsSlot
swept_blind a b n m (same stays) = same stays
swept_blind a b n m (condemned was stays) = condemned was stays
swept_blind a b n m (freed d was young is) = freed d was young (ap (λ (z : SlotView). record z { looks = m }) is)
swept_blind a b n m (retired d was last is) = retired d was last (ap (λ (z : SlotView). record z { looks = m }) is)
