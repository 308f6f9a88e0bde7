-- An accepted append or close keeps a catalog sound: it equals a check-out, a fill, and a check-in or finish.
use Rattle.std.proofs.Common.{◌≡◌, ◌≢◌, ℕ, [], length, Option, Some, Result, Ok, Err, refl, sym, ap, ◌∙◌, subst}
use Rattle.std.specs.List.{AllByRecursion}
use Rattle.blob_digest.specs.declared.range.ByteRange.{ByteRange}
use Rattle.blob_digest.specs.declared.refusal.Refusal.{Refusal}
use Rattle.store_model.specs.Sessions.{at_home}
use Rattle.spec_lib.specs.Texts.{Text}
use Rattle.store_model.specs.Catalog.{HandRecord, Catalog}
use Rattle.store_model.specs.Commands.{Outcome, append, close, take}
use Rattle.store_model.specs.Invariant.{Sound}
use Rattle.store_model.proofs.Commands.Hands.{IsProper, TookIn, took, Sound-after_take, Sound-after_put_back}
use Rattle.store_model.proofs.Commands.Finish.{Sound-after_finish}
use Rattle.store_model.proofs.Commands.ByHand.{append_refused, close_refused, append_by_hand, close_by_hand, not_filled}

not_both : {A : Type 0} {x : A} {e : Refusal} {o : Result A Refusal} → o ≡ Err e → o ≡ Ok x → ⊥
not_both h k = cc

module _ (C : Catalog) (repo : Text) (number : ℕ) (range : Option ByteRange) (b : Text) (sound : Sound C) where
  abbrev taken : Outcome HandRecord
  taken = take C repo number range (length b)

  -- the hand of a successful check-out, with the chunk filled in
  abbrev filled : HandRecord → HandRecord
  filled hand = record hand { last = Some b }

  module _ (hand : HandRecord) (C1 : Catalog) (stepped : taken ≡ Ok (hand, C1)) where
    proper : IsProper (filled hand)
    proper = record { pieces = subst (λ cs. AllByRecursion (λ c. c ≢ []) cs) pieces_are there; last = sym (not_filled C C1 repo number range b hand stepped).1 }
      where
        p : TookIn C C1 repo number (length b) range hand stepped
        p = took C C1 repo number (length b) range hand stepped

        there : AllByRecursion (λ c. c ≢ []) (at_home p.checked.s.chunks)
        there = (sound.lawful.sessions (p.t, number) p.checked.s p.checked.found).chunks

        pieces_are : at_home p.checked.s.chunks ≡ hand.chunks
        pieces_are = sym (rw p.checked.found refl) ∙ ap (λ (h : HandRecord). h.chunks) p.is

    sound_taken : Sound C1
    sound_taken = Sound-after_take C C1 repo number (length b) range hand stepped sound

  module _ (C' : Catalog) (n : ℕ) where
    appended : append C repo number range b ≡ Ok (n, C') → (o : Outcome HandRecord) → taken ≡ o → Sound C'
    appended stepped (Ok x) here =
        Sound-after_put_back x.1 C' (filled x.0) n (proper x.0 x.1 here) (append_by_hand C x.1 repo number range b x.0 here ∙ stepped) (sound_taken x.0 x.1 here)
    appended stepped (Err e) here = absurd (not_both (append_refused C repo number range b e here) stepped)

    closed : (digest : Text) → close C repo number digest range b ≡ Ok (n, C') → (o : Outcome HandRecord) → taken ≡ o → Sound C'
    closed digest stepped (Ok x) here =
        Sound-after_finish x.1 C' (filled x.0) digest n (proper x.0 x.1 here) (λ none. absurd cc) (close_by_hand C x.1 repo number range b x.0 here digest ∙ stepped) (sound_taken x.0 x.1 here)
    closed digest stepped (Err e) here = absurd (not_both (close_refused C repo number range b e here digest) stepped)

pub Sound-after_append : (C C' : Catalog) (repo bytes : Text) (number n : ℕ) (range : Option ByteRange) → append C repo number range bytes ≡ Ok (n, C') → Sound C → Sound C'
Sound-after_append C C' repo bytes number n range stepped sound = appended C repo number range bytes sound C' n stepped (take C repo number range (length bytes)) refl

pub Sound-after_close : (C C' : Catalog) (repo digest last : Text) (number n : ℕ) (range : Option ByteRange) → close C repo number digest range last ≡ Ok (n, C') → Sound C → Sound C'
Sound-after_close C C' repo digest last number n range stepped sound = closed C repo number range last sound C' n digest stepped (take C repo number range (length last)) refl
