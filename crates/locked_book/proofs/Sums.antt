-- Sums of amounts.
use Rattle.std.proofs.Common.{◌≡◌, List, [], ◌∷◌, ◌++◌, ap, ◌∙◌, arith}
use Rattle.std.proofs.lemmas.List.{map-append}
use Rattle.store_model.specs.Amounts.{Amounts, add_amounts, sum_of}
use Rattle.locked_book.specs.History.{AreFreshDesks, DeskView, IsFreshDesk, amounts_of}

same_amounts : (a b : Amounts) → a.commands ≡ b.commands → a.received ≡ b.received → a.closed ≡ b.closed → a.abandoned ≡ b.abandoned → a ≡ b
same_amounts a b p q r s = λ i. record { commands = p i; received = q i; closed = r i; abandoned = s i }

pub sum_of_pushed : (xs : List Amounts) (x : Amounts) → sum_of (xs ++ x ∷ []) ≡ add_amounts (sum_of xs) x
sum_of_pushed [] x = same_amounts _ _ (omega arith) (omega arith) (omega arith) (omega arith)
sum_of_pushed (y ∷ xs) x =
    let h = sum_of_pushed xs x in
    same_amounts _ _ (omega (arith, ap (λ a. a.commands) h)) (omega (arith, ap (λ a. a.received) h)) (omega (arith, ap (λ a. a.closed) h)) (omega (arith, ap (λ a. a.abandoned) h))

-- the sums after one of the amounts moved from the rest to the settled ones
pub taken_in : (a b rest all x goal : Amounts) → b ≡ add_amounts a x → all ≡ add_amounts rest x → add_amounts a all ≡ goal → add_amounts b rest ≡ goal
taken_in a b rest all x goal p q r =
    same_amounts _ _
    (omega (arith, ap (λ a. a.commands) p, ap (λ a. a.commands) q, ap (λ a. a.commands) r))
    (omega (arith, ap (λ a. a.received) p, ap (λ a. a.received) q, ap (λ a. a.received) r))
    (omega (arith, ap (λ a. a.closed) p, ap (λ a. a.closed) q, ap (λ a. a.closed) r))
    (omega (arith, ap (λ a. a.abandoned) p, ap (λ a. a.abandoned) q, ap (λ a. a.abandoned) r))

-- ---- the amounts of desks

pub desk_pushed : (xs : List DeskView) (d : DeskView) → sum_of (amounts_of (xs ++ d ∷ [])) ≡ add_amounts (sum_of (amounts_of xs)) d.amounts
desk_pushed xs d = ap sum_of (map-append (λ x. x.amounts) xs (d ∷ [])) ∙ sum_of_pushed (amounts_of xs) d.amounts

pub fresh_pushed : (xs : List DeskView) (d : DeskView) → AreFreshDesks xs → IsFreshDesk d → AreFreshDesks (xs ++ d ∷ [])
fresh_pushed [] d all here = (here, tt)
fresh_pushed (x ∷ xs) d all here = (all.0, fresh_pushed xs d all.1 here)

-- if all desks are fresh, the last one is, and so are the others
pub fresh_left : (xs : List DeskView) (d : DeskView) → AreFreshDesks (xs ++ d ∷ []) → IsFreshDesk d × AreFreshDesks xs
fresh_left [] d all = (all.0, tt)
fresh_left (x ∷ xs) d all = let rest = fresh_left xs d all.1 in (rest.0, (all.0, rest.1))
