-- Writes one behind the other.
use Rattle.std.proofs.Common.{◌≡◌, List, ℕ, [], ◌++◌, ◌∙◌, ap, sym, refl, Option, Result, Ok, Err, append_assoc}
use Rattle.std.specs.Io.KnownBytes.{Appends}
use Rattle.std.proofs.KnownBytes.{Appends-nil, Appends-trans}
use Rattle.std.specs.Int.{w64, to_le_bytes}
use Rattle.log_frames.specs.Sums.{tagged}
use Rattle.log_frames.specs.Writes.{AppendsPart, Puts}

-- none of them
pub no_part : (a : Option (List ℕ)) (bs : List ℕ) → AppendsPart a a bs
no_part a bs = record { part = []; rest = bs; whole = refl; appended = Appends-nil a }

-- the beginning of some bytes begins what goes on with more
pub part_of_more : (a b : Option (List ℕ)) (bs cs : List ℕ) → AppendsPart a b bs → AppendsPart a b (bs ++ cs)
part_of_more a b bs cs p = record { part = p.part; rest = p.rest ++ cs; whole = ap (λ t. t ++ cs) p.whole ∙ append_assoc p.part p.rest cs; appended = p.appended }

-- some bytes, and the beginning of more
pub then_part : (a b c : Option (List ℕ)) (bs cs : List ℕ) → Appends a b bs → AppendsPart b c cs → AppendsPart a c (bs ++ cs)
then_part a b c bs cs before p = record { part = bs ++ p.part; rest = p.rest; whole = ap (λ t. bs ++ t) p.whole ∙ sym (append_assoc bs p.part p.rest); appended = Appends-trans a b c bs p.part before p.appended }

pub then_puts : {A E : Type 0} (r : Result A E) (a b c : Option (List ℕ)) (bs cs : List ℕ) → Appends a b bs → Puts r b c cs → Puts r a c (bs ++ cs)
then_puts (Ok x) a b c bs cs before now = Appends-trans a b c bs cs before now
then_puts (Err e) a b c bs cs before now = then_part a b c bs cs before now

pub err_puts : {A E : Type 0} (r : Result A E) (e : E) (a b : Option (List ℕ)) (bs : List ℕ) → r ≡ Err e → AppendsPart a b bs → Puts r a b bs
err_puts (Ok x) e a b bs is p = absurd cc
err_puts (Err d) e a b bs is p = p

-- bytes, and then others with a sum
pub tagged_after : (sum : ℕ) (xs ys : List ℕ) → xs ++ tagged sum ys ≡ tagged sum (xs ++ ys)
unfolding tagged
tagged_after sum xs ys = sym (append_assoc xs ys (to_le_bytes w64 sum))
