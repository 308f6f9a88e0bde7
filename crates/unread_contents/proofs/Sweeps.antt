-- A sweep of a catalog, or part of one, is also one of the catalog with its contents read.
use Rattle.std.proofs.Common.{◌≡◌, ◌∙◌, Bool, true, false, cond, not, [], Option, Some, None, refl, sym, ap, subst}
use Rattle.std.specs.Prelude.{◌&&◌, is_none}
use Rattle.std.specs.Option.{option_map, option_map_or}
use Rattle.std.specs.FinMap.{entries, get}
use Rattle.spec_lib.specs.Texts.{Text}
use Rattle.store_model.specs.Catalog.{Catalog, Resident}
use Rattle.store_model.specs.Sweep.{IsAfterSweep, IsSweepOf, is_orphan}
use Rattle.store_model.specs.declared.swept.Swept.{Swept}
use Rattle.store_model.proofs.Commands.SomeSweep.{left_bytes}
use Rattle.unread_contents.specs.Unread.{AreReadBlobs, IsReadAs, IsReadBlob}
use Rattle.unread_contents.proofs.Blobs.{AreFilled, AreRead, Blobs, entries_read, filled, known_at, none_known, read_at, some_filled, sum_read}
use Rattle.unread_contents.proofs.Commands.{with}

-- the bytes of a blob, or none
abbrev bytes_in : Option Resident → Text
bytes_in o = option_map_or (λ (b : Resident). b.bytes) o []

-- a blob with these bytes
abbrev containing : Text → Resident → Resident
containing bytes b = record b { bytes = bytes }

-- a blob that a sweep left is the one before it, also with its content read
left_read : (o : Bool) (b f : Resident) (now : Option Resident) → IsReadBlob b f → IsAfterSweep o b now → IsAfterSweep o f (option_map (containing f.bytes) now)
left_read false b f now is left = ap (option_map (containing f.bytes)) left ∙ ap Some (sym is.rest)
left_read true b f None is left = tt
left_read true b f (Some now) is left = (
  ap (λ (x : Resident). x.lent) is.rest ∙ left.0,
  ap (containing f.bytes) left.1 ∙ sym (ap (λ (x : Resident). record x { condemned = true }) is.rest),
)

still_none : (bytes : Text) (o : Option Resident) → is_none o ≡ is_none (option_map (containing bytes) o)
still_none bytes None = refl
still_none bytes (Some b) = refl

module _ (reached : Text → Bool) (C C' : Catalog) (r kept : Blobs) (swept : Swept) (read : AreRead C.residents r) (sweep : IsSweepOf reached C swept C') where
  -- whether a blob is an orphan that is reached
  abbrev is_swept : Text → Bool
  is_swept d = reached d && is_orphan C d

  -- the bytes of each digest
  abbrev bytes : Text → Text
  bytes d = bytes_in (get r d)

  left_blob : (d : Text) (x : Option Resident) (now : Resident) → get C.residents d ≡ x → get C'.residents d ≡ Some now → IsReadBlob now (filled bytes d now)
  left_blob d None now is found = let none = sweep.no_others d is in absurd cc
  left_blob d (Some b) now is found =
      let same = left_bytes (is_swept d) b now (subst (IsAfterSweep (is_swept d) b) found (sweep.orphans d b is)) in
      let there = read_at (get C.residents d) (get r d) (read d) b is in
      record {
        content = subst (λ x. IsReadAs x (bytes d)) same (subst (IsReadAs b.bytes) (sym (ap bytes_in there.1)) there.2.content);
        rest = refl;
      }

  module _ (at : AreFilled bytes C'.residents kept) where
    pub kept_read : AreRead C'.residents kept
    kept_read d = subst (AreReadBlobs (get C'.residents d)) (sym (at d)) (by (get C'.residents d) refl)
      where
        by : (o : Option Resident) → get C'.residents d ≡ o → AreReadBlobs o (option_map (filled bytes d) o)
        by None none = tt
        by (Some now) found = left_blob d (get C.residents d) now refl found

    orphan_read : (d : Text) (f : Resident) → get r d ≡ Some f → IsAfterSweep (is_swept d) f (get kept d)
    orphan_read d f found =
        let there = known_at (get C.residents d) (get r d) (read d) f found in
        subst (IsAfterSweep (is_swept d) f) (sym (at d))
        (subst (λ w. IsAfterSweep (is_swept d) f (option_map (containing w) (get C'.residents d))) (sym (ap bytes_in found))
        (left_read (is_swept d) there.0 f (get C'.residents d) there.2 (sweep.orphans d there.0 there.1)))

    pub sweep_read : IsSweepOf reached (with C r) swept (with C' kept)
    sweep_read = record {
      orphans = orphan_read;
      no_others = λ d none. at d ∙ ap (option_map (filled bytes d)) (sweep.no_others d (none_known (get C.residents d) (get r d) (read d) none));
      rest = ap (λ X. with X kept) sweep.rest;
      condemned =
          sweep.condemned
          ∙ sum_read (λ e. cond (reached e.0 && is_orphan C e.0 && not e.1.condemned) 1 0) (λ e. cond (reached e.0 && is_orphan C e.0 && not e.1.condemned) 1 0)
          (λ d b c is. ap (λ (x : Resident). cond (reached d && is_orphan C d && not x.condemned) 1 0) (sym is.rest)) (entries C.residents) (entries r) (entries_read C.residents r read);
      gone =
          sweep.gone
          ∙ sum_read (λ e. cond (is_none (get C'.residents e.0)) 1 0) (λ e. cond (is_none (get kept e.0)) 1 0)
          (λ d b c is. ap (λ x. cond x 1 0) (still_none (bytes d) (get C'.residents d) ∙ ap is_none (sym (at d)))) (entries C.residents) (entries r) (entries_read C.residents r read);
      held =
          sweep.held
          ∙ sum_read (λ e. cond (reached e.0 && e.1.condemned) 1 0) (λ e. cond (reached e.0 && e.1.condemned) 1 0)
          (λ d b c is. ap (λ (x : Resident). cond (reached d && x.condemned) 1 0) (sym is.rest)) (entries C'.residents) (entries kept) (entries_read C'.residents kept kept_read);
    }

-- blobs after a sweep or part of one, with their contents read
pub some_read_sweep : (reached : Text → Bool) (C C' : Catalog) (r : Blobs) (swept : Swept) → AreRead C.residents r → IsSweepOf reached C swept C' → (kept : Blobs) × AreRead C'.residents kept × IsSweepOf reached (with C r) swept (with C' kept)
some_read_sweep reached C C' r swept read sweep =
    let k = some_filled (λ d. bytes_in (get r d)) C'.residents in
    (k.0, kept_read reached C C' r k.0 swept read sweep k.1, sweep_read reached C C' r k.0 swept read sweep k.1)
