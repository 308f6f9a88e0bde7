-- The relation between the catalogs before and after a sweep.
use Rattle.std.specs.Prelude.{◌≡◌, ◌+◌, ◌==◌, ◌&&◌, not, Bool, true, false, Option, Some, None, count_by, is_none}
use Rattle.std.specs.FinMap as fmap
use Rattle.spec_lib.specs.Texts.{Text}
use Rattle.store_model.specs.Catalog.{Resident, Catalog, link_count}
use Rattle.store_model.specs.declared.swept.Swept.{Swept}

-- whether no repository contains a digest
abbrev pub is_orphan : Catalog → Text → Bool
is_orphan C digest = link_count C digest == 0

-- a sweep keeps a linked blob unchanged, and removes an orphan or, if it was ever leased, may condemn it
abbrev pub IsAfterSweep : Bool → Resident → Option Resident → Type 0
IsAfterSweep false b now = now ≡ Some b
IsAfterSweep true b None = Unit {0}
IsAfterSweep true b (Some now) = (b.lent ≡ true) × (now ≡ record b { condemned = true })

-- Part of a sweep reaches the blobs of some digests, changes only the orphans among them, and reports its counts; the catalog does not determine
-- which leased orphans it removes.
pub record IsSweepOf (reached : Text → Bool) (C : Catalog) (swept : Swept) (C' : Catalog) : Type 0 where
  -- each orphan that is reached is removed or condemned, and every other blob is unchanged
  pub orphans : (d : Text) (b : Resident) → fmap.get C.residents d ≡ Some b → IsAfterSweep (reached d && is_orphan C d) b (fmap.get C'.residents d)
  -- no blob is added
  pub no_others : (d : Text) → fmap.get C.residents d ≡ None → fmap.get C'.residents d ≡ None
  -- only the blobs and the number of retired slots change
  pub rest : C' ≡ record C { residents = C'.residents; retired = C.retired + swept.retired }
  -- `condemned` is the number of orphans that were reached and not condemned before
  pub condemned : swept.condemned ≡ count_by (λ e. reached e.0 && is_orphan C e.0 && not e.1.condemned) (fmap.entries C.residents)
  -- `freed` plus `retired` is the number of removed blobs
  pub gone : swept.freed + swept.retired ≡ count_by (λ e. is_none (fmap.get C'.residents e.0)) (fmap.entries C.residents)
  -- `held` is the number of condemned blobs that were reached and remain
  pub held : swept.held ≡ count_by (λ e. reached e.0 && e.1.condemned) (fmap.entries C'.residents)

-- a sweep reaches every blob
abbrev pub IsSweep : Catalog → Swept → Catalog → Type 0
IsSweep = IsSweepOf (λ _. true)

-- part of a sweep reaches some blobs
abbrev pub IsSweepPart : Catalog → Swept → Catalog → Type 0
IsSweepPart C swept C' = (reached : Text → Bool) × IsSweepOf reached C swept C'
