-- Each list of commands and sweeps has a run.
use Rattle.std.proofs.Common.{◌≡◌, false, List, [], ◌∷◌, Option, Some, None, Ok, Err, refl, ap, inl}
use Rattle.store_model.specs.Catalog.{Catalog}
use Rattle.store_model.specs.Commands.{Outcome}
use Rattle.store_model.specs.Runs.{Command, Answer, outcome, CommandEvent, SweepEvent, HasRun}
use Rattle.store_model.proofs.Commands.SomeSweep.{swept, after, some_sweep}

pub has_run : (wanted : List (Option Command)) (C : Catalog) → HasRun C wanted
has_run [] C = record { events = []; last = C; run = refl; as_asked = refl }
has_run (None ∷ wanted) C = let p = has_run wanted (after C) in record { events = SweepEvent (swept C) ∷ p.events; last = p.last; run = (after C, some_sweep C, p.run); as_asked = ap (λ w. None ∷ w) p.as_asked }
has_run (Some command ∷ wanted) C = by (outcome false C command) refl (has_run wanted)
  where
    by : (o : Outcome Answer) → outcome false C command ≡ o → ((D : Catalog) → HasRun D wanted) → HasRun C (Some command ∷ wanted)
    by (Ok x) is rest = let p = rest x.1 in record { events = CommandEvent command (Ok x.0) ∷ p.events; last = p.last; run = (x.1, is, p.run); as_asked = ap (λ w. Some command ∷ w) p.as_asked }
    by (Err e) is rest = let p = rest C in record { events = CommandEvent command (Err e) ∷ p.events; last = p.last; run = (C, (inl (false, is), refl), p.run); as_asked = ap (λ w. Some command ∷ w) p.as_asked }
