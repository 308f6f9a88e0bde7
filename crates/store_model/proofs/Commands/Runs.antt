-- From a sound catalog each case of a command, each sweep and each run leads to a sound one.
use Rattle.std.proofs.Common.{true, false, ◌≡◌, ◌≤◌, [], ◌∷◌, length, Result, Ok, Err, sym, subst}
use Rattle.blob_digest.specs.declared.refusal.Refusal.{Refusal}
use Rattle.store_model.specs.Catalog.{Catalog}
use Rattle.store_model.specs.Commands.{Outcome}
use Rattle.store_model.specs.Invariant.{Sound}
use Rattle.store_model.specs.Runs.{Command, Answer, Event, map_outcome, reading_outcome, outcome, IsCommandCase, Happens, HasShortName, RunsStaySound, repo_of, Start, Status, Append, Close, Abandon, Mount, Delete, PutManifest, GetManifest, DeleteManifest, RemoveRepo, Lease, CommandEvent, SweepEvent, SweepPartEvent}
use Rattle.store_model.proofs.Commands.Accepted.{left_by}
use Rattle.store_model.proofs.Commands.Start.{Sound-after_start}
use Rattle.store_model.proofs.Commands.AppendClose.{Sound-after_append, Sound-after_close}
use Rattle.store_model.proofs.Commands.Abandon.{Sound-after_abandon}
use Rattle.store_model.proofs.Commands.Mount.{Sound-after_mount}
use Rattle.store_model.proofs.Commands.Delete.{Sound-after_delete}
use Rattle.store_model.proofs.Commands.Manifests.{Sound-after_put_manifest, Sound-after_delete_manifest}
use Rattle.store_model.proofs.Commands.Repos.{Sound-after_remove_repo}
use Rattle.store_model.proofs.Commands.Lease.{Sound-after_lease}
use Rattle.store_model.proofs.Commands.Sweep.{Sound-sweep}

-- ---- cases

answered_ok : {A : Type 0} (f : A → Answer) (o : Outcome A) (a : Answer) (C' : Catalog) → map_outcome f o ≡ Ok (a, C') → (x : A) × (o ≡ Ok (x, C'))
answered_ok {A} f (Ok x) a C' h = let p : ◌≡◌ {A = Answer × Catalog} (f x.0, x.1) (a, C') = cc in (x.0, λ i. Ok (x.0, (p i).1))
answered_ok f (Err e) a C' h = absurd cc

reading_ok : {A : Type 0} (f : A → Answer) (C : Catalog) (x : Result A Refusal) (a : Answer) (C' : Catalog) → reading_outcome f C x ≡ Ok (a, C') → C ≡ C'
reading_ok f C (Ok x) a C' h = left_by h
reading_ok f C (Err e) a C' h = absurd cc

accepted : (C C' : Catalog) (command : Command) (a : Answer) → length (repo_of command) ≤ 255 → outcome false C command ≡ Ok (a, C') → Sound C → Sound C'
accepted C C' (Start r) a short h sound = let o = answered_ok _ _ a C' h in Sound-after_start C C' r o.0 o.1 short sound
accepted C C' (Status r n) a short h sound = subst (λ (D : Catalog). Sound D) (reading_ok _ C _ a C' h) sound
accepted C C' (Append r n g b) a short h sound = let o = answered_ok _ _ a C' h in Sound-after_append C C' r b n o.0 g o.1 sound
accepted C C' (Close r n d g b) a short h sound = let o = answered_ok _ _ a C' h in Sound-after_close C C' r d b n o.0 g o.1 sound
accepted C C' (Abandon r n) a short h sound = let o = answered_ok _ _ a C' h in Sound-after_abandon C C' r n o.0 o.1 sound
accepted C C' (Mount r d from) a short h sound = let o = answered_ok _ _ a C' h in Sound-after_mount C C' r d from o.0 o.1 short sound
accepted C C' (Delete r d) a short h sound = let o = answered_ok _ _ a C' h in Sound-after_delete C C' r d o.1 sound
accepted C C' (PutManifest r b) a short h sound = let o = answered_ok _ _ a C' h in Sound-after_put_manifest C C' r b o.0 o.1 short sound
accepted C C' (GetManifest r d) a short h sound = subst (λ (D : Catalog). Sound D) (reading_ok _ C _ a C' h) sound
accepted C C' (DeleteManifest r d) a short h sound = let o = answered_ok _ _ a C' h in Sound-after_delete_manifest C C' r d o.1 sound
accepted C C' (RemoveRepo r) a short h sound = let o = answered_ok _ _ a C' h in Sound-after_remove_repo C C' r o.1 sound
accepted C C' (Lease r d) a short h sound = let o = answered_ok _ _ a C' h in Sound-after_lease C C' false r d o.0 o.1 sound

pub Sound-case : (C C' : Catalog) (command : Command) (reply : Result Answer Refusal) → length (repo_of command) ≤ 255 → IsCommandCase C command reply C' → Sound C → Sound C'
Sound-case C C' command (Ok a) short case sound = accepted C C' command a short case sound
Sound-case C C' command (Err e) short case sound = subst (λ (D : Catalog). Sound D) (sym case.1) sound

pub Sound-event : (C C' : Catalog) (e : Event) → HasShortName e → Happens C e C' → Sound C → Sound C'
Sound-event C C' (CommandEvent command reply) short happens sound = Sound-case C C' command reply short happens sound
Sound-event C C' (SweepEvent swept) short happens sound = Sound-sweep (λ _. true) C C' swept happens sound.lawful sound.quotas sound.shares sound.slots
Sound-event C C' (SweepPartEvent swept) short happens sound = Sound-sweep happens.0 C C' swept happens.1 sound.lawful sound.quotas sound.shares sound.slots

pub Sound-run : RunsStaySound
Sound-run C C' [] short run sound = subst (λ (D : Catalog). Sound D) (sym run) sound
Sound-run C C' (e ∷ es) short run sound = Sound-run run.0 C' es short.1 run.2 (Sound-event C run.0 e short.0 run.1 sound)
