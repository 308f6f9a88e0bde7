-- A checked-out session stays checked out until its hand returns.
use Rattle.std.proofs.Common.{◌≡◌, ◌≢◌, ℕ, true, false, [], length, Option, Some, None, Ok, sym, ap, ◌∙◌, subst}
use Rattle.std.specs.FinMap.{get, insert, remove}
use Rattle.std.proofs.lemmas.Bool.{false≢true}
use Rattle.blob_digest.specs.declared.range.ByteRange.{ByteRange}
use Rattle.blob_digest.proofs.KeyOrders.{number_cmp_total, exact_number}
use Rattle.spec_lib.specs.Texts.{Text}
use Rattle.spec_lib.proofs.Maps.{get-insert_other, get-remove_other}
use Rattle.store_model.specs.Catalog.{Catalog, CheckedIn, SessionNumber, Session, next_number_of}
use Rattle.store_model.specs.Commands
use Rattle.store_model.specs.Commands.{Outcome, after_append_in, chunk_length_check, with_new_session, not_busy, check_quota}
use Rattle.store_model.specs.Invariant.{WellFormed}
use Rattle.store_model.specs.Runs as runs
use Rattle.store_model.specs.Runs.{Answer, Command, outcome}
use Rattle.store_model.specs.Sessions.{are_checked_in}
use Rattle.store_model.proofs.Commands.Accepted.{session_found}
use Rattle.store_model.proofs.Commands.Hands.{Checked, checked_home, home_chunks}
use Rattle.store_model.proofs.Invariant.Sessions.{fresh}
use Rattle.store_model.proofs.Noninterference.LocalRespect.{Leaves, answers_leave, close_leaves, delete_leaves, delete_manifest_leaves, lease_leaves, mount_leaves, of_tenant, past, put_leaves, reading_leave, remove_repo_leaves, start_leaves}

module _ (C : Catalog) (lawful : WellFormed C) (k : SessionNumber) (s : Session) (found : get C.sessions k ≡ Some s) (out : are_checked_in s.chunks ≡ false) where
  abbrev Keeps : Catalog → Type 0
  Keeps X = get X.sessions k ≡ Some s

  -- a session that is checked in is another one
  apart : (q : SessionNumber) (x : Session) → get C.sessions q ≡ Some x → are_checked_in x.chunks ≡ true → k ≢ q
  apart q x there home e =
      let same : s ≡ x = (let both : Some s ≡ Some x = sym found ∙ ap (get C.sessions) e ∙ there in cc) in
      absurd (false≢true (sym out ∙ ap (λ (y : Session). are_checked_in y.chunks) same ∙ home))

  checked : (t n len : ℕ) (r : Text) → Checked C t n r len → k ≢ (t, n)
  checked t n len r c = apart (t, n) c.s c.found (ap are_checked_in c.home)

  added : (q : SessionNumber) (x : Session) → k ≢ q → get (insert C.sessions q x) k ≡ Some s
  added q x other = get-insert_other number_cmp_total exact_number C.sessions q x k other ∙ found

  gone : (q : SessionNumber) → k ≢ q → get (remove C.sessions q) k ≡ Some s
  gone q other = get-remove_other number_cmp_total exact_number C.sessions q k other ∙ found

  started : (t : ℕ) (r : Text) → Keeps (with_new_session C t r)
  started t r = added (t, next_number_of C t) (record { repo = r; chunks = CheckedIn [] }) (λ e. absurd (let a : Some s ≡ None = sym found ∙ ap (get C.sessions) e ∙ fresh C t r lawful in cc))

  appended : (t n : ℕ) (r b : Text) → Checked C t n r (length b) → Keeps (record C { sessions = after_append_in C.sessions (t, n) b })
  appended t n r b c = rw c.found (added (t, n) _ (checked t n (length b) r c))

  append_keeps : (r : Text) (n : ℕ) (g : Option ByteRange) (b : Text) → Leaves Keeps (Commands.append C r n g b)
  append_keeps r n g b = of_tenant Keeps C r _ (λ t known. past Keeps (chunk_length_check C t r n g (length b)) _ (λ after c. past Keeps (check_quota C t (length b)) _ (λ _ _. appended t n r b (checked_home C t n r g (length b) after c))))

  abandon_keeps : (r : Text) (n : ℕ) → Leaves Keeps (Commands.abandon C r n)
  abandon_keeps r n = of_tenant Keeps C r _ (λ t known. past Keeps (Commands.session C t r n) _ (λ x there. past Keeps (not_busy x.chunks) _ (λ u home.
      gone (t, n) (apart (t, n) x (session_found (get C.sessions (t, n)) r x there).0 (ap are_checked_in (home_chunks x.chunks u home).1)))))

  command_keeps : (command : Command) → Leaves Keeps (outcome false C command)
  command_keeps (runs.Start r) = answers_leave Keeps runs.Number _ (start_leaves Keeps C r (λ t _. started t r))
  command_keeps (runs.Status r n) = reading_leave Keeps runs.Number C (Commands.status C r n) found
  command_keeps (runs.Append r n g b) = answers_leave Keeps runs.Number _ (append_keeps r n g b)
  command_keeps (runs.Close r n d g b) = answers_leave Keeps runs.Number _ (close_leaves Keeps C r Commands.has_slot n d g b (λ t after _ c _. gone (t, n) (checked t n (length b) r (checked_home C t n r g (length b) after c))))
  command_keeps (runs.Abandon r n) = answers_leave Keeps runs.Number _ (abandon_keeps r n)
  command_keeps (runs.Mount r d from) = answers_leave Keeps runs.Mounting _ (mount_leaves Keeps C r d from (λ t _. started t r) (λ t _ _. found))
  command_keeps (runs.Delete r d) = answers_leave Keeps (λ _. runs.Done) _ (delete_leaves Keeps C r d found)
  command_keeps (runs.PutManifest r b) = answers_leave Keeps runs.Bytes _ (put_leaves Keeps C r b found (λ t _. found))
  command_keeps (runs.GetManifest r m) = reading_leave Keeps runs.Bytes C (Commands.get_manifest C r m) found
  command_keeps (runs.DeleteManifest r m) = answers_leave Keeps (λ _. runs.Done) _ (delete_manifest_leaves Keeps C r m found)
  command_keeps (runs.RemoveRepo r) = answers_leave Keeps (λ _. runs.Done) _ (remove_repo_leaves Keeps C r (λ _ _. found))
  command_keeps (runs.Lease r d) = answers_leave Keeps runs.Bytes _ (lease_leaves Keeps C r false d (λ b _. found))

  pub stays_in_hand : (X : Catalog) (command : Command) (a : Answer) → outcome false C command ≡ Ok (a, X) → get X.sessions k ≡ Some s
  stays_in_hand X command a is = subst (λ o. Leaves Keeps o) is (command_keeps command)
