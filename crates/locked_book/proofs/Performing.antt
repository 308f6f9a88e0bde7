-- A command that was tried on a book has its outcome, is a step, and keeps the records of the book.
use Rattle.std.proofs.Common.{◌≡◌, ℕ, Bool, true, false, not, Option, Some, Result, Ok, Err, arith, length, refl, sym, ap, subst, ◌∙◌, List}
use Rattle.std.specs.Prelude.{IfOk, IfSome}
use Rattle.blob_digest.specs.Digests.{sha256_text}
use Rattle.blob_digest.specs.declared.refusal.Refusal.{Refusal}
use Rattle.blob_digest.specs.declared.refusal.Refusal.TheVariants.{LimitReached}
use Rattle.blob_digest.specs.Outcomes.{OutcomeIn}
use Rattle.spec_lib.specs.Outcomes.{◌>>=◌, refuse}
use Rattle.spec_lib.specs.Texts.{Text}
use Rattle.spec_lib.proofs.Outcomes.{bound_ok}
use Rattle.store_book.specs.BookState.{BookState}
use Rattle.store_model.specs.Amounts.{Amounts, add_amounts, command_amounts_of}
use Rattle.store_model.specs.Catalog.{Catalog}
use Rattle.store_model.specs.Commands as commands
use Rattle.store_model.specs.Commands.{Outcome}
use Rattle.store_model.specs.Histories.{CommandCall, FinishCall, IsStep, PutBackCall, Step, SweepCall, SweepPartCall, TakeCall, accepted_amounts, step_amounts}
use Rattle.store_model.specs.Invariant.{Sound, WellFormed}
use Rattle.store_model.specs.Runs.{Abandon, Answer, Append, Bytes, Close, Command, Delete, DeleteManifest, Done, GetManifest, Lease, Mount, Mounting, Number, PutManifest, RemoveRepo, Start, Status, map_outcome, outcome, reading_outcome, takes_memory}
use Rattle.locked_book.specs.Calls.{reply}
use Rattle.locked_book.specs.Counting.{IsKeptState, StoreContent, has_room, with_slots}
use Rattle.locked_book.specs.History.{Adds, DeskView, state_of}
use Rattle.locked_book.specs.Names.{StoreNames, setting_of}
use Rattle.locked_book.specs.Performing.{HasLeaseOutcome, HasOutcome, Performs, PerformsStep, RepliesBy, Tries, TriesBy, TriesCommand, abandoned_bytes, abandoned_of, performed_outcome, tried_outcome}
use Rattle.locked_book.specs.Results.{HashesTo}
use Rattle.locked_book.specs.Returns.{MayReturn, ReturnsFilledHand}
use Rattle.locked_book.specs.Totals.{CanCount, Counts, amounts_with, counts_after, counts_with}
use Rattle.locked_book.proofs.Answered.{lent_content, manifest_digest}
use Rattle.locked_book.proofs.Counted as Counted
use Rattle.locked_book.proofs.Counted.{is_step, lends, paired, plus_nothing}
use Rattle.locked_book.proofs.Keeping.{counted_kept, uncounted_kept}
use Rattle.locked_book.proofs.Rooms.{room_given}
use Rattle.locked_book.proofs.SessionSums.{Sums, abandon_sums, delete_manifest_sums, delete_sums, lease_sums, mount_sums, put_manifest_sums, remove_repo_sums, start_sums, still_sums}

-- ---- the amounts of commands of one step

-- an append and a close are two steps
abbrev IsOneStep : Command → Type 0
IsOneStep (Append repo number range bytes) = ⊥
IsOneStep (Close repo number digest range bytes) = ⊥
IsOneStep command = Unit {0}

accepted_is : (command : Command) (a : Answer) → IsOneStep command → accepted_amounts command a ≡ command_amounts_of 0 0 (abandoned_of command a)
accepted_is (Start r) a one = refl
accepted_is (Status r n) a one = refl
accepted_is (Append r n g b) a one = absurd one
accepted_is (Close r n d g b) a one = absurd one
accepted_is (Abandon r n) (Number m) one = refl
accepted_is (Abandon r n) (Mounting m) one = refl
accepted_is (Abandon r n) (Bytes b) one = refl
accepted_is (Abandon r n) Done one = refl
accepted_is (Mount r d from) a one = refl
accepted_is (Delete r d) a one = refl
accepted_is (PutManifest r b) a one = refl
accepted_is (GetManifest r d) a one = refl
accepted_is (DeleteManifest r d) a one = refl
accepted_is (RemoveRepo r) a one = refl
accepted_is (Lease r d) a one = refl

-- ---- the sessions after a command of one step

mapped_ok : {A : Type 0} (f : A → Answer) (o : Outcome A) (a : Answer) (C' : Catalog) → map_outcome f o ≡ Ok (a, C') → (x : A) × (o ≡ Ok (x, C')) × (f x ≡ a)
mapped_ok f (Ok y) a C' h = let p = paired (f y.0) a y.1 C' h in (y.0, (λ i. Ok (y.0, p.1 i)), p.0)
mapped_ok f (Err e) a C' h = absurd cc

read_ok : {A : Type 0} (f : A → Answer) (C : Catalog) (o : Result A Refusal) (a : Answer) (C' : Catalog) → reading_outcome f C o ≡ Ok (a, C') → C ≡ C'
read_ok f C (Ok x) a C' h = (paired (f x) a C C' h).1
read_ok f C (Err e) a C' h = absurd cc

read_sums : (C C' : Catalog) → C ≡ C' → Sums C C' 0 0 0 0 0 0
read_sums C C' same = still_sums C C' (ap (λ (D : Catalog). D.sessions) (sym same)) (ap setting_of (sym same))

command_sums : (C C' : Catalog) (crowded : Bool) (command : Command) (a : Answer) → WellFormed C → IsOneStep command → outcome crowded C command ≡ Ok (a, C') → Sums C C' 0 0 0 0 0 (abandoned_of command a)
command_sums C C' crowded (Start r) a lawful one h = let x = mapped_ok Number (commands.start C r) a C' h in start_sums C C' r x.0 lawful x.1
command_sums C C' crowded (Status r n) a lawful one h = read_sums C C' (read_ok Number C (commands.status C r n) a C' h)
command_sums C C' crowded (Append r n g b) a lawful one h = absurd one
command_sums C C' crowded (Close r n d g b) a lawful one h = absurd one
command_sums C C' crowded (Abandon r n) (Number m) lawful one h =
    let x = mapped_ok Number (commands.abandon C r n) (Number m) C' h in
    let same : x.0 ≡ m = let p : Number x.0 ≡ Number m = x.2 in cc in
    subst (λ (y : ℕ). Sums C C' 0 0 0 0 0 y) same (abandon_sums C C' r n x.0 x.1)
command_sums C C' crowded (Abandon r n) (Mounting m) lawful one h = let x = mapped_ok Number (commands.abandon C r n) (Mounting m) C' h in let p : Number x.0 ≡ Mounting m = x.2 in absurd cc
command_sums C C' crowded (Abandon r n) (Bytes b) lawful one h = let x = mapped_ok Number (commands.abandon C r n) (Bytes b) C' h in let p : Number x.0 ≡ Bytes b = x.2 in absurd cc
command_sums C C' crowded (Abandon r n) Done lawful one h = let x = mapped_ok Number (commands.abandon C r n) Done C' h in let p : Number x.0 ≡ Done = x.2 in absurd cc
command_sums C C' crowded (Mount r d from) a lawful one h = let x = mapped_ok Mounting (commands.mount C r d from) a C' h in mount_sums C C' r d from x.0 lawful x.1
command_sums C C' crowded (Delete r d) a lawful one h = let x = mapped_ok (λ _. Done) (commands.delete C r d) a C' h in delete_sums C C' r d x.0 x.1
command_sums C C' crowded (PutManifest r b) a lawful one h = let x = mapped_ok Bytes (commands.put_manifest C r b) a C' h in put_manifest_sums C C' r b x.0 x.1
command_sums C C' crowded (GetManifest r d) a lawful one h = read_sums C C' (read_ok Bytes C (commands.get_manifest C r d) a C' h)
command_sums C C' crowded (DeleteManifest r d) a lawful one h = let x = mapped_ok (λ _. Done) (commands.delete_manifest C r d) a C' h in delete_manifest_sums C C' r d x.0 x.1
command_sums C C' crowded (RemoveRepo r) a lawful one h = let x = mapped_ok (λ _. Done) (commands.remove_repo C r) a C' h in remove_repo_sums C C' r x.0 x.1
command_sums C C' crowded (Lease r d) a lawful one h = let x = mapped_ok Bytes (commands.lease crowded C r d) a C' h in lease_sums C C' crowded r d x.0 x.1

-- ---- a command on plain values, whatever happens to the slots

ok_of : (memory : Bool) (a : Answer) (C C' : Catalog) (o : Outcome Answer) → TriesBy memory (Ok a) C C' o → o ≡ Ok (a, C')
ok_of true a C C' o h = h
ok_of false a C C' o h = h

same_of : (memory : Bool) (e : Refusal) (C C' : Catalog) (o : Outcome Answer) → TriesBy memory (Err e) C C' o → C' ≡ C
same_of true e C C' o h = h.1
same_of false e C C' o h = h.1

module _ (b b' : BookState) (k : Counts) (crowded : Bool) (command : Command) where
  abbrev old : StoreContent
  old = record { book = b; counts = k }

  -- the room for one more command, and the outcome of the command
  parts : (a : Answer) → tried_outcome crowded command b k ≡ Ok (a, b'.catalog) → (u : Unit {0}) × (refuse (not (has_room old 0)) LimitReached ≡ Ok u) × (outcome crowded b.catalog command ≡ Ok (a, b'.catalog))
  parts a h = bound_ok (refuse (not (has_room old 0)) LimitReached) _ (a, b'.catalog) h

  abbrev counting : Outcome Answer → OutcomeIn StoreContent Answer
  counting o = do
    done ← o
    Ok (done.0, record { book = record b { catalog = done.1 }; counts = counts_after k (accepted_amounts command done.0) })

  performed_ok : (k' : Counts) (a : Answer) → IsOneStep command → b'.table ≡ b.table → k' ≡ counts_with k (Some (abandoned_of command a)) → tried_outcome crowded command b k ≡ Ok (a, b'.catalog)
      → performed_outcome crowded command old ≡ Ok (a, with_slots (record { book = b'; counts = k' }) b.slots)
  performed_ok k' a one table counted h =
      let x = parts a h in
      let amounts : counts_after k (accepted_amounts command a) ≡ k' = ap (counts_after k) (accepted_is command a one) ∙ sym counted in
      ap (λ (r : Result (Unit {0}) Refusal). r >>= λ _. counting (outcome crowded b.catalog command)) x.1
      ∙ ap counting x.2
      ∙ (λ i. Ok (a, record { book = record { catalog = b'.catalog; table = sym table i; slots = b.slots }; counts = amounts i }))

  refused_by : (r : Result (Unit {0}) Refusal) (o : Outcome Answer) (e : Refusal) → (r >>= λ _. o) ≡ Err e → (r >>= λ _. counting o) ≡ Err e
  refused_by (Ok u) (Ok done) e h = absurd cc
  refused_by (Ok u) (Err f) e h = let p : f ≡ e = cc in ap Err p
  refused_by (Err f) o e h = let p : f ≡ e = cc in ap Err p

  performed_err : (e : Refusal) → tried_outcome crowded command b k ≡ Err e → performed_outcome crowded command old ≡ Err e
  performed_err e h = refused_by (refuse (not (has_room old 0)) LimitReached) (outcome crowded b.catalog command) e h

  performed : (memory : Bool) (reply : Result Answer Refusal) (k' : Counts) → IsOneStep command → b'.table ≡ b.table → k' ≡ counts_with k (abandoned_bytes (CommandCall command reply)) → TriesBy memory reply b.catalog b'.catalog (tried_outcome crowded command b k)
      → RepliesBy memory reply old (with_slots (record { book = b'; counts = k' }) b.slots) (performed_outcome crowded command old)
  performed true (Ok a) k' one table counted h = performed_ok k' a one table counted h
  performed false (Ok a) k' one table counted h = performed_ok k' a one table counted h
  performed true (Err e) k' one table counted h = ((λ n. performed_err e (h.0 n)), λ i. record { book = record { catalog = h.1 i; table = table i; slots = b.slots }; counts = counted i })
  performed false (Err e) k' one table counted h = (performed_err e h.0, λ i. record { book = record { catalog = h.1 i; table = table i; slots = b.slots }; counts = counted i })

  module _ (names : StoreNames) (hands reserve : ℕ) (was : IsKeptState names b k hands reserve) (lawful : WellFormed b.catalog) (one : IsOneStep command) where
    can_count : (a : Answer) → tried_outcome crowded command b k ≡ Ok (a, b'.catalog) → CanCount k.totals (abandoned_of command a)
    can_count a h =
        let x = parts a h in
        let room = room_given (record { book = b; counts = k }) (record { book = b; counts = k }) 0 x.0 refl (sym x.1) in
        let sums = command_sums b.catalog b'.catalog crowded command a lawful one x.2 in
        let bytes = sums.bytes in (
          omega (arith, room.0),
          omega (arith, was.3),
          omega (arith, was.3, was.4),
          omega (arith, bytes, was.3, was.4),
        )

    kept_ok : (k' : Counts) (a : Answer) → b'.table ≡ b.table → length b'.slots ≡ length b.slots → k' ≡ counts_with k (Some (abandoned_of command a)) → tried_outcome crowded command b k ≡ Ok (a, b'.catalog) → IsKeptState names b' k' hands reserve
    kept_ok k' a table slots counted h =
        let x = parts a h in
        counted_kept names b b' k k' (record { book = b; counts = k }) hands reserve (abandoned_of command a) x.0 was (command_sums b.catalog b'.catalog crowded command a lawful one x.2) counted refl (sym x.1) table slots

    kept_err : (k' : Counts) → b'.table ≡ b.table → length b'.slots ≡ length b.slots → k' ≡ k → b'.catalog ≡ b.catalog → IsKeptState names b' k' hands reserve
    kept_err k' table slots counted same = uncounted_kept names b b' k k' hands reserve was (read_sums b.catalog b'.catalog (sym same)) counted table slots

-- ---- tried steps

-- a step that was tried is a command of one step, with its book and its counts
record Tried (b : BookState) (k : Counts) (step : Step) (b' : BookState) : Type 0 where
  pub command : Command
  pub reply : Result Answer Refusal
  pub is : step ≡ CommandCall command reply
  pub one : IsOneStep command
  pub crowded : Bool
  pub lawful : WellFormed b.catalog
  pub does : TriesBy (takes_memory command) reply b.catalog b'.catalog (tried_outcome crowded command b k)
  pub table : b'.table ≡ b.table
  pub slots : length b'.slots ≡ length b.slots
  pub has : (k' : Counts) → k' ≡ counts_with k (abandoned_bytes (CommandCall command reply)) → HasOutcome command reply (record { book = b; counts = k }) (record { book = b'; counts = k' })

-- a command that is no lease
plain : (b b' : BookState) (k : Counts) (command : Command) (reply : Result Answer Refusal) → IsOneStep command → TriesCommand command reply b k b' →
    ((k' : Counts) → RepliesBy (takes_memory command) reply (record { book = b; counts = k }) (record { book = b'; counts = k' }) (performed_outcome false command (record { book = b; counts = k })) → HasOutcome command reply (record { book = b; counts = k }) (record { book = b'; counts = k' }))
    → Tried b k (CommandCall command reply) b'
plain b b' k command reply one t has = record {
  command = command;
  reply = reply;
  is = refl;
  one = one;
  crowded = false;
  lawful = t.sound.lawful;
  does = t.does;
  table = t.table;
  slots = ap length t.slots;
  has = λ k' counted. has k' (subst (λ s. RepliesBy (takes_memory command) reply (record { book = b; counts = k }) (with_slots (record { book = b'; counts = k' }) s) (performed_outcome false command (record { book = b; counts = k }))) (sym t.slots) (performed b b' k false command (takes_memory command) reply k' one t.table counted t.does));
}

tried : (b b' : BookState) (k : Counts) (step : Step) → Tries b k step b' → Tried b k step b'
tried b b' k (CommandCall (Start r) reply) t = plain b b' k (Start r) reply tt t (λ k' h. h)
tried b b' k (CommandCall (Status r n) reply) t = plain b b' k (Status r n) reply tt t (λ k' h. h)
tried b b' k (CommandCall (Append r n g x) reply) t = absurd t
tried b b' k (CommandCall (Close r n d g x) reply) t = absurd t
tried b b' k (CommandCall (Abandon r n) reply) t = plain b b' k (Abandon r n) reply tt t (λ k' h. h)
tried b b' k (CommandCall (Mount r d from) reply) t = plain b b' k (Mount r d from) reply tt t (λ k' h. h)
tried b b' k (CommandCall (Delete r d) reply) t = plain b b' k (Delete r d) reply tt t (λ k' h. h)
tried b b' k (CommandCall (PutManifest r x) reply) t = plain b b' k (PutManifest r x) reply tt t (λ k' h. h)
tried b b' k (CommandCall (GetManifest r d) reply) t = plain b b' k (GetManifest r d) reply tt t (λ k' h. h)
tried b b' k (CommandCall (DeleteManifest r d) reply) t = plain b b' k (DeleteManifest r d) reply tt t (λ k' h. h)
tried b b' k (CommandCall (RemoveRepo r) reply) t = plain b b' k (RemoveRepo r) reply tt t (λ k' h. h)
tried b b' k (CommandCall (Lease r d) reply) t = record {
  command = Lease r d;
  reply = reply;
  is = refl;
  one = tt;
  crowded = t.crowded;
  lawful = t.sound.lawful;
  does = t.does;
  table = t.table;
  slots = t.slots;
  has = λ k' counted. record { crowded = t.crowded; does = performed b b' k t.crowded (Lease r d) true reply k' tt t.table counted t.does; look = t.look };
}
tried b b' k (SweepCall s) t = absurd t
tried b b' k (SweepPartCall s) t = absurd t
tried b b' k (TakeCall r n g len reply) t = absurd t
tried b b' k (PutBackCall h reply) t = absurd t
tried b b' k (FinishCall h d reply) t = absurd t

-- a command that has its outcome is a step
command_is_step : (k k' : StoreContent) (command : Command) (reply : Result Answer Refusal) → HasOutcome command reply k k' → IsStep (state_of k) (CommandCall command reply) (state_of k')
command_is_step k k' (Start r) reply h = is_step k k' (Start r) reply h
command_is_step k k' (Status r n) reply h = is_step k k' (Status r n) reply h
command_is_step k k' (Append r n g x) reply h = is_step k k' (Append r n g x) reply h
command_is_step k k' (Close r n d g x) reply h = is_step k k' (Close r n d g x) reply h
command_is_step k k' (Abandon r n) reply h = is_step k k' (Abandon r n) reply h
command_is_step k k' (Mount r d from) reply h = is_step k k' (Mount r d from) reply h
command_is_step k k' (Delete r d) reply h = is_step k k' (Delete r d) reply h
command_is_step k k' (PutManifest r x) reply h = is_step k k' (PutManifest r x) reply h
command_is_step k k' (GetManifest r d) reply h = is_step k k' (GetManifest r d) reply h
command_is_step k k' (DeleteManifest r d) reply h = is_step k k' (DeleteManifest r d) reply h
command_is_step k k' (RemoveRepo r) reply h = is_step k k' (RemoveRepo r) reply h
command_is_step k k' (Lease r d) reply h = lends k k' r d reply h

counted_amounts : (command : Command) (reply : Result Answer Refusal) (d d' : Amounts) → IsOneStep command → d' ≡ amounts_with d (abandoned_bytes (CommandCall command reply)) → d' ≡ add_amounts d (step_amounts (CommandCall command reply))
counted_amounts command (Ok a) d d' one h = h ∙ ap (add_amounts d) (sym (accepted_is command a one))
counted_amounts command (Err e) d d' one h = h ∙ plus_nothing d

-- ---- what a command that was tried needs

module _ (names : StoreNames) (b b' : BookState) (k : Counts) (step : Step) (tries : Tries b k step b') where
  t : Tried b k step b'
  t = tried b b' k step tries

  -- the counts can grow by what the step counts
  pub has_space : (hands reserve : ℕ) (n : Option ℕ) → IsKeptState names b k hands reserve → n ≡ abandoned_bytes step → IfSome n (λ m. CanCount k.totals m)
  has_space hands reserve n was is = subst (λ (o : Option ℕ). IfSome o (λ m. CanCount k.totals m)) (sym (is ∙ ap abandoned_bytes t.is)) (by t.reply t.does)
    where
      by : (reply : Result Answer Refusal) → TriesBy (takes_memory t.command) reply b.catalog b'.catalog (tried_outcome t.crowded t.command b k) → IfSome (abandoned_bytes (CommandCall t.command reply)) (λ m. CanCount k.totals m)
      by (Ok a) h = can_count b b' k t.crowded t.command names hands reserve was t.lawful t.one a (ok_of (takes_memory t.command) a b.catalog b'.catalog (tried_outcome t.crowded t.command b k) h)
      by (Err e) h = tt

  -- the invariant holds after the step
  pub still_kept : (hands reserve : ℕ) (k' : Counts) → IsKeptState names b k hands reserve → k' ≡ counts_with k (abandoned_bytes step) → IsKeptState names b' k' hands reserve
  still_kept hands reserve k' was counted = by t.reply t.does (counted ∙ ap (λ s. counts_with k (abandoned_bytes s)) t.is)
    where
      by : (reply : Result Answer Refusal) → TriesBy (takes_memory t.command) reply b.catalog b'.catalog (tried_outcome t.crowded t.command b k) → k' ≡ counts_with k (abandoned_bytes (CommandCall t.command reply)) → IsKeptState names b' k' hands reserve
      by (Ok a) h counted = kept_ok b b' k t.crowded t.command names hands reserve was t.lawful t.one k' a t.table t.slots counted (ok_of (takes_memory t.command) a b.catalog b'.catalog (tried_outcome t.crowded t.command b k) h)
      by (Err e) h counted = kept_err b b' k t.crowded t.command names hands reserve was t.lawful t.one k' t.table t.slots counted (same_of (takes_memory t.command) e b.catalog b'.catalog (tried_outcome t.crowded t.command b k) h)

  -- it is a step of the history
  pub tried_step : (k' : Counts) → k' ≡ counts_with k (abandoned_bytes step) → IsStep (record { catalog = b.catalog; totals = k.totals }) step (record { catalog = b'.catalog; totals = k'.totals })
  tried_step k' counted =
      subst (λ s. IsStep (record { catalog = b.catalog; totals = k.totals }) s (record { catalog = b'.catalog; totals = k'.totals })) (sym t.is)
      (command_is_step (record { book = b; counts = k }) (record { book = b'; counts = k' }) t.command t.reply (t.has k' (counted ∙ ap (λ s. counts_with k (abandoned_bytes s)) t.is)))

  -- the desk has performed it
  pub performs_step : (C : Catalog) (k' : Counts) (d d' : DeskView) → k' ≡ counts_with k (abandoned_bytes step) → d'.amounts ≡ amounts_with d.amounts (abandoned_bytes step) → Adds C d.trace step d'.trace → PerformsStep C step b k b' k' d d'
  performs_step C k' d d' counted amounts adds =
      subst (λ s. PerformsStep C s b k b' k' d d') (sym t.is) (record {
        does = t.has k' (counted ∙ ap (λ s. counts_with k (abandoned_bytes s)) t.is);
        makes = record {
          amounts = counted_amounts t.command t.reply d.amounts d'.amounts t.one (amounts ∙ ap (λ s. amounts_with d.amounts (abandoned_bytes s)) t.is);
          adds = subst (λ s. Adds C d.trace s d'.trace) t.is adds;
        };
      })

  -- it returns no hand
  pub returns_nothing : (own : List Step) → MayReturn own step
  returns_nothing own = subst (MayReturn own) (sym t.is) tt

  pub fills_nothing : ReturnsFilledHand step
  fills_nothing = subst ReturnsFilledHand (sym t.is) tt

-- ---- the bytes that commands return

manifest_of : {A : Type 0} (view : A → Text) (k k' : StoreContent) (repo digest : Text) (result : Result A Refusal) → HasOutcome (GetManifest repo digest) (reply (λ m. Bytes (view m)) result) k k' → Sound k.book.catalog → IfOk result (λ m. sha256_text (view m) ≡ digest)
manifest_of view k k' repo digest (Err e) h sound = tt
manifest_of view k k' repo digest (Ok a) h sound = by (commands.get_manifest k.book.catalog repo digest) refl (Counted.performed_ok k k' false (GetManifest repo digest) (Bytes (view a)) h).steps
  where
    by : (o : Result Text Refusal) → commands.get_manifest k.book.catalog repo digest ≡ o → reading_outcome Bytes k.book.catalog o ≡ Ok (Bytes (view a), k'.book.catalog) → sha256_text (view a) ≡ digest
    by (Ok x) is h =
        let same : x ≡ view a = let q : Bytes x ≡ Bytes (view a) = (paired (Bytes x) (Bytes (view a)) k.book.catalog k'.book.catalog h).0 in cc in
        ap sha256_text (sym same) ∙ manifest_digest k.book.catalog repo digest x sound.lawful is
    by (Err e) is h = absurd cc

-- a manifest that was found has its digest
pub found_manifest : {A : Type 0} {C : Catalog} {k k' : StoreContent} {d d' : DeskView} (view : A → Text) (repo digest : Text) (result : Result A Refusal) → Performs C (GetManifest repo digest) (reply (λ m. Bytes (view m)) result) k k' d d' → Sound k.book.catalog → IfOk result (λ m. sha256_text (view m) ≡ digest)
found_manifest {A} {C} {k} {k'} {d} {d'} view repo digest result p sound = manifest_of view k k' repo digest result p.does sound

content_of : {A : Type 0} (view : A → Text) (k k' : StoreContent) (repo digest : Text) (result : Result A Refusal) → HasLeaseOutcome repo digest (reply (λ r. Bytes (view r)) result) k k' → Sound k.book.catalog → IfOk result (λ r. HashesTo k.book.catalog.contents (view r) digest)
content_of view k k' repo digest (Err e) h sound = tt
content_of view k k' repo digest (Ok a) h sound =
    let done = (Counted.performed_ok k (with_slots k' k.book.slots) h.crowded (Lease repo digest) (Bytes (view a)) h.does).steps in
    let x = mapped_ok Bytes (commands.lease h.crowded k.book.catalog repo digest) (Bytes (view a)) k'.book.catalog done in
    let same : x.0 ≡ view a = let q : Bytes x.0 ≡ Bytes (view a) = x.2 in cc in
    subst (λ bytes. HashesTo k.book.catalog.contents bytes digest) same (lent_content k.book.catalog k'.book.catalog h.crowded repo digest x.0 sound.lawful x.1)

-- a leased blob has its digest
pub leased_content : {A : Type 0} {C : Catalog} {k k' : StoreContent} {d d' : DeskView} (view : A → Text) (repo digest : Text) (result : Result A Refusal) → Performs C (Lease repo digest) (reply (λ r. Bytes (view r)) result) k k' d d' → Sound k.book.catalog
    → IfOk result (λ r. HashesTo k.book.catalog.contents (view r) digest)
leased_content {A} {C} {k} {k'} {d} {d'} view repo digest result p sound = content_of view k k' repo digest result p.does sound
