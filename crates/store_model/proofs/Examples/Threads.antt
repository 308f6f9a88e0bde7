-- Two tenants on two threads, each with a checked-out session. The first one gets `Quota` and `Busy` because of its own session only,
-- so it gets both in its isolated history too. Without these two errors the history is a run of whole commands.
use Rattle.std.proofs.Common.{◌≡◌, ℕ, false, List, [], ◌∷◌, Some, None, Ok, Err, refl, ap, ◌∙◌, arith, inl}
use Rattle.std.specs.Prelude.{codes}
use Rattle.std.specs.FinMap.{empty, insert, remove, get-empty, get-insert, get-remove, entries-insert}
use Rattle.std.specs.Cmp.Lexicographic.{nat_list_cmp_total}
use Rattle.blob_digest.specs.declared.refusal.Refusal.TheVariants.{Busy, Quota}
use Rattle.blob_digest.proofs.KeyOrders.{number_cmp_total, exact_number}
use Rattle.spec_lib.proofs.Maps.{remove-insert_new}
use Rattle.spec_lib.proofs.Rows.{entries-empty}
use Rattle.spec_lib.specs.Texts.{Text}
use Rattle.store_model.specs.Catalog.{Catalog, Chunks, CheckedIn, CheckedOutWith, SessionNumber, Session, HandRecord, Tenant, session_number_cmp, opening, in_memory}
use Rattle.store_model.specs.Commands.{abandon, with_new_session, put_back, start, take}
use Rattle.store_model.specs.Histories.{AreSteps, IsUncountable, LeadsTo, CommandCall, PutBackCall, State, Step, TakeCall}
use Rattle.store_model.specs.HistoryIsolation.{Perform, Return, Take, IsIsolatedInHistory, IsCollisionFreeHistory, IsOwnRefusal, IsUnaffectedHistory, requests_of, isolated_steps, steps_of}
use Rattle.store_model.specs.Invariant.{Sound}
use Rattle.store_model.specs.Runs.{Abandon, Append, CommandEvent, Event, IsRun, Number as Numbered, Start}
use Rattle.store_model.specs.WholeCommands.{AreWholeCommands, CheckedOutSessions, CheckedOut}
use Rattle.store_model.proofs.Commands.Opening.{Sound-opening, two_names_apart}
use Rattle.store_model.proofs.Noninterference.Histories.{alone_in_histories}
use Rattle.store_model.proofs.Noninterference.LocalRespect.{tenants_alike_themselves}
use Rattle.store_model.proofs.WholeCommands.Histories.{histories_are_runs}
use Rattle.blob_digest.specs.Tenants.{usual_limits}
use Rattle.blob_digest.proofs.Tenants.{usual_supported}

abbrev first_tenant : Tenant
first_tenant = record { name = codes "acme"; quota = 3; share = 4294967295; limits = usual_limits }

abbrev second_tenant : Tenant
second_tenant = record { name = codes "other"; quota = 9; share = 4294967295; limits = usual_limits }

abbrev tenants : List Tenant
tenants = first_tenant ∷ second_tenant ∷ []

abbrev one : Text
one = codes "acme/one"

abbrev x : Text
x = codes "other/x"

-- ---- the steps

-- a session of a repository with these chunks
abbrev with : Catalog → SessionNumber → Text → Chunks → Catalog
with C key repo chunks = record C { sessions = insert C.sessions key (record { repo = repo; chunks = chunks }) }

abbrev book : Catalog
book = opening tenants 64 (in_memory 10)

abbrev first_open : Catalog
first_open = with_new_session book 0 one

abbrev second_open : Catalog
second_open = with_new_session first_open 0 one

abbrev all_open : Catalog
all_open = with_new_session second_open 1 x

abbrev other_out : Catalog
other_out = with all_open (1, 1) x (CheckedOutWith 0 4)

abbrev both_out : Catalog
both_out = with other_out (0, 1) one (CheckedOutWith 0 2)

abbrev one_back : Catalog
one_back = with both_out (0, 1) one (CheckedIn (codes "ab" ∷ []))

abbrev both_back : Catalog
both_back = with one_back (1, 1) x (CheckedIn (codes "abcd" ∷ []))

abbrev hand : HandRecord
hand = record { repo = one; key = (0, 1); chunks = []; reserved = 2; last = None }

abbrev other_hand : HandRecord
other_hand = record { repo = x; key = (1, 1); chunks = []; reserved = 4; last = None }

abbrev steps : List Step
steps = CommandCall (Start one) (Ok (Numbered 1)) ∷ CommandCall (Start one) (Ok (Numbered 2)) ∷ CommandCall (Start x) (Ok (Numbered 1)) ∷ TakeCall x 1 None 4 (Ok other_hand)
    ∷ TakeCall one 1 None 2 (Ok hand) ∷ TakeCall one 2 None 2 (Err (Quota 2 3)) ∷ CommandCall (Abandon one 1) (Err Busy)
    ∷ PutBackCall (record hand { last = Some (codes "ab") }) (Ok 2) ∷ PutBackCall (record other_hand { last = Some (codes "abcd") }) (Ok 4) ∷ []

starts : start book one ≡ Ok (1, first_open)
starts = simp (get-empty, entries-empty) refl

starts_again : start first_open one ≡ Ok (2, second_open)
starts_again = simp (get-insert {X = Unit {0}} nat_list_cmp_total, entries-insert {X = Session} number_cmp_total, entries-empty) refl

other_starts : start second_open x ≡ Ok (1, all_open)
other_starts = simp (get-insert {X = Unit {0}} nat_list_cmp_total, entries-insert {X = Unit {0}} nat_list_cmp_total, entries-insert {X = Session} number_cmp_total, get-empty, entries-empty) refl

other_takes : take all_open x 1 None 4 ≡ Ok (other_hand, other_out)
other_takes = simp (get-insert {X = Session} number_cmp_total, get-empty, entries-insert {X = Session} number_cmp_total, entries-empty) refl

takes : take other_out one 1 None 2 ≡ Ok (hand, both_out)
takes = simp (get-insert {X = Session} number_cmp_total, get-empty, entries-insert {X = Session} number_cmp_total, entries-empty) refl

-- two bytes are reserved, and two more are too many
past_the_quota : take both_out one 2 None 2 ≡ Err (Quota 2 3)
past_the_quota = simp (get-insert {X = Session} number_cmp_total, get-empty, entries-insert {X = Session} number_cmp_total, entries-empty) refl

busy : abandon both_out one 1 ≡ Err Busy
busy = simp (get-insert {X = Session} number_cmp_total) refl

comes_back : put_back both_out (record hand { last = Some (codes "ab") }) ≡ Ok (2, one_back)
comes_back = simp (get-insert {X = Session} number_cmp_total) refl

other_comes_back : put_back one_back (record other_hand { last = Some (codes "abcd") }) ≡ Ok (4, both_back)
other_comes_back = simp (get-insert {X = Session} number_cmp_total) refl

-- ---- the history

abbrev state : Catalog → ℕ → ℕ → State
state C commands received = record { catalog = C; totals = record { commands = commands; received = received; closed = 0; abandoned = 0 } }

-- both hands are checked in
abbrev backs : List Step
backs = PutBackCall (record hand { last = Some (codes "ab") }) (Ok 2) ∷ PutBackCall (record other_hand { last = Some (codes "abcd") }) (Ok 4) ∷ []

back : AreSteps (state both_out 3 0) backs (state both_back 5 6)
back = (state one_back 4 2, record { leaves = comes_back; counts = refl }, (state both_back 5 6, record { leaves = other_comes_back; counts = refl }, refl))

-- the state after three starts and two check-outs
opened : (steps : List Step) (s : State) → AreSteps (state both_out 3 0) steps s →
    LeadsTo book (CommandCall (Start one) (Ok (Numbered 1)) ∷ CommandCall (Start one) (Ok (Numbered 2)) ∷ CommandCall (Start x) (Ok (Numbered 1)) ∷ TakeCall x 1 None 4 (Ok other_hand) ∷ TakeCall one 1 None 2 (Ok hand) ∷ steps) s
opened steps s rest = (
  state first_open 1 0,
  record { leaves = rw starts refl; counts = refl },
  (
    state second_open 2 0,
    record { leaves = rw starts_again refl; counts = refl },
    (
      state all_open 3 0,
      record { leaves = rw other_starts refl; counts = refl },
      (state other_out 3 0, record { leaves = other_takes; counts = refl }, (state both_out 3 0, record { leaves = takes; counts = refl }, rest)),
    ),
  ),
)

legal : LeadsTo book steps (state both_back 5 6)
legal = opened (TakeCall one 2 None 2 (Err (Quota 2 3)) ∷ CommandCall (Abandon one 1) (Err Busy) ∷ backs) (state both_back 5 6) (
  state both_out 3 0,
  record { leaves = (inl past_the_quota, refl); counts = refl },
  (state both_out 3 0, record { leaves = inl (inl (false, rw busy refl), refl); counts = refl }, back),
)

-- ---- the premises of the theorem, and its conclusion

fair : IsCollisionFreeHistory tenants 64 (in_memory 10) steps (state both_back 5 6)
fair = record { run = legal; no_collision = λ d a b first second. absurd (let lt = first.1 in omega arith) }

undisturbed : IsUnaffectedHistory tenants 64 (in_memory 10) 0 steps (state both_back 5 6) fair
unfolding fair legal opened
undisturbed = ((λ _. tt), ((λ _. tt), ((λ _. tt), ((λ _. tt), ((λ _. tt), ((λ _. quota (state both_out 3 0)), ((λ _. busy_session (state both_out 3 0)), ((λ _. tt), ((λ _. tt), tt)))))))))
  where
    quota : (s : State) → IsOwnRefusal (Quota 2 3) × ¬ (IsUncountable s 2 (Quota 2 3))
    quota s = (((λ e. absurd cc), (λ e. absurd cc), (λ e. absurd cc)), (λ u. let e = u.1 in absurd cc))

    busy_session : (s : State) → IsOwnRefusal Busy × ¬ (IsUncountable s 0 Busy)
    busy_session s = (((λ e. absurd cc), (λ e. absurd cc), (λ e. absurd cc)), (λ u. let e = u.1 in absurd cc))

own_requests : requests_of (steps_of tenants 0 steps) ≡
    Perform (Start one) ∷ Perform (Start one) ∷ Take one 1 None 2 ∷ Take one 2 None 2 ∷ Perform (Abandon one 1) ∷ Return (record hand { last = Some (codes "ab") }) ∷ []
own_requests = refl

first_alone : IsIsolatedInHistory tenants tenants 64 (in_memory 10) 0 steps (state both_back 5 6)
first_alone = alone_in_histories tenants tenants 64 (in_memory 10) 0 steps (state both_back 5 6) (tenants_alike_themselves 0 tenants) fair undisturbed

-- in its isolated history the tenant gets `Quota`, with the same numbers, and `Busy` too
same_replies : isolated_steps book (requests_of (steps_of tenants 0 steps)) ≡
    CommandCall (Start one) (Ok (Numbered 1)) ∷ CommandCall (Start one) (Ok (Numbered 2)) ∷ TakeCall one 1 None 2 (Ok hand) ∷ TakeCall one 2 None 2 (Err (Quota 2 3)) ∷ CommandCall (Abandon one 1) (Err Busy)
    ∷ PutBackCall (record hand { last = Some (codes "ab") }) (Ok 2) ∷ []
same_replies = first_alone.replies

-- ---- without the two errors

abbrev calm_steps : List Step
calm_steps = CommandCall (Start one) (Ok (Numbered 1)) ∷ CommandCall (Start one) (Ok (Numbered 2)) ∷ CommandCall (Start x) (Ok (Numbered 1)) ∷ TakeCall x 1 None 4 (Ok other_hand)
    ∷ TakeCall one 1 None 2 (Ok hand) ∷ backs

-- the appends happen when the hands are checked in
abbrev appends : List Event
appends = CommandEvent (Append one 1 None (codes "ab")) (Ok (Numbered 2)) ∷ CommandEvent (Append x 1 None (codes "abcd")) (Ok (Numbered 4)) ∷ []

abbrev commands : List Event
commands = CommandEvent (Start one) (Ok (Numbered 1)) ∷ CommandEvent (Start one) (Ok (Numbered 2)) ∷ CommandEvent (Start x) (Ok (Numbered 1)) ∷ appends

abbrev other_lent : CheckedOutSessions
other_lent = insert empty (1, 1) (record { hand = other_hand; repo = x; range = None })

abbrev both_lent : CheckedOutSessions
both_lent = insert other_lent (0, 1) (record { hand = hand; repo = one; range = None })

are_back : AreWholeCommands both_lent backs appends
are_back = (
  CommandEvent (Append one 1 None (codes "ab")) (Ok (Numbered 2)) ∷ [],
  CommandEvent (Append x 1 None (codes "abcd")) (Ok (Numbered 4)) ∷ [],
  remove both_lent (0, 1),
  (record { hand = hand; repo = one; range = None }, simp (get-insert {X = CheckedOut} number_cmp_total) refl, inl (codes "ab", (refl, refl), refl), refl),
  refl,
  (
    CommandEvent (Append x 1 None (codes "abcd")) (Ok (Numbered 4)) ∷ [],
    [],
    remove (remove both_lent (0, 1)) (1, 1),
    (record { hand = other_hand; repo = x; range = None }, simp (get-remove {X = CheckedOut} number_cmp_total, get-insert {X = CheckedOut} number_cmp_total) refl, inl (codes "abcd", (refl, refl), refl), refl),
    refl,
    (none_out, refl),
  ),
)
  where
    none_out : remove (remove both_lent (0, 1)) (1, 1) ≡ empty
    none_out =
        ap (λ (m : CheckedOutSessions). remove m (1, 1)) (remove-insert_new number_cmp_total exact_number other_lent (0, 1) _ (simp (get-insert {X = CheckedOut} number_cmp_total, get-empty) refl))
        ∙ remove-insert_new number_cmp_total exact_number empty (1, 1) _ (get-empty session_number_cmp (1, 1))

whole : AreWholeCommands empty calm_steps commands
whole = (_, _, empty, (refl, refl), refl, (_, _, empty, (refl, refl), refl, (_, _, empty, (refl, refl), refl, ([], appends, other_lent, (refl, refl), refl, ([], appends, both_lent, (refl, refl), refl, are_back)))))

sound : Sound book
sound = Sound-opening tenants 64 (in_memory 10) (omega arith) (omega arith) (two_names_apart first_tenant second_tenant refl) (omega arith) (omega arith, (omega arith, tt)) (usual_supported, (usual_supported, tt)) (omega arith) (omega arith)

is_run : IsRun book commands both_back
is_run = histories_are_runs tenants 64 (in_memory 10) calm_steps (state both_back 5 6) commands sound (opened backs (state both_back 5 6) back) (tt, (tt, (tt, (tt, (tt, (tt, (tt, tt))))))) whole
    (omega arith, (omega arith, (omega arith, (omega arith, (omega arith, tt)))))
