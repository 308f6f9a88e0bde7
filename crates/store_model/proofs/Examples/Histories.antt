-- A history on small literals: a session is opened, three bytes are appended to it and it is closed, in two steps each, and a sweep finds nothing.
use Rattle.std.proofs.Common.{◌≡◌, ℕ, List, [], ◌∷◌, Some, None, Ok, false, refl, sym, ap, ◌∙◌, subst}
use Rattle.std.specs.Prelude.{codes}
use Rattle.std.specs.FinMap.{get, insert, get-empty, get-insert, entries-insert, len-entries}
use Rattle.std.specs.Cmp.Lexicographic.{nat_list_cmp_total}
use Rattle.blob_digest.proofs.KeyOrders.{number_cmp_total, link_cmp_total}
use Rattle.spec_lib.proofs.Rows.{entries-empty}
use Rattle.spec_lib.specs.Texts.{Text}
use Rattle.store_model.specs.Catalog.{Catalog, Chunks, CheckedIn, CheckedOutWith, Resident, Session, HandRecord, opening, in_memory}
use Rattle.store_model.specs.Commands.{finish, with_new_session, put_back, start, with_stored_blob, take, was_leased}
use Rattle.store_model.specs.Histories.{Step, CommandCall, SweepCall, TakeCall, PutBackCall, FinishCall, State, AreSteps, LeadsTo}
use Rattle.store_model.specs.Runs.{Start, Number}
use Rattle.store_model.specs.Sweep.{is_orphan, IsAfterSweep, IsSweep}
use Rattle.store_model.specs.declared.swept.Swept.{Swept}
use Rattle.store_model.proofs.Examples.Digests.{abc, abc_bytes, abc_named}
use Rattle.store_model.proofs.Examples.Sweeps.{is_only}
use Rattle.blob_digest.specs.Tenants.{usual_limits}

abbrev pub repo : Text
repo = codes "acme/one"

abbrev pub empty_store : Catalog
empty_store = opening (record { name = codes "acme"; quota = 9; share = 4294967295; limits = usual_limits } ∷ []) 1 (in_memory 10)

abbrev opened : Catalog
opened = with_new_session empty_store 0 repo

-- the one session has these chunks now
abbrev with : Catalog → Chunks → Catalog
with C chunks = record C { sessions = insert C.sessions (0, 1) (record { repo = repo; chunks = chunks }) }

abbrev taken : Catalog
taken = with opened (CheckedOutWith 0 3)

abbrev appended : Catalog
appended = with taken (CheckedIn (abc_bytes ∷ []))

abbrev pub taken_again : Catalog
taken_again = with appended (CheckedOutWith 3 0)

abbrev pub closed : Catalog
closed = with_stored_blob taken_again 0 repo 1 abc abc_bytes

abbrev pub first_hand : HandRecord
first_hand = record { repo = repo; key = (0, 1); chunks = []; reserved = 3; last = None }

abbrev pub second_hand : HandRecord
second_hand = record { repo = repo; key = (0, 1); chunks = abc_bytes ∷ []; reserved = 0; last = None }

started : start empty_store repo ≡ Ok (1, opened)
started = simp (get-empty, entries-empty) refl

took_for_a_chunk : take opened repo 1 None 3 ≡ Ok (first_hand, taken)
took_for_a_chunk = simp (get-insert {X = Session} number_cmp_total, get-empty, entries-insert {X = Session} number_cmp_total, entries-empty) refl

put_back_filled : put_back taken (record first_hand { last = Some abc_bytes }) ≡ Ok (3, appended)
put_back_filled = simp (get-insert {X = Session} number_cmp_total) refl

took_to_close : take appended repo 1 None 0 ≡ Ok (second_hand, taken_again)
took_to_close = simp (get-insert {X = Session} number_cmp_total, get-empty, entries-insert {X = Session} number_cmp_total, entries-empty) refl

finished : finish taken_again (record second_hand { last = Some [] }) abc ≡ Ok (3, closed)
finished = simp (entries-insert {X = Unit {0}} nat_list_cmp_total, len-entries, get-insert {X = Session} number_cmp_total, get-empty, entries-empty) (rw abc_named refl)

-- the blob is linked, and stays
abbrev blob : Resident
blob = record { bytes = abc_bytes; condemned = false; lent = was_leased (get taken_again.residents abc) }

is_linked : is_orphan closed abc ≡ false
is_linked = simp (entries-insert {X = Unit {0}} nat_list_cmp_total, get-insert {X = Unit {0}} link_cmp_total, get-empty, entries-empty) refl

abbrev none_swept : Swept
none_swept = record { condemned = 0; freed = 0; held = 0; retired = 0 }

swept : IsSweep closed none_swept closed
swept = record {
  orphans = λ d b found. subst (λ o. IsAfterSweep o b (get closed.residents d)) (sym (ap (is_orphan closed) (is_only blob d b found).0 ∙ is_linked)) found;
  no_others = λ d none. none;
  rest = refl;
  condemned = simp (entries-insert {X = Resident} nat_list_cmp_total, entries-insert {X = Unit {0}} nat_list_cmp_total, get-insert {X = Unit {0}} link_cmp_total, get-empty, entries-empty) refl;
  gone = simp (entries-insert {X = Resident} nat_list_cmp_total, get-insert {X = Resident} nat_list_cmp_total, entries-empty) refl;
  held = simp (entries-insert {X = Resident} nat_list_cmp_total, entries-empty) refl;
}

-- the steps of the history
abbrev pub steps : List Step
steps = CommandCall (Start repo) (Ok (Number 1)) ∷ TakeCall repo 1 None 3 (Ok first_hand) ∷ PutBackCall (record first_hand { last = Some abc_bytes }) (Ok 3) ∷ TakeCall repo 1 None 0 (Ok second_hand)
    ∷ FinishCall (record second_hand { last = Some [] }) abc (Ok 3) ∷ SweepCall none_swept ∷ []

abbrev pub state : Catalog → ℕ → ℕ → ℕ → State
state C commands received closed = record { catalog = C; totals = record { commands = commands; received = received; closed = closed; abandoned = 0 } }

-- It leads to one blob of three bytes, with three commands counted.
pub legal : LeadsTo empty_store steps (state closed 3 3 3)
legal = (state opened 1 0 0, record { leaves = rw started refl; counts = refl }, by_chunk)
  where
    by_sweep : AreSteps (state closed 3 3 3) (SweepCall none_swept ∷ []) (state closed 3 3 3)
    by_sweep = (state closed 3 3 3, record { leaves = swept; counts = refl }, refl)

    by_close : AreSteps (state appended 2 3 0) (TakeCall repo 1 None 0 (Ok second_hand) ∷ FinishCall (record second_hand { last = Some [] }) abc (Ok 3) ∷ SweepCall none_swept ∷ []) (state closed 3 3 3)
    by_close = (state taken_again 2 3 0, record { leaves = took_to_close; counts = refl }, (state closed 3 3 3, record { leaves = finished; counts = refl }, by_sweep))

    by_chunk : AreSteps (state opened 1 0 0) (TakeCall repo 1 None 3 (Ok first_hand) ∷ PutBackCall (record first_hand { last = Some abc_bytes }) (Ok 3) ∷ TakeCall repo 1 None 0 (Ok second_hand) ∷ FinishCall (record second_hand { last = Some [] }) abc (Ok 3) ∷ SweepCall none_swept ∷ []) (state closed 3 3 3)
    by_chunk = (state taken 1 0 0, record { leaves = took_for_a_chunk; counts = refl }, (state appended 2 3 0, record { leaves = put_back_filled; counts = refl }, by_close))
