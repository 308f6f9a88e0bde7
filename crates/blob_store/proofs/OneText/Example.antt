-- Two lanes of two tenants, played by two workers, the second lane first: any other number of workers writes the same.
use Rattle.std.proofs.Common.{◌≡◌, ◌<◌, ◌≤◌, ℕ, true, List, [], ◌∷◌, Some, Ok, refl, sym, ◌∙◌, arith, inl, subst}
use Prim.Native.Nat.{zero, suc}
use Rattle.std.specs.Prelude.{codes}
use Rattle.std.specs.FinMap.{get-empty, get-insert, entries-insert}
use Rattle.std.specs.List.{Contains}
use Rattle.std.specs.Cmp.Lexicographic.{nat_list_cmp_total}
use Rattle.std.proofs.lemmas.Bool.{eqb-true, ne_eqb}
use Rattle.blob_digest.proofs.KeyOrders.{number_cmp_total}
use Rattle.spec_lib.proofs.Rows.{entries-empty}
use Rattle.spec_lib.specs.Texts.{Text}
use Rattle.ghost_log.specs.Entries.{entry, events_by}
use Rattle.ghost_log.specs.declared.view.Entry.{Entry}
use Rattle.store_model.specs.Amounts.{Amounts}
use Rattle.store_model.specs.Catalog.{Catalog, Session, Tenant, in_memory, is_repo_of_tenant, opening}
use Rattle.store_model.specs.Commands.{with_new_session, start}
use Rattle.store_model.specs.Histories.{LeadsTo, CommandCall, State, Step}
use Rattle.store_model.specs.Runs.{Number as Numbered}
use Rattle.store_api.specs.Answers.{Answer, Session as Opened}
use Rattle.store_api.specs.Commands.{Calls, Start}
use Rattle.script_player.specs.RowCommands.{command_of}
use Rattle.script_player.specs.Leases.{no_leases}
use Rattle.script_player.specs.Plays.{Plays}
use Rattle.script_player.specs.Rows.{RowView}
use Rattle.script_player.specs.Shares.{own_answers}
use Rattle.store_api.specs.declared.verb.Verb.TheVariants as verb
use Rattle.locked_book.specs.History.{steps_of}
use Rattle.blob_store.specs.OneText.{NeitherLeaseNorSweep, PlayedWithinLimits, ShareNoTenant, WriteTheSame}
use Rattle.blob_store.specs.StoreBackends.{Work, WorkActs}
use Rattle.blob_store.specs.Workers.{IsInterleaved, IsPlayed, zero_work}
use Rattle.blob_store.proofs.OneText.Texts.{one_text}
use Rattle.blob_digest.specs.Tenants.{usual_limits}

abbrev tenants : List Tenant
tenants = record { name = codes "acme"; quota = 3; share = 4294967295; limits = usual_limits } ∷ record { name = codes "other"; quota = 9; share = 4294967295; limits = usual_limits } ∷ []

abbrev row : ℕ → Text → RowView
row lane repo = record { lane = lane; verb = verb.Start; repo = repo; key = []; digest = []; range = []; body = [] }

abbrev rows : List RowView
rows = row 0 (codes "acme/one") ∷ row 1 (codes "other/x") ∷ []

abbrev answers : List Answer
answers = Opened 1 ∷ Opened 1 ∷ []

-- ---- the premises on the rows

commands : NeitherLeaseNorSweep rows
commands = (refl, (refl, tt))

-- a row of these is of the tenant whose number is its lane
lane_is : (t : ℕ) (r : RowView) → Contains rows r → is_repo_of_tenant tenants t r.repo ≡ true → r.lane ≡ t
lane_is t r (zero, lt, is) own = subst (λ (x : RowView). is_repo_of_tenant tenants t x.repo ≡ true → x.lane ≡ t) is (eqb-true 0 t) own
lane_is t r (suc zero, lt, is) own = subst (λ (x : RowView). is_repo_of_tenant tenants t x.repo ≡ true → x.lane ≡ t) is (eqb-true 1 t) own
lane_is t r (suc (suc k), lt, is) own = absurd (omega (arith, lt))

share : ShareNoTenant tenants rows
share t one two here there own own' = lane_is t one here own ∙ sym (lane_is t two there own')

-- ---- a history in which the second lane's step is the first

abbrev book : Catalog
book = opening tenants 64 (in_memory 10)

abbrev other_open : Catalog
other_open = with_new_session book 1 (codes "other/x")

abbrev both_open : Catalog
both_open = with_new_session other_open 0 (codes "acme/one")

abbrev start_step : Text → Step
start_step repo = CommandCall (Start repo) (Ok (Numbered 1))

abbrev order : List (Entry Step)
order = entry 1 (start_step (codes "other/x")) ∷ entry 0 (start_step (codes "acme/one")) ∷ []

other_starts : start book (codes "other/x") ≡ Ok (1, other_open)
other_starts = simp (get-empty, entries-empty) refl

starts : start other_open (codes "acme/one") ≡ Ok (1, both_open)
starts = simp (get-insert {X = Unit {0}} nat_list_cmp_total, entries-insert {X = Unit {0}} nat_list_cmp_total, entries-insert {X = Session} number_cmp_total, get-empty, entries-empty) refl

abbrev state : Catalog → ℕ → State
state C n = record { catalog = C; totals = record { commands = n; received = 0; closed = 0; abandoned = 0 } }

legal : LeadsTo book (steps_of order) (state both_open 2)
legal = (state other_open 1, record { leaves = rw other_starts refl; counts = refl }, (state both_open 2, record { leaves = rw starts refl; counts = refl }, refl))

-- ---- the workers

abbrev one_start : Amounts
one_start = record { commands = 1; received = 0; closed = 0; abandoned = 0 }

abbrev work : Text → Work
work repo = record { amounts = one_start; steps = start_step repo ∷ [] }

start_played : (lane : ℕ) (repo : Text) → command_of (row lane repo) ≡ Ok (Some (Start repo)) → Plays WorkActs (zero_work, no_leases) (row lane repo ∷ []) (Opened 1 ∷ []) (work repo, no_leases)
start_played lane repo spells = ((work repo, no_leases), inl (rw spells (refl, started_work), refl), (λ e. absurd cc), refl)
  where
    started_work : WorkActs zero_work (Calls (Start repo)) (Opened 1) (work repo)
    started_work = record {
      amounts = record { commands = refl; received = refl; closed = refl; abandoned = λ _. refl };
      steps = (start_step repo ∷ [], (Ok (Numbered 1), refl, refl), refl);
    }

lanes : (w : ℕ) → w < 2 → (done : Work) × (done.steps ≡ events_by w order) × IsPlayed 2 w rows done (own_answers 2 w rows answers)
lanes zero lt = (work (codes "acme/one"), refl, (no_leases, start_played 0 (codes "acme/one") refl))
lanes (suc zero) lt = (work (codes "other/x"), refl, (no_leases, start_played 1 (codes "other/x") refl))
lanes (suc (suc w)) lt = absurd (omega (arith, lt))

others : (n : ℕ) → 2 ≤ n → events_by n order ≡ []
others n le = rw (ne_eqb 1 n (λ e. omega (arith, le, e)), ne_eqb 0 n (λ e. omega (arith, le, e))) refl

run : IsInterleaved book 2 rows answers both_open
run = record { order = order; state = state both_open 2; legal = legal; left = refl; lanes = lanes; others = others }

played : PlayedWithinLimits tenants 64 (in_memory 10) 2 rows answers both_open
unfolding run
played = record {
  some = omega arith;
  one_each = refl;
  run = run;
  free = record { fair = record { run = legal; no_collision = λ d a b first second. absurd (let lt = first.1 in omega arith) }; own = (tt, (tt, tt)) };
}

pub same_for_all : (m : ℕ) (answers' : List Answer) (last' : Catalog) → PlayedWithinLimits tenants 64 (in_memory 10) m rows answers' last' → WriteTheSame answers answers' both_open last'
same_for_all m answers' last' other = one_text tenants 64 (in_memory 10) rows share commands 2 m answers answers' both_open last' played other
