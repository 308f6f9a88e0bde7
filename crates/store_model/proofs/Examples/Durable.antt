-- The changes of the history of `Histories`, and the durable state if the last record is lost.
use Rattle.std.proofs.Common.{◌≡◌, List, [], ◌∷◌, None, Some, Ok, true, refl}
use Rattle.std.specs.Prelude.{codes}
use Rattle.std.specs.FinMap.{empty, get, get-insert, insert}
use Rattle.std.specs.Cmp.Lexicographic.{nat_list_cmp_total}
use Rattle.blob_digest.proofs.KeyOrders.{number_cmp_total, link_cmp_total}
use Rattle.spec_lib.specs.Sets as set
use Rattle.spec_lib.specs.Texts.{Text}
use Rattle.store_model.specs.Catalog.{Catalog, CheckedIn, HandRecord, Session, Tenant, in_memory}
use Rattle.store_model.specs.Commands.{put_back}
use Rattle.store_model.specs.Durable.{Agrees, AreReturnedAsTaken, ChunkReceived, DurableState, SessionOpened, SessionSealed, after_changes, changes_of, initial_durable, taken_after_steps}
use Rattle.store_model.specs.Histories.{TakeCall}
use Rattle.store_model.specs.Lanes.{IsPaired, held_hand}
use Rattle.store_model.proofs.Examples.Digests.{abc, abc_bytes}
use Rattle.store_model.proofs.Examples.Histories.{closed, first_hand, legal, repo, second_hand, steps, taken_again}
use Rattle.store_model.proofs.Durable.Histories.{logs_agree}
use Rattle.blob_digest.specs.Tenants.{usual_limits}

abbrev tenants : List Tenant
tenants = record { name = codes "acme"; quota = 9; share = 4294967295; limits = usual_limits } ∷ []

-- three of the six steps change the durable state
records : changes_of tenants steps ≡ SessionOpened repo (0, 1) ∷ ChunkReceived (0, 1) abc_bytes ∷ SessionSealed (0, 1) abc [] ∷ []
records = refl

returned : AreReturnedAsTaken empty steps
returned = (tt, (tt, (simp (get-insert {X = Text × List Text} number_cmp_total) refl, (tt, (simp (get-insert {X = Text × List Text} number_cmp_total) refl, (tt, tt))))))

-- the theorem about a log, for this history
agrees : Agrees (taken_after_steps empty steps) (after_changes (initial_durable tenants) (SessionOpened repo (0, 1) ∷ ChunkReceived (0, 1) abc_bytes ∷ SessionSealed (0, 1) abc [] ∷ [])) closed
agrees = logs_agree tenants 1 (in_memory 10) steps (record { catalog = closed; totals = record { commands = 3; received = 3; closed = 3; abandoned = 0 } }) legal returned

-- if the last record is lost, the session has its bytes
abbrev torn : DurableState
torn = after_changes (initial_durable tenants) (SessionOpened repo (0, 1) ∷ ChunkReceived (0, 1) abc_bytes ∷ [])

still_open : get torn.sessions (0, 1) ≡ Some (record { repo = repo; chunks = CheckedIn (abc_bytes ∷ []) })
still_open = simp (get-insert {X = Session} number_cmp_total) refl

-- the whole log has the blob and its link
abbrev whole : DurableState
whole = after_changes torn (SessionSealed (0, 1) abc [] ∷ [])

blob_there : get whole.contents abc ≡ Some abc_bytes
blob_there = simp (get-insert {X = Session} number_cmp_total, get-insert {X = Text} nat_list_cmp_total) refl

link_there : set.contains whole.links (repo, abc) ≡ true
link_there = simp (get-insert {X = Session} number_cmp_total, get-insert {X = Unit {0}} link_cmp_total) refl

-- A check-in of a hand with other bytes of the same length is legal, but its chunks differ from the durable ones.
-- So the theorems ask that each hand is returned as it was taken.
abbrev forged : HandRecord
forged = record second_hand { chunks = codes "xyz" ∷ [] }

abbrev with_forged_chunks : Catalog
with_forged_chunks = record taken_again { sessions = insert taken_again.sessions (0, 1) (record { repo = repo; chunks = CheckedIn (codes "xyz" ∷ []) }) }

forged_is_accepted : put_back taken_again forged ≡ Ok (3, with_forged_chunks)
forged_is_accepted = simp (get-insert {X = Session} number_cmp_total) refl

-- A check-in of a hand with another repository is legal too, but its record would name another tenant.
abbrev renamed : HandRecord
renamed = record second_hand { repo = codes "other/one" }

abbrev checked_in_again : Catalog
checked_in_again = record taken_again { sessions = insert taken_again.sessions (0, 1) (record { repo = repo; chunks = CheckedIn (abc_bytes ∷ []) }) }

renamed_is_accepted : put_back taken_again renamed ≡ Ok (3, checked_in_again)
renamed_is_accepted = simp (get-insert {X = Session} number_cmp_total) refl

-- ---- lanes

-- the history's steps are paired, as those of one lane
paired : IsPaired None steps
paired = (tt, (tt, ((first_hand, refl, refl, refl, refl), (tt, ((second_hand, refl, refl, refl, refl), (tt, tt))))))

-- a lane may take a hand while it holds another, and then holds only the later one
later_hand : held_hand (TakeCall repo 1 None 3 (Ok first_hand) ∷ TakeCall repo 2 None 0 (Ok second_hand) ∷ []) ≡ Some second_hand
later_hand = refl
