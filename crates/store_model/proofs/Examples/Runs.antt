-- Runs on small literals: two tenants, one of which gets `Quota`, and a sweep in between.
use Rattle.std.proofs.Common.{◌≡◌, List, [], ◌∷◌, None, Ok, Err, refl}
use Rattle.std.specs.Prelude.{codes}
use Rattle.std.specs.FinMap.{get-empty, get-insert, entries-insert}
use Rattle.blob_digest.specs.declared.refusal.Refusal.TheVariants.{Quota}
use Rattle.spec_lib.specs.Texts.{Text}
use Rattle.store_model.specs.Catalog.{Tenant, Session, Catalog, opening, in_memory}
use Rattle.store_model.specs.Runs.{Event, CommandEvent, SweepEvent, Start, Append, Mount, Number, Mounting}
use Rattle.store_model.specs.declared.mount.Mount.TheVariants as mounting
use Rattle.store_model.specs.Noninterference.{events_of, commands_of, replies, isolated_replies}
use Rattle.blob_digest.proofs.KeyOrders.{number_cmp_total}
use Rattle.spec_lib.proofs.Rows.{entries-empty}
use Rattle.blob_digest.specs.Tenants.{usual_limits}

abbrev two : List Tenant
two = record { name = codes "acme"; quota = 3; share = 4294967295; limits = usual_limits } ∷ record { name = codes "other"; quota = 9; share = 4294967295; limits = usual_limits } ∷ []

abbrev empty_book : Catalog
empty_book = opening two 64 (in_memory 10)

abbrev one : Text
one = codes "acme/one"

abbrev x : Text
x = codes "other/x"

abbrev called : List Event
called = CommandEvent (Start one) (Ok (Number 1)) ∷ CommandEvent (Start x) (Ok (Number 1)) ∷ CommandEvent (Append x 1 None (codes "abcd")) (Ok (Number 4)) ∷ CommandEvent (Append one 1 None (codes "ab")) (Ok (Number 2))
    ∷ SweepEvent (record { condemned = 0; freed = 0; held = 0; retired = 0 }) ∷ CommandEvent (Append one 1 None (codes "cd")) (Err (Quota 2 3)) ∷ CommandEvent (Mount x (codes "d") None) (Ok (Mounting (mounting.Session 2))) ∷ []

own_commands : commands_of (events_of two 0 called) ≡ Start one ∷ Append one 1 None (codes "ab") ∷ Append one 1 None (codes "cd") ∷ []
own_commands = refl

own_replies : replies (events_of two 0 called) ≡ isolated_replies empty_book (commands_of (events_of two 0 called))
own_replies = simp (get-insert {X = Session} number_cmp_total, get-empty, entries-insert {X = Session} number_cmp_total, entries-empty) refl
