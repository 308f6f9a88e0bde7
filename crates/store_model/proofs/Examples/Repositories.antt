-- Removals of a repository: each use forbids one, and the name is then free for another.
use Rattle.std.proofs.Common.{◌≡◌, ℕ, false, List, [], ◌∷◌, Some, Ok, Err, refl}
use Rattle.std.specs.Prelude.{codes}
use Rattle.std.specs.FinMap.{empty, insert, entries-insert, get-empty, get-insert}
use Rattle.std.specs.Cmp.Lexicographic.{nat_list_cmp_total}
use Rattle.blob_digest.specs.declared.refusal.Refusal.TheVariants.{LimitReached, NameUnknown, RepoInUse}
use Rattle.blob_digest.proofs.KeyOrders.{link_cmp_total, number_cmp_total}
use Rattle.spec_lib.specs.Sets as set
use Rattle.spec_lib.specs.Texts.{Text}
use Rattle.spec_lib.proofs.Rows.{entries-empty}
use Rattle.store_model.specs.Catalog.{Catalog, CheckedIn, CheckedOutWith, Session, Tenant, next_number_of, opening, repos_of, tenant_of, limits_of, in_memory}
use Rattle.store_model.specs.Commands.{cannot_open, remove_repo, start, with_new_session, without_repo}
use Rattle.store_model.specs.Durable.{RepoRemoved, SessionDropped, SessionOpened, changes_of}
use Rattle.store_model.specs.Histories.{CommandCall}
use Rattle.store_model.specs.Runs.{Abandon, Done, Number, RemoveRepo, Start}
use Rattle.store_model.proofs.Examples.Digests.{abc, obj}
use Rattle.blob_digest.specs.Tenants.{usual_limits}

abbrev one : Text
one = codes "acme/one"

abbrev two : Text
two = codes "acme/two"

abbrev tenants : List Tenant
tenants = record { name = codes "acme"; quota = 1000; share = 4294967295; limits = usual_limits } ∷ []

-- a store with two repositories
abbrev unused : Catalog
unused = record (opening tenants 64 (in_memory 10)) { repos = set.insert (set.insert set.empty_set one) two }

removed : remove_repo unused one ≡ Ok (tt, without_repo unused one)
removed = simp (get-insert {X = Unit {0}} nat_list_cmp_total, entries-empty) refl

-- the other repository's link, manifest and session do not matter
abbrev others_used : Catalog
others_used = record unused {
  links = set.insert set.empty_set (two, abc);
  manifests = insert empty (two, obj) [];
  sessions = insert empty (0, 1) (record { repo = two; chunks = CheckedIn [] });
}

removed_beside_another : remove_repo others_used one ≡ Ok (tt, without_repo others_used one)
removed_beside_another = simp (get-insert {X = Unit {0}} nat_list_cmp_total, entries-insert {X = Unit {0}} link_cmp_total, entries-insert {X = Text} link_cmp_total, entries-insert {X = Session} number_cmp_total, entries-empty) refl

linked_stays : remove_repo (record unused { links = set.insert set.empty_set (one, abc) }) one ≡ Err RepoInUse
linked_stays = simp (get-insert {X = Unit {0}} nat_list_cmp_total, entries-insert {X = Unit {0}} link_cmp_total, entries-empty) refl

described_stays : remove_repo (record unused { manifests = insert empty (one, obj) [] }) one ≡ Err RepoInUse
described_stays = simp (get-insert {X = Unit {0}} nat_list_cmp_total, entries-insert {X = Text} link_cmp_total, entries-empty) refl

open_stays : remove_repo (record unused { sessions = insert empty (0, 1) (record { repo = one; chunks = CheckedIn [] }) }) one ≡ Err RepoInUse
open_stays = simp (get-insert {X = Unit {0}} nat_list_cmp_total, entries-insert {X = Session} number_cmp_total, entries-empty) refl

-- a checked-out session is open too
checked_out_stays : remove_repo (record unused { sessions = insert empty (0, 1) (record { repo = one; chunks = CheckedOutWith 2 1 }) }) one ≡ Err RepoInUse
checked_out_stays = simp (get-insert {X = Unit {0}} nat_list_cmp_total, entries-insert {X = Session} number_cmp_total, entries-empty) refl

no_repository : remove_repo unused (codes "acme/three") ≡ Err NameUnknown
no_repository = simp (get-insert {X = Unit {0}} nat_list_cmp_total, get-empty) refl

no_tenant : remove_repo unused (codes "other/one") ≡ Err NameUnknown
no_tenant = refl

-- a tenant with as many repositories as its limit may use another name after a removal
module _ (C : Catalog) (t : ℕ) (old new : Text) (known : tenant_of C.tenants new ≡ Some t) (usual : limits_of C t ≡ usual_limits) where
  refused_at_the_limit : set.contains C.repos new ≡ false → repos_of C t ≡ 1024 → start C new ≡ Err LimitReached
  refused_at_the_limit absent full = rw (known, absent, usual, full) refl

  accepted_after_a_removal : set.contains (without_repo C old).repos new ≡ false → repos_of (without_repo C old) t ≡ 1023 → cannot_open C t ≡ false → start (without_repo C old) new ≡ Ok (next_number_of C t, with_new_session (without_repo C old) t new)
  accepted_after_a_removal absent room opens = rw (known, absent, opens, usual, room) refl

-- the changes of a repository that comes and goes
comes_and_goes : changes_of tenants (CommandCall (Start one) (Ok (Number 1)) ∷ CommandCall (Abandon one 1) (Ok (Number 0)) ∷ CommandCall (RemoveRepo one) (Ok Done) ∷ CommandCall (RemoveRepo one) (Err NameUnknown) ∷ []) ≡
    SessionOpened one (0, 1) ∷ SessionDropped (0, 1) ∷ RepoRemoved one ∷ []
comes_and_goes = refl
