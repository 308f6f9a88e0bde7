-- A store on disk restarts, and another tenant pushes a content again that the store has not read. The premises hold, those of `laws::restarts` do not.
use Rattle.std.proofs.Common.{◌≡◌, ◌∙◌, ℕ, true, false, List, [], ◌∷◌, ◌++◌, get_or, None, Ok, refl, sym, ap, subst, arith}
use Prim.Native.Nat.{zero, suc}
use Rattle.std.specs.Prelude.{codes}
use Rattle.std.specs.List.{Contains}
use Rattle.std.specs.FinMap.{empty, entries-insert, get, get-empty, get-insert, len-entries}
use Rattle.std.specs.Cmp.Lexicographic.{nat_list_cmp_total}
use Rattle.content_files.specs.Notes.{unread}
use Rattle.blob_digest.specs.Digests.{is_digest_of}
use Rattle.blob_digest.specs.Tenants.{usual_limits}
use Rattle.blob_digest.proofs.KeyOrders.{exact_number, link_cmp_total, number_cmp_total}
use Rattle.blob_digest.proofs.Tenants.{usual_supported}
use Rattle.spec_lib.specs.Texts.{Text, text_cmp}
use Rattle.spec_lib.proofs.Rows.{entries-empty}
use Rattle.spec_lib.proofs.Sums.{entries-remove}
use Rattle.store_model.specs.Catalog.{Catalog, ContentRules, Resident, Session, Tenant, opening}
use Rattle.store_model.specs.Commands.{was_leased, with_leased, with_new_session, with_stored_blob}
use Rattle.store_model.specs.Histories.{CommandCall, LeadsTo, State, Step, initial_state}
use Rattle.store_model.specs.HistoryIsolation.{isolated_steps, requests_of, steps_of, uploads_of_history}
use Rattle.store_model.specs.Invariant.{Sound}
use Rattle.store_model.specs.Noninterference.{NoCollision, isolated_outcome}
use Rattle.store_model.specs.Restarts.{stored_contents}
use Rattle.store_model.specs.Runs.{Bytes, Close, CommandEvent, Event, Lease, Number, Start, outcome}
use Rattle.store_model.proofs.Commands.Opening.{Sound-opening, two_names_apart}
use Rattle.store_model.proofs.Commands.Runs.{Sound-run}
use Rattle.store_model.proofs.Examples.Digests.{abc, abc_bytes, abc_named}
use Rattle.store_model.proofs.Examples.Sweeps.{is_only}
use Rattle.unread_contents.specs.Unread.{AgreeWhereRead, AreReadBlobs, HaveTheirDigests, IsFairAsRead, IsFairOnDisk, NoCollisionOnDisk, IsIsolatedUpTo, IsReadAs, IsReadCatalog}
use Rattle.unread_contents.proofs.Blobs.{AreRead, read_insert}
use Rattle.unread_contents.proofs.Theorems.{tenants_are_isolated_on_disk}

abbrev first_tenant : Tenant
first_tenant = record { name = codes "acme"; quota = 9; share = 4294967295; limits = usual_limits }

abbrev second_tenant : Tenant
second_tenant = record { name = codes "other"; quota = 9; share = 4294967295; limits = usual_limits }

abbrev tenants : List Tenant
tenants = first_tenant ∷ second_tenant ∷ []

abbrev one : Text
one = codes "acme/one"

abbrev x : Text
x = codes "other/x"

-- three bytes that were not read
abbrev unread_bytes : Text
unread_bytes = unread 3 44

abbrev rules : ContentRules
rules = record { max_blob = 10; on_disk = true }

-- ---- the store at its start

abbrev new_store : Catalog
new_store = opening tenants 64 rules

abbrev opened : Catalog
opened = with_new_session new_store 0 one

-- the first tenant has a content
abbrev storing : Text → Catalog
storing content = with_stored_blob opened 0 one 1 abc content

-- as the store knows it that has not read it, and as it lies on disk
abbrev known : Catalog
known = storing unread_bytes

abbrev full : Catalog
full = storing abc_bytes

opens : outcome false new_store (Start one) ≡ Ok (Number 1, opened)
opens = simp (get-empty, entries-empty) refl

stores : outcome false opened (Close one 1 abc None unread_bytes) ≡ Ok (Number 3, known)
stores = simp (len-entries, entries-insert {X = Session} number_cmp_total, get-insert {X = Session} number_cmp_total, entries-insert {X = Unit {0}} nat_list_cmp_total, get-empty, entries-empty) refl

abbrev events : List Event
events = CommandEvent (Start one) (Ok (Number 1)) ∷ CommandEvent (Close one 1 abc None unread_bytes) (Ok (Number 3)) ∷ []

known_sound : Sound known
known_sound = Sound-run new_store known events (omega arith, (omega arith, tt)) (opened, opens, (known, stores, refl))
    (Sound-opening tenants 64 rules (omega arith) (omega arith) (two_names_apart first_tenant second_tenant refl) (omega arith) (omega arith, (omega arith, tt)) (usual_supported, (usual_supported, tt)) (omega arith) (omega arith))

none_yet : AreRead empty empty
none_yet d = subst (λ o. AreReadBlobs o o) (sym (get-empty text_cmp d)) tt

bytes_read : IsReadAs unread_bytes abc_bytes
bytes_read = (λ low. absurd (omega arith), (λ low. absurd (omega arith), (λ low. absurd (omega arith), tt)))

full_read : IsReadCatalog known full
full_read = record { residents = read_insert empty empty none_yet abc _ _ (record { content = bytes_read; rest = refl }); rest = refl }

full_digests : HaveTheirDigests full
full_digests d b found =
    let only = is_only (record { bytes = abc_bytes; condemned = false; lent = was_leased (get opened.residents abc) }) d b found in
    ap (λ q. is_digest_of q b.bytes) only.0 ∙ ap (λ (y : Resident). is_digest_of abc y.bytes) (sym only.1) ∙ abc_named

-- ---- the second tenant pushes the content again, and the first one leases it

abbrev second_opened : Catalog
second_opened = with_new_session known 1 x

abbrev second_stored : Catalog
second_stored = with_stored_blob second_opened 1 x 1 abc abc_bytes

abbrev first_leased : Catalog
first_leased = with_leased second_stored abc (record { bytes = abc_bytes; condemned = false; lent = false })

abbrev steps : List Step
steps = CommandCall (Start x) (Ok (Number 1)) ∷ CommandCall (Close x 1 abc None abc_bytes) (Ok (Number 3)) ∷ CommandCall (Lease one abc) (Ok (Bytes abc_bytes)) ∷ []

abbrev state : Catalog → ℕ → ℕ → State
state C commands received = record { catalog = C; totals = record { commands = commands; received = received; closed = received; abandoned = 0 } }

second_opens : outcome false known (Start x) ≡ Ok (Number 1, second_opened)
second_opens = simp (entries-remove {X = Session} number_cmp_total exact_number, entries-insert {X = Session} number_cmp_total, entries-insert {X = Unit {0}} nat_list_cmp_total, get-insert {X = Unit {0}} nat_list_cmp_total, get-empty, entries-empty) refl

second_stores : outcome false second_opened (Close x 1 abc None abc_bytes) ≡ Ok (Number 3, second_stored)
second_stores = simp (len-entries, entries-insert {X = Unit {0}} link_cmp_total, entries-remove {X = Session} number_cmp_total exact_number, entries-insert {X = Session} number_cmp_total, get-insert {X = Session} number_cmp_total, entries-insert {X = Unit {0}} nat_list_cmp_total, get-insert {X = Unit {0}} link_cmp_total, entries-insert {X = Resident} nat_list_cmp_total, get-insert {X = Resident} nat_list_cmp_total, get-empty, entries-empty) (rw abc_named refl)

first_leases : outcome false second_stored (Lease one abc) ≡ Ok (Bytes abc_bytes, first_leased)
first_leases = simp (get-insert {X = Unit {0}} link_cmp_total, get-insert {X = Resident} nat_list_cmp_total, get-empty) refl

abbrev run : LeadsTo known steps (state first_leased 3 3)
run = (state second_opened 1 0, record { leaves = second_opens; counts = refl }, (state second_stored 2 3, record { leaves = second_stores; counts = refl }, (state first_leased 3 3, record { leaves = first_leases; counts = refl }, refl)))

uploaded : uploads_of_history (initial_state known) steps (state first_leased 3 3) run ≡ (abc, abc_bytes) ∷ []
uploaded = simp (get-insert {X = Session} number_cmp_total) (rw abc_named refl)

stored_with : (content : Text) → stored_contents (storing content) ≡ (abc, content) ∷ []
stored_with content = simp (entries-insert {X = Resident} nat_list_cmp_total, entries-empty) refl

-- ---- the premises

-- of `laws::restarts`, `alone`: the content that was not read and the same that is pushed again differ
collides : ¬ (NoCollision (stored_contents known ++ uploads_of_history (initial_state known) steps (state first_leased 3 3) run))
collides none =
    let same : unread_bytes ≡ abc_bytes = both abc unread_bytes abc_bytes (0, omega arith, refl) (1, omega arith, refl) in
    let first : ◌≡◌ {A = ℕ} 300 97 = ap (λ (bytes : Text). get_or bytes 0 0) same in
    absurd (omega arith)
  where
    both : NoCollision ((abc, unread_bytes) ∷ (abc, abc_bytes) ∷ [])
    both = subst NoCollision (λ i. stored_with unread_bytes i ++ uploaded i) none

abbrev one_pair : List (Text × Text)
one_pair = (abc, abc_bytes) ∷ []

abbrev two_pairs : List (Text × Text)
two_pairs = (abc, abc_bytes) ∷ (abc, abc_bytes) ∷ []

the_content : (d content : Text) → Contains two_pairs (d, content) → abc_bytes ≡ content
the_content d content (zero, lt, is) = ap (λ (p : Text × Text). p.1) is
the_content d content (suc zero, lt, is) = ap (λ (p : Text × Text). p.1) is
the_content d content (suc (suc n), lt, is) = absurd (omega arith)

the_upload : (d content : Text) → Contains one_pair (d, content) → abc_bytes ≡ content
the_upload d content (zero, lt, is) = ap (λ (p : Text × Text). p.1) is
the_upload d content (suc n, lt, is) = absurd (omega arith)

-- the one upload is the stored content, as far as that was read
one_upload : NoCollisionOnDisk known one_pair
one_upload = record {
  no_collision = λ d a b first second. sym (the_upload d a first) ∙ the_upload d b second;
  stored = λ d content b found there.
      subst (IsReadAs b.bytes) (the_upload d content there)
      (subst (λ (y : Resident). IsReadAs y.bytes abc_bytes) (is_only (record { bytes = unread_bytes; condemned = false; lent = was_leased (get opened.residents abc) }) d b found).1 bytes_read);
}

pub fair : IsFairOnDisk known 0 steps (state first_leased 3 3)
fair = record {
  on_disk = refl;
  sound = known_sound;
  run = run;
  uploads = subst (NoCollisionOnDisk known) (sym uploaded) one_upload;
  own_replies = (λ own. tt, (λ own. tt, (λ own. tt, tt)));
}

-- the content on disk and the one that is pushed again are the same
pub fair_as_read : IsFairAsRead known full 0 steps (state first_leased 3 3)
fair_as_read = record {
  on_disk = refl;
  sound = known_sound;
  read = full_read;
  digests = full_digests;
  run = run;
  no_collision = subst NoCollision (sym (λ i. stored_with abc_bytes i ++ uploaded i)) (λ d a b first second. sym (the_content d a first) ∙ the_content d b second);
  own_replies = (λ own. tt, (λ own. tt, (λ own. tt, tt)));
}

-- ---- the conclusion

pub first_alone : IsIsolatedUpTo AgreeWhereRead known known 0 steps (state first_leased 3 3)
first_alone = tenants_are_isolated_on_disk known tenants 0 steps (state first_leased 3 3) (record { names = refl; settings = refl }) fair

-- the tenant's isolated history returns the content that was not read
leases_alone : isolated_outcome known (Lease one abc) ≡ Ok (Bytes unread_bytes, with_leased known abc (record { bytes = unread_bytes; condemned = false; lent = false }))
leases_alone = simp (get-insert {X = Unit {0}} link_cmp_total, get-insert {X = Resident} nat_list_cmp_total, get-empty) refl

alone_unread : isolated_steps known (requests_of (steps_of tenants 0 steps)) ≡ CommandCall (Lease one abc) (Ok (Bytes unread_bytes)) ∷ []
alone_unread = rw leases_alone refl
