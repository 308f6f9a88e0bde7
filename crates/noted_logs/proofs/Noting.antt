-- The notes of a state after a change.
use Rattle.std.proofs.Common.{◌≡◌, ◌∙◌, ℕ, List, [], ◌∷◌, ◌++◌, Bool, true, false, Option, Some, None, ap, refl, sym, subst}
use Rattle.std.specs.Prelude.{◌+◌, cond, if◌then◌else◌, map, slice_set}
use Rattle.std.specs.Option.{option_map, option_map_or}
use Rattle.std.specs.List.{concat}
use Rattle.std.specs.FinMap as fmap
use Rattle.std.specs.Ordering.{eq_by_cmp}
use Rattle.std.specs.Cmp.Lexicographic.{nat_list_cmp_total}
use Rattle.std.proofs.lemmas.List.{map-append, append-nil}
use Rattle.std.proofs.lemmas.List.Folds.{concat-append}
use Rattle.content_files.specs.Chunks.{noted}
use Rattle.spec_lib.specs.Sets as set
use Rattle.spec_lib.specs.Texts.{Text, text_cmp}
use Rattle.blob_digest.specs.Keys.{session_number_cmp}
use Rattle.blob_digest.proofs.KeyOrders.{number_cmp_total}
use Rattle.store_model.specs.Catalog.{CheckedIn, CheckedOutWith, Chunks, Session, SessionNumber, Tenant}
use Rattle.store_model.specs.Durable.{BlobLinked, BlobStored, BlobUnlinked, Change, ChunkReceived, DurableState, ManifestDeleted, ManifestPut, NumberSet, RepoAdded, RepoRemoved, SessionDropped, SessionOpened, SessionSealed, after_change, after_changes, after_seal, checked_in_session, initial_durable, with_new_manifest}
use Rattle.blob_digest.specs.Digests.{sha256_text}
use Rattle.store_model.specs.Sessions.{Sessions, after_append_in, at_home, chunks_in, content_in, with_chunk, with_chunks}
use Rattle.noted_logs.specs.Noted.{AreNotedContents, IsNoted, IsNotedContent, NotesDetermine, NotesStep, noted_change, noted_chunks, noted_session}

-- ---- sessions

abbrev Noting : Sessions → Sessions → Type 0
Noting m n = (key : SessionNumber) → fmap.get n key ≡ option_map noted_session (fmap.get m key)

put : (m n : Sessions) → Noting m n → (k : SessionNumber) (s t : Session) → t ≡ noted_session s → Noting (fmap.insert m k s) (fmap.insert n k t)
put m n all k s t is key =
    fmap.get-insert number_cmp_total n k t key ∙ by (eq_by_cmp session_number_cmp key k) ∙ ap (option_map noted_session) (sym (fmap.get-insert number_cmp_total m k s key))
  where
    by : (b : Bool) → cond b (Some t) (fmap.get n key) ≡ option_map noted_session (cond b (Some s) (fmap.get m key))
    by true = ap (λ x. Some x) is
    by false = all key

gone : (m n : Sessions) → Noting m n → (k : SessionNumber) → Noting (fmap.remove m k) (fmap.remove n k)
gone m n all k key =
    fmap.get-remove number_cmp_total n k key ∙ by (eq_by_cmp session_number_cmp key k) ∙ ap (option_map noted_session) (sym (fmap.get-remove number_cmp_total m k key))
  where
    by : (b : Bool) → cond b None (fmap.get n key) ≡ option_map noted_session (cond b None (fmap.get m key))
    by true = refl
    by false = all key

home_noted : (c : Chunks) → at_home (noted_chunks c) ≡ map noted (at_home c)
home_noted (CheckedIn chunks) = refl
home_noted (CheckedOutWith received reserved) = refl

chunk_noted : (chunks : List Text) (b : Text) → with_chunk (map noted chunks) (noted b) ≡ map noted (with_chunk chunks b)
chunk_noted chunks [] = refl
chunk_noted chunks (x ∷ bytes) = sym (map-append noted chunks ((x ∷ bytes) ∷ []))

grown : (m n : Sessions) → Noting m n → (k : SessionNumber) (bytes : Text) → Noting (after_append_in m k bytes) (after_append_in n k (noted bytes))
grown m n all k bytes = by (fmap.get m k) (all k)
  where
    by : (o : Option Session) → fmap.get n k ≡ option_map noted_session o →
        Noting (option_map_or (λ s. with_chunks m k s (CheckedIn (with_chunk (at_home s.chunks) bytes))) o m) (after_append_in n k (noted bytes))
    by None e = rw e all
    by (Some s) e = rw e (put m n all k _ _ (ap (λ cs. record s { chunks = CheckedIn cs }) (ap (λ cs. with_chunk cs (noted bytes)) (home_noted s.chunks) ∙ chunk_noted (at_home s.chunks) bytes)))

-- ---- contents

abbrev NotingContents : fmap.FinMap text_cmp Text → fmap.FinMap text_cmp Text → Type 0
NotingContents m n = (digest : Text) → AreNotedContents (fmap.get m digest) (fmap.get n digest)

stored : (m n : fmap.FinMap text_cmp Text) → NotingContents m n → (k c d : Text) → IsNotedContent c d → NotingContents (fmap.insert m k c) (fmap.insert n k d)
stored m n all k c d is digest =
    subst (λ o. AreNotedContents o (fmap.get (fmap.insert n k d) digest)) (sym (fmap.get-insert nat_list_cmp_total m k c digest))
    (subst (AreNotedContents (cond (eq_by_cmp text_cmp digest k) (Some c) (fmap.get m digest))) (sym (fmap.get-insert nat_list_cmp_total n k d digest)) (by (eq_by_cmp text_cmp digest k)))
  where
    by : (b : Bool) → AreNotedContents (cond b (Some c) (fmap.get m digest)) (cond b (Some d) (fmap.get n digest))
    by true = is
    by false = all digest

concat-snoc : (cs : List Text) (c : Text) → concat (cs ++ c ∷ []) ≡ concat cs ++ c
concat-snoc cs c = concat-append cs (c ∷ []) ∙ ap (λ l. concat cs ++ l) (append-nil c)

whole : (chunks : List Text) (last : Text) → IsNotedContent (concat chunks ++ last) (concat (map noted chunks) ++ noted last)
whole chunks last = (
  chunks ++ last ∷ [],
  concat-snoc chunks last,
  ap concat (map-append noted chunks (last ∷ [])) ∙ concat-snoc (map noted chunks) (noted last),
)

content_noted : (m n : Sessions) → Noting m n → (k : SessionNumber) (last : Text) → IsNotedContent (content_in m k last) (content_in n k (noted last))
content_noted m n all k last = by (fmap.get m k) (all k)
  where
    by : (o : Option Session) → fmap.get n k ≡ option_map noted_session o → IsNotedContent (concat (option_map_or (λ s. at_home s.chunks) o []) ++ last) (content_in n k (noted last))
    by None e = rw e (whole [] last)
    by (Some s) e = rw e (subst (λ cs. IsNotedContent (concat (at_home s.chunks) ++ last) (concat cs ++ noted last)) (sym (home_noted s.chunks)) (whole (at_home s.chunks) last))

-- ---- changes

sealed : (D N : DurableState) → IsNoted D N → (key : SessionNumber) (digest last : Text) (o : Option Session) → fmap.get N.sessions key ≡ option_map noted_session o →
    IsNoted (option_map_or (after_seal D key digest last) o D) (option_map_or (after_seal N key digest (noted last)) (fmap.get N.sessions key) N)
sealed D N at key digest last None e = rw e at
sealed D N at key digest last (Some s) e = rw e (record {
  tenants = at.tenants;
  repos = at.repos;
  links = ap (λ l. set.insert l (s.repo, digest)) at.links;
  manifests = at.manifests;
  next = at.next;
  sessions = gone D.sessions N.sessions at.sessions key;
  contents = stored D.contents N.contents at.contents digest _ _ (content_noted D.sessions N.sessions at.sessions key last);
})

manifest : (D N : DurableState) → IsNoted D N → (repo bytes : Text) (b : Bool) → fmap.contains_key N.manifests (repo, sha256_text bytes) ≡ b →
    IsNoted (if b then D else with_new_manifest D repo bytes) (after_change N (ManifestPut repo bytes))
manifest D N at repo bytes true e = rw e at
manifest D N at repo bytes false e = rw e (record { tenants = at.tenants; repos = ap (λ r. set.insert r repo) at.repos; links = at.links; manifests = ap (λ m. fmap.insert m (repo, sha256_text bytes) bytes) at.manifests; next = at.next; sessions = at.sessions; contents = at.contents })

pub notes_step : NotesStep
notes_step D N (SessionOpened repo key) at = record { tenants = at.tenants; repos = ap (λ r. set.insert r repo) at.repos; links = at.links; manifests = at.manifests; next = ap (λ l. slice_set l key.0 (key.1 + 1)) at.next; sessions = put D.sessions N.sessions at.sessions key (checked_in_session repo []) (checked_in_session repo []) refl; contents = at.contents }
notes_step D N (ChunkReceived key bytes) at = record { tenants = at.tenants; repos = at.repos; links = at.links; manifests = at.manifests; next = at.next; sessions = grown D.sessions N.sessions at.sessions key bytes; contents = at.contents }
notes_step D N (SessionSealed key digest last) at = sealed D N at key digest last (fmap.get D.sessions key) (at.sessions key)
notes_step D N (SessionDropped key) at = record { tenants = at.tenants; repos = at.repos; links = at.links; manifests = at.manifests; next = at.next; sessions = gone D.sessions N.sessions at.sessions key; contents = at.contents }
notes_step D N (BlobLinked repo digest) at = record { tenants = at.tenants; repos = ap (λ r. set.insert r repo) at.repos; links = ap (λ l. set.insert l (repo, digest)) at.links; manifests = at.manifests; next = at.next; sessions = at.sessions; contents = at.contents }
notes_step D N (BlobUnlinked repo digest) at = record { tenants = at.tenants; repos = at.repos; links = ap (λ l. set.remove l (repo, digest)) at.links; manifests = at.manifests; next = at.next; sessions = at.sessions; contents = at.contents }
notes_step D N (ManifestPut repo bytes) at = manifest D N at repo bytes (fmap.contains_key D.manifests (repo, sha256_text bytes)) (ap (λ m. fmap.contains_key m (repo, sha256_text bytes)) at.manifests)
notes_step D N (ManifestDeleted repo digest) at = record { tenants = at.tenants; repos = at.repos; links = at.links; manifests = ap (λ m. fmap.remove m (repo, digest)) at.manifests; next = at.next; sessions = at.sessions; contents = at.contents }
notes_step D N (RepoRemoved repo) at = record { tenants = at.tenants; repos = ap (λ r. set.remove r repo) at.repos; links = at.links; manifests = at.manifests; next = at.next; sessions = at.sessions; contents = at.contents }
notes_step D N (RepoAdded repo) at = record { tenants = at.tenants; repos = ap (λ r. set.insert r repo) at.repos; links = at.links; manifests = at.manifests; next = at.next; sessions = at.sessions; contents = at.contents }
notes_step D N (NumberSet t n) at = record { tenants = at.tenants; repos = at.repos; links = at.links; manifests = at.manifests; next = ap (λ l. slice_set l t n) at.next; sessions = at.sessions; contents = at.contents }
notes_step D N (BlobStored digest bytes) at = record { tenants = at.tenants; repos = at.repos; links = at.links; manifests = at.manifests; next = at.next; sessions = at.sessions; contents = stored D.contents N.contents at.contents digest bytes (noted bytes) (bytes ∷ [], append-nil bytes, append-nil (noted bytes)) }

notes_steps : (cs : List Change) (D N : DurableState) → IsNoted D N → IsNoted (after_changes D cs) (after_changes N (map noted_change cs))
notes_steps [] D N at = at
notes_steps (c ∷ cs) D N at = notes_steps cs (after_change D c) (after_change N (noted_change c)) (notes_step D N c at)

new_noted : (tenants : List Tenant) → IsNoted (initial_durable tenants) (initial_durable tenants)
new_noted tenants = record { tenants = refl; repos = refl; links = refl; manifests = refl; next = refl; sessions = λ key. fmap.get-empty session_number_cmp key ∙ sym (ap (option_map noted_session) (fmap.get-empty session_number_cmp key)); contents = λ digest. subst (λ o. AreNotedContents o o) (sym (fmap.get-empty text_cmp digest)) tt }

pub notes_determine : NotesDetermine
notes_determine tenants cs ds same = (
  after_changes (initial_durable tenants) (map noted_change cs),
  notes_steps cs (initial_durable tenants) (initial_durable tenants) (new_noted tenants),
  subst (λ ns. IsNoted (after_changes (initial_durable tenants) ds) (after_changes (initial_durable tenants) ns)) (sym same) (notes_steps ds (initial_durable tenants) (initial_durable tenants) (new_noted tenants)),
)
