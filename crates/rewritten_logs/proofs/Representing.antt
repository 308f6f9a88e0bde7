-- The state that the records of a log leave represents the durable state after the changes that they describe.
use Rattle.std.proofs.Common.{◌≡◌, ◌∙◌, ◌≢◌, ℕ, suc, ◌+◌, Bool, true, false, List, [], ◌∷◌, ◌++◌, Option, Some, None, ap, refl, sym, subst, append-nil, length, inl, inr}
use mathlib.Core.Bool.{true≢false}
use Rattle.std.specs.Prelude.{cond, fold, is_some, map, nat_lt, not, position, slice_set, if◌then◌else◌}
use Rattle.std.specs.FinMap as fmap
use Rattle.std.specs.List.{AllByRecursion, concat, prefix_len}
use Rattle.std.specs.Option.{option_map_or}
use Rattle.std.specs.Ordering.{eq_by_cmp}
use Rattle.std.specs.Cmp.Lexicographic.{nat_list_cmp_total}
use Rattle.std.proofs.lemmas.Map.Lookups.{exact_bytes}
use Rattle.blob_digest.specs.Digests.{sha256_text}
use Rattle.blob_digest.specs.Keys.{link_cmp, session_number_cmp}
use Rattle.blob_digest.specs.Names.{tenant_name}
use Rattle.blob_digest.proofs.KeyOrders.{exact_link, link_cmp_total, number_cmp_total}
use Rattle.content_files.specs.Chunks.{chunk_notes}
use Rattle.log_records.specs.Changes as logged
use Rattle.locked_book.specs.Described.{logged_change, name_at, place}
use Rattle.locked_book.proofs.Fitting.{Describes, IsOwned, place_owned}
use Rattle.log_state.specs.LoggedStates.{AreSame, LoggedState, after_chunk, after_logged, after_seal, found_at, initial_logged, key_in, place_in, with_blob, with_manifest}
use Rattle.log_state.specs.Sessions.{OpenSession, with_logged}
use Rattle.log_state.specs.declared.chunk.Chunk.{Chunk}
use Rattle.log_state.specs.declared.chunk.Chunk.TheVariants.{Bytes, Notes}
use Rattle.rewritten_logs.specs.Linked.{IsLinkOf}
use Rattle.rewritten_logs.specs.Rewritten.{names_in}
use Rattle.rewritten_logs.proofs.Aligned.{AreLogsOf}
use Rattle.rewritten_logs.proofs.Links.{IsLinkKept, LinksKept}
use Rattle.rewritten_logs.proofs.Notes.{AreLoggedChunks, HasNotes, IsLoggedChunk, chunk_added, sealed}
use Rattle.spec_lib.specs.Sets as set
use Rattle.spec_lib.specs.Texts.{Text, same_text, text_cmp}
use Rattle.spec_lib.proofs.Maps.{cases_key, get-insert_at, get-insert_other}
use Rattle.spec_lib.proofs.Sets as sets
use Rattle.store_model.specs.Catalog.{CheckedIn, Link, Session, SessionNumber, Tenant}
use Rattle.store_model.specs.Durable.{BlobLinked, BlobStored, BlobUnlinked, Change, ChunkReceived, DurableState, ManifestDeleted, ManifestPut, NumberSet, RepoAdded, RepoRemoved, SessionDropped, SessionOpened, SessionSealed, after_change, after_changes, after_seal as durable_seal, checked_in_session, initial_durable}
use Rattle.store_model.specs.Sessions.{Sessions, at_home, content_in, with_chunk, with_chunks}

-- ---- tenants

-- the place of a name is that of the tenant with it
first_named : (tenants : List Tenant) (name : Text) → prefix_len (λ x. not (same_text x name)) (names_in tenants) ≡ prefix_len (λ t. not (same_text t.name name)) tenants
first_named [] name = refl
first_named (t ∷ tenants) name = by (not (same_text t.name name)) (first_named tenants name)
  where
    by : (b : Bool) → prefix_len (λ x. not (same_text x name)) (names_in tenants) ≡ prefix_len (λ x. not (same_text x.name name)) tenants →
        (if b then 1 + prefix_len (λ x. not (same_text x name)) (names_in tenants) else 0) ≡ (if b then 1 + prefix_len (λ x. not (same_text x.name name)) tenants else 0)
    by true again = ap (λ n. 1 + n) again
    by false again = refl

count_names : (tenants : List Tenant) → length (names_in tenants) ≡ length tenants
count_names [] = refl
count_names (t ∷ tenants) = ap suc (count_names tenants)

named : (tenants : List Tenant) (name : Text) → found_at (names_in tenants) name ≡ position (λ t. same_text t.name name) tenants
named tenants name = λ i. if nat_lt (first_named tenants name i) (count_names tenants i) then Some (first_named tenants name i) else None

place_named : (tenants : List Tenant) (name : Text) → place_in (names_in tenants) name ≡ place tenants name
place_named tenants name = ap (λ o. option_map_or (λ t. t) o 0) (named tenants name)

place_of_key : (tenants : List Tenant) (key : SessionNumber) → IsOwned tenants key → place_in (names_in tenants) (name_at tenants key.0) ≡ key.0
place_of_key tenants key owned = place_named tenants (name_at tenants key.0) ∙ place_owned tenants key owned

-- ---- representation

-- the open session has the repository and the chunks of the durable one, or there is none
abbrev pub IsLoggedSession : Option OpenSession → Option Session → Type 0
IsLoggedSession None None = Unit {0}
IsLoggedSession None (Some s) = ⊥
IsLoggedSession (Some o) None = ⊥
IsLoggedSession (Some o) (Some s) = (o.repo ≡ s.repo) × (cs : List Text) × (s.chunks ≡ CheckedIn cs) × AreLoggedChunks o.chunks cs

-- these are notes of the content, or there is none
abbrev pub IsLoggedContent : Option (List ℕ) → Option Text → Type 0
IsLoggedContent None None = Unit {0}
IsLoggedContent None (Some c) = ⊥
IsLoggedContent (Some n) None = ⊥
IsLoggedContent (Some n) (Some c) = HasNotes n c

-- The state that a log leaves has what the durable state has, with notes in place of the contents that have a link.
pub record Represents (tenants : List Tenant) (S : LoggedState) (D : DurableState) : Type 0 where
  pub tenants_are : D.tenants ≡ tenants
  pub repos : S.repos ≡ D.repos
  pub links : S.links ≡ D.links
  pub manifests : S.manifests ≡ D.manifests
  pub next : S.next ≡ D.next
  pub sessions : (key : SessionNumber) → IsLoggedSession (fmap.get S.sessions key) (fmap.get D.sessions key)
  pub contents : (l : Link) → IsLinkOf D l → IsLoggedContent (fmap.get S.contents l.1) (fmap.get D.contents l.1)

-- ---- maps

abbrev AreLoggedSessions : fmap.FinMap session_number_cmp OpenSession → Sessions → Type 0
AreLoggedSessions m n = (key : SessionNumber) → IsLoggedSession (fmap.get m key) (fmap.get n key)

put : (m : fmap.FinMap session_number_cmp OpenSession) (n : Sessions) → AreLoggedSessions m n → (k : SessionNumber) (o : OpenSession) (s : Session) → IsLoggedSession (Some o) (Some s) → AreLoggedSessions (fmap.insert m k o) (fmap.insert n k s)
put m n all k o s is key =
    subst (λ x. IsLoggedSession x (fmap.get (fmap.insert n k s) key)) (sym (fmap.get-insert number_cmp_total m k o key))
    (subst (IsLoggedSession (cond (eq_by_cmp session_number_cmp key k) (Some o) (fmap.get m key))) (sym (fmap.get-insert number_cmp_total n k s key)) (by (eq_by_cmp session_number_cmp key k)))
  where
    by : (b : Bool) → IsLoggedSession (cond b (Some o) (fmap.get m key)) (cond b (Some s) (fmap.get n key))
    by true = is
    by false = all key

gone : (m : fmap.FinMap session_number_cmp OpenSession) (n : Sessions) → AreLoggedSessions m n → (k : SessionNumber) → AreLoggedSessions (fmap.remove m k) (fmap.remove n k)
gone m n all k key =
    subst (λ x. IsLoggedSession x (fmap.get (fmap.remove n k) key)) (sym (fmap.get-remove number_cmp_total m k key))
    (subst (IsLoggedSession (cond (eq_by_cmp session_number_cmp key k) None (fmap.get m key))) (sym (fmap.get-remove number_cmp_total n k key)) (by (eq_by_cmp session_number_cmp key k)))
  where
    by : (b : Bool) → IsLoggedSession (cond b None (fmap.get m key)) (cond b None (fmap.get n key))
    by true = tt
    by false = all key

-- a content under a digest, and what was there under the others
stored : (m : fmap.FinMap text_cmp (List ℕ)) (n : fmap.FinMap text_cmp Text) (k : Text) (notes : List ℕ) (content : Text) → HasNotes notes content →
    (q : Text) → (q ≢ k → IsLoggedContent (fmap.get m q) (fmap.get n q)) → IsLoggedContent (fmap.get (fmap.insert m k notes) q) (fmap.get (fmap.insert n k content) q)
stored m n k notes content is q others = elim (cases_key nat_list_cmp_total exact_bytes q k) [
  | inl same ↦
      subst (λ x. IsLoggedContent (fmap.get (fmap.insert m k notes) x) (fmap.get (fmap.insert n k content) x)) (sym same)
      (subst (λ x. IsLoggedContent x (fmap.get (fmap.insert n k content) k)) (sym (get-insert_at nat_list_cmp_total exact_bytes m k notes))
      (subst (IsLoggedContent (Some notes)) (sym (get-insert_at nat_list_cmp_total exact_bytes n k content)) is))
  | inr apart ↦
      subst (λ x. IsLoggedContent x (fmap.get (fmap.insert n k content) q)) (sym (get-insert_other nat_list_cmp_total exact_bytes m k notes q apart))
      (subst (IsLoggedContent (fmap.get m q)) (sym (get-insert_other nat_list_cmp_total exact_bytes n k content q apart)) (others apart))
]

-- ---- changes

module _ (tenants : List Tenant) (S : LoggedState) (D : DurableState) (r : Represents tenants S D) where
  -- a session is opened
  opened : (repo : Text) (key k : SessionNumber) → k ≡ key →
      Represents tenants (record S { repos = set.insert S.repos repo; sessions = fmap.insert S.sessions k (record { repo = repo; chunks = [] }); next = slice_set S.next k.0 (k.1 + 1) })
      (after_change D (SessionOpened repo key))
  opened repo key k same = subst (λ k. Represents tenants (record S { repos = set.insert S.repos repo; sessions = fmap.insert S.sessions k (record { repo = repo; chunks = [] }); next = slice_set S.next k.0 (k.1 + 1) }) (after_change D (SessionOpened repo key))) (sym same) (record {
    tenants_are = r.tenants_are;
    repos = ap (λ s. set.insert s repo) r.repos;
    links = r.links;
    manifests = r.manifests;
    next = ap (λ l. slice_set l key.0 (key.1 + 1)) r.next;
    sessions = put S.sessions D.sessions r.sessions key (record { repo = repo; chunks = [] }) (checked_in_session repo []) (refl, [], refl, tt);
    contents = r.contents;
  })

  -- a session receives a chunk
  received : (key : SessionNumber) (c : Chunk) (bytes : Text) → IsLoggedChunk c bytes → Represents tenants (after_chunk S key c) (after_change D (ChunkReceived key bytes))
  received key c bytes is = by (fmap.get S.sessions key) (fmap.get D.sessions key) (r.sessions key)
    where
      by : (o : Option OpenSession) (d : Option Session) → IsLoggedSession o d →
          Represents tenants (option_map_or (λ s. record S { sessions = fmap.insert S.sessions key (record { repo = s.repo; chunks = with_logged s.chunks c }) }) o S)
          (record D { sessions = option_map_or (λ s. with_chunks D.sessions key s (CheckedIn (with_chunk (at_home s.chunks) bytes))) d D.sessions })
      by None None so = r
      by None (Some s) so = absurd so
      by (Some o) None so = absurd so
      by (Some o) (Some s) so = record {
        tenants_are = r.tenants_are;
        repos = r.repos;
        links = r.links;
        manifests = r.manifests;
        next = r.next;
        sessions = put S.sessions D.sessions r.sessions key (record { repo = o.repo; chunks = with_logged o.chunks c }) (record s { chunks = CheckedIn (with_chunk (at_home s.chunks) bytes) })
            (so.0, with_chunk so.1 bytes, ap (λ cs. CheckedIn (with_chunk (at_home cs) bytes)) so.2, chunk_added o.chunks so.1 c bytes so.3 is);
        contents = r.contents;
      }

  -- a session becomes a blob
  closed : (key : SessionNumber) (digest : Text) (c : Chunk) (last : Text) → IsLoggedChunk c last → Represents tenants (after_seal S key digest c) (after_change D (SessionSealed key digest last))
  closed key digest c last is = by (fmap.get S.sessions key) (fmap.get D.sessions key) refl (r.sessions key)
    where
      by : (o : Option OpenSession) (d : Option Session) → fmap.get D.sessions key ≡ d → IsLoggedSession o d →
          Represents tenants (option_map_or (with_blob S key digest c) o S) (option_map_or (durable_seal D key digest last) d D)
      by None None found so = r
      by None (Some s) found so = absurd so
      by (Some o) None found so = absurd so
      by (Some o) (Some s) found so =
          let whole : concat so.1 ++ last ≡ content_in D.sessions key last = sym (ap (λ x. concat (option_map_or (λ s. at_home s.chunks) x []) ++ last) found ∙ ap (λ x. concat (at_home x) ++ last) so.2) in
          let notes = subst (HasNotes _) whole (sealed o.chunks so.1 c last so.3 is) in
          record {
            tenants_are = r.tenants_are;
            repos = r.repos;
            links = λ i. set.insert (r.links i) (so.0 i, digest);
            manifests = r.manifests;
            next = r.next;
            sessions = gone S.sessions D.sessions r.sessions key;
            contents = λ l is_linked. stored S.contents D.contents digest _ _ notes l.1 (λ apart. elim (sets.member link_cmp_total exact_link D.links (s.repo, digest) l is_linked) [
              | inl same ↦ absurd (apart (ap (λ x. x.1) same))
              | inr before ↦ r.contents l before
            ]);
          }

  -- a repository links a blob to which another one has a link
  linked : (repo digest other : Text) → IsLinkOf D (other, digest) → Represents tenants (record S { repos = set.insert S.repos repo; links = set.insert S.links (repo, digest) }) (after_change D (BlobLinked repo digest))
  linked repo digest other kept = record {
    tenants_are = r.tenants_are;
    repos = ap (λ s. set.insert s repo) r.repos;
    links = ap (λ s. set.insert s (repo, digest)) r.links;
    manifests = r.manifests;
    next = r.next;
    sessions = r.sessions;
    contents = λ l now. elim (sets.member link_cmp_total exact_link D.links (repo, digest) l now) [
      | inl same ↦ subst (λ (d : Text). IsLoggedContent (fmap.get S.contents d) (fmap.get D.contents d)) (sym (ap (λ x. x.1) same)) (r.contents (other, digest) kept)
      | inr before ↦ r.contents l before
    ];
  }

  -- a repository removes its link to a blob
  unlinked : (repo digest : Text) → Represents tenants (record S { links = set.remove S.links (repo, digest) }) (after_change D (BlobUnlinked repo digest))
  unlinked repo digest = record {
    tenants_are = r.tenants_are;
    repos = r.repos;
    links = ap (λ s. set.remove s (repo, digest)) r.links;
    manifests = r.manifests;
    next = r.next;
    sessions = r.sessions;
    contents = λ l left. r.contents l (sets.was_member link_cmp_total exact_link D.links (repo, digest) l left);
  }

  -- a manifest is put into a repository
  put_manifest : (repo bytes : Text) → (b : Bool) → fmap.contains_key S.manifests (repo, sha256_text bytes) ≡ b →
      Represents tenants (if b then S else with_manifest S repo bytes) (after_change D (ManifestPut repo bytes))
  put_manifest repo bytes true there = rw (sym (ap (λ m. fmap.contains_key m (repo, sha256_text bytes)) r.manifests) ∙ there) r
  put_manifest repo bytes false new = rw (sym (ap (λ m. fmap.contains_key m (repo, sha256_text bytes)) r.manifests) ∙ new) (record {
    tenants_are = r.tenants_are;
    repos = ap (λ s. set.insert s repo) r.repos;
    links = r.links;
    manifests = ap (λ m. fmap.insert m (repo, sha256_text bytes) bytes) r.manifests;
    next = r.next;
    sessions = r.sessions;
    contents = r.contents;
  })

  -- a digest has this content
  given : (digest bytes : Text) (notes : List ℕ) → HasNotes notes bytes → Represents tenants (record S { contents = fmap.insert S.contents digest notes; homes = fmap.remove S.homes digest }) (after_change D (BlobStored digest bytes))
  given digest bytes notes has = record {
    tenants_are = r.tenants_are;
    repos = r.repos;
    links = r.links;
    manifests = r.manifests;
    next = r.next;
    sessions = r.sessions;
    contents = λ l is. stored S.contents D.contents digest notes bytes has l.1 (λ apart. r.contents l is);
  }

  dropped : (key : SessionNumber) → Represents tenants (record S { sessions = fmap.remove S.sessions key }) (after_change D (SessionDropped key))
  dropped key = record { tenants_are = r.tenants_are; repos = r.repos; links = r.links; manifests = r.manifests; next = r.next; sessions = gone S.sessions D.sessions r.sessions key; contents = r.contents }

  number_set : (t n : ℕ) → Represents tenants (record S { next = slice_set S.next t n }) (after_change D (NumberSet t n))
  number_set t n = record { tenants_are = r.tenants_are; repos = r.repos; links = r.links; manifests = r.manifests; next = ap (λ l. slice_set l t n) r.next; sessions = r.sessions; contents = r.contents }

  -- a change, and its record
  pub represents_after : (noted : Bool) (c : Change) → Describes tenants c → IsLinkKept D c → Represents tenants (after_logged (names_in tenants) S (logged_change tenants noted c)) (after_change D c)
  represents_after noted (SessionOpened repo key) d kept =
      opened repo key (key_in (names_in tenants) repo key.1) (ap (λ t. (t, key.1)) (place_named tenants (tenant_name repo)) ∙ sym d.2)
  represents_after false (ChunkReceived key bytes) d kept =
      subst (λ t. Represents tenants (after_chunk S (t, key.1) (Bytes bytes)) (after_change D (ChunkReceived key bytes))) (sym (place_of_key tenants key d.2.0)) (received key (Bytes bytes) bytes refl)
  represents_after true (ChunkReceived key bytes) d kept =
      subst (λ t. Represents tenants (after_chunk S (t, key.1) (Notes (chunk_notes bytes))) (after_change D (ChunkReceived key bytes))) (sym (place_of_key tenants key d.2.0)) (received key (Notes (chunk_notes bytes)) bytes refl)
  represents_after false (SessionSealed key digest last) d kept =
      subst (λ t. Represents tenants (after_seal S (t, key.1) digest (Bytes last)) (after_change D (SessionSealed key digest last))) (sym (place_of_key tenants key d.2.0)) (closed key digest (Bytes last) last refl)
  represents_after true (SessionSealed key digest last) d kept =
      subst (λ t. Represents tenants (after_seal S (t, key.1) digest (Notes (chunk_notes last))) (after_change D (SessionSealed key digest last))) (sym (place_of_key tenants key d.2.0)) (closed key digest (Notes (chunk_notes last)) last refl)
  represents_after noted (SessionDropped key) d kept =
      subst (λ t. Represents tenants (record S { sessions = fmap.remove S.sessions (t, key.1) }) (after_change D (SessionDropped key))) (sym (place_of_key tenants key d.2)) (dropped key)
  represents_after noted (BlobLinked repo digest) d kept = linked repo digest kept.0 kept.1
  represents_after noted (BlobUnlinked repo digest) d kept = unlinked repo digest
  represents_after noted (ManifestPut repo bytes) d kept = put_manifest repo bytes (fmap.contains_key S.manifests (repo, sha256_text bytes)) refl
  represents_after noted (ManifestDeleted repo digest) d kept = record { tenants_are = r.tenants_are; repos = r.repos; links = r.links; manifests = ap (λ m. fmap.remove m (repo, digest)) r.manifests; next = r.next; sessions = r.sessions; contents = r.contents }
  represents_after noted (RepoRemoved repo) d kept = record { tenants_are = r.tenants_are; repos = ap (λ s. set.remove s repo) r.repos; links = r.links; manifests = r.manifests; next = r.next; sessions = r.sessions; contents = r.contents }
  represents_after noted (RepoAdded repo) d kept = record { tenants_are = r.tenants_are; repos = ap (λ s. set.insert s repo) r.repos; links = r.links; manifests = r.manifests; next = r.next; sessions = r.sessions; contents = r.contents }
  represents_after noted (NumberSet t n) d kept =
      subst (λ p. Represents tenants (record S { next = slice_set S.next p n }) (after_change D (NumberSet t n))) (sym (place_of_key tenants (t, n) d.2)) (number_set t n)
  represents_after noted (BlobStored digest bytes) d kept = given digest bytes (chunk_notes bytes) (record { chunks = bytes ∷ []; whole = append-nil bytes; notes_are = append-nil (chunk_notes bytes) })

-- changes, and their records
pub represents_all : (tenants : List Tenant) (ls : List logged.Change) (cs : List Change) (S : LoggedState) (D : DurableState) → AreLogsOf tenants ls cs → AllByRecursion (Describes tenants) cs → LinksKept D cs →
    Represents tenants S D → Represents tenants (fold (after_logged (names_in tenants)) S ls) (after_changes D cs)
represents_all tenants [] [] S D are all kept r = r
represents_all tenants [] (c ∷ cs) S D are all kept r = absurd are
represents_all tenants (l ∷ ls) [] S D are all kept r = absurd are
represents_all tenants (l ∷ ls) (c ∷ cs) S D are all kept r =
    represents_all tenants ls cs (after_logged (names_in tenants) S l) (after_change D c) are.1 all.1 kept.1
    (subst (λ x. Represents tenants (after_logged (names_in tenants) S x) (after_change D c)) (sym are.0.1) (represents_after tenants S D r are.0.0 c all.0 kept.0))

-- the state of an empty log
pub represents_new : (tenants : List Tenant) → Represents tenants (initial_logged (names_in tenants)) (initial_durable tenants)
represents_new tenants = record {
  tenants_are = refl;
  repos = refl;
  links = refl;
  manifests = refl;
  next = ones tenants;
  sessions = λ key. subst (λ x. IsLoggedSession x (fmap.get {R = session_number_cmp} fmap.empty key)) (sym (fmap.get-empty session_number_cmp key)) (subst (IsLoggedSession None) (sym (fmap.get-empty session_number_cmp key)) tt);
  contents = λ l is. absurd (no_link l is);
}
  where
    ones : (ts : List Tenant) → map {B = ℕ} (λ _. 1) (names_in ts) ≡ map {B = ℕ} (λ _. 1) ts
    ones [] = refl
    ones (t ∷ ts) = ap (λ (l : List ℕ). 1 ∷ l) (ones ts)

    no_link : (l : Link) → IsLinkOf (initial_durable tenants) l → ⊥
    no_link l is = true≢false (sym (sym (ap is_some (fmap.get-empty link_cmp l)) ∙ is))

-- a state that is the same represents the same
pub represents_same : (tenants : List Tenant) (S T : LoggedState) (D : DurableState) → AreSame S T → Represents tenants S D → Represents tenants T D
represents_same tenants S T D same r = record {
  tenants_are = r.tenants_are;
  repos = sym same.repos ∙ r.repos;
  links = sym same.links ∙ r.links;
  manifests = sym same.manifests ∙ r.manifests;
  next = sym same.next ∙ r.next;
  sessions = λ key. subst (λ m. IsLoggedSession (fmap.get m key) (fmap.get D.sessions key)) same.sessions (r.sessions key);
  contents = λ l is. subst (λ x. IsLoggedContent x (fmap.get D.contents l.1)) (same.contents l (ap (λ s. set.contains s l) r.links ∙ is)).0 (r.contents l is);
}
