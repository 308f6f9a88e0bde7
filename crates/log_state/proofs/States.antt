-- The changes of the maps in memory are those of the state.
use Rattle.std.proofs.Common.{◌≡◌, ℕ, Bool, true, false, cond, [], ◌∷◌, ◌++◌, Option, Some, None, is_some, refl, sym, ap, ◌∙◌}
use Rattle.std.specs.Prelude.{if◌then◌else◌}
use Rattle.std.specs.Option.{option_map_or}
use Rattle.std.specs.Ordering.{eq_by_cmp}
use Rattle.std.specs.Cmp.{IsTotalOrder}
use Rattle.std.specs.Cmp.Lexicographic.{nat_list_cmp_total}
use Rattle.std.proofs.lemmas.Map.Lookups.{CmpEqualImpliesEq, exact_bytes}
use Rattle.std.specs.declared.cmp.Ordering.{Ordering}
use Rattle.std.specs.BTreeMap.{BTreeMap, is_at, get}
use Rattle.std.specs.FinMap as fmap
use Rattle.blob_digest.specs.Keys.{Link, SessionNumber, link_cmp, session_number_cmp}
use Rattle.blob_digest.proofs.KeyOrders.{exact_link, exact_number, link_cmp_total, number_cmp_total}
use Rattle.blob_digest.specs.Digests.{sha256_text}
use Rattle.spec_lib.specs.Sets as set
use Rattle.spec_lib.specs.Texts.{Text, text_cmp}
use Rattle.spec_lib.specs.Trees.{tree_map}
use Rattle.spec_lib.proofs.Trees.{tree_get, tree_insert, tree_remove}
use Rattle.log_state.specs.LoggedStates.{LoggedState, after_chunk, after_seal, state_in, with_blob, with_home, with_manifest}
use Rattle.log_state.specs.Sessions.{OpenSession, is_noted, notes_after, with_logged}
use Rattle.log_state.specs.declared.chunk.Chunk.{Chunk}
use Rattle.log_state.specs.declared.state.LogState.{LogState}

-- ---- one key

-- the new tree has this at the key, and what the old one had at every other key
abbrev pub IsUpdated : {K X : Type 0} (R : K → K → Ordering) → BTreeMap K X → BTreeMap K X → K → Option X → Type 0
IsUpdated {K} R m n k w = (q : K) → get R n q ≡ cond (is_at (R k) q) w (get R m q)

-- texts, links and sessions as keys
pub text_put : {X : Type 0} (m n : BTreeMap Text X) (k : Text) (v : X) → IsUpdated text_cmp m n k (Some v)
    → tree_map text_cmp n ≡ fmap.insert (tree_map text_cmp m) k v
text_put m n k v = tree_insert nat_list_cmp_total exact_bytes m n k v

pub text_removed : {X : Type 0} (m n : BTreeMap Text X) (k : Text) → IsUpdated text_cmp m n k None → tree_map text_cmp n ≡ fmap.remove (tree_map text_cmp m) k
text_removed m n k = tree_remove nat_list_cmp_total exact_bytes m n k

pub link_put : {X : Type 0} (m n : BTreeMap Link X) (k : Link) (v : X) → IsUpdated link_cmp m n k (Some v)
    → tree_map link_cmp n ≡ fmap.insert (tree_map link_cmp m) k v
link_put m n k v = tree_insert link_cmp_total exact_link m n k v

pub link_removed : {X : Type 0} (m n : BTreeMap Link X) (k : Link) → IsUpdated link_cmp m n k None → tree_map link_cmp n ≡ fmap.remove (tree_map link_cmp m) k
link_removed m n k = tree_remove link_cmp_total exact_link m n k

pub session_put : {X : Type 0} (m n : BTreeMap SessionNumber X) (k : SessionNumber) (v : X) → IsUpdated session_number_cmp m n k (Some v)
    → tree_map session_number_cmp n ≡ fmap.insert (tree_map session_number_cmp m) k v
session_put m n k v = tree_insert number_cmp_total exact_number m n k v

pub session_removed : {X : Type 0} (m n : BTreeMap SessionNumber X) (k : SessionNumber) → IsUpdated session_number_cmp m n k None
    → tree_map session_number_cmp n ≡ fmap.remove (tree_map session_number_cmp m) k
session_removed m n k = tree_remove number_cmp_total exact_number m n k

-- ---- a value in place of another

module _ {K X : Type 0} {R : K → K → Ordering} (total : IsTotalOrder R) (exact : CmpEqualImpliesEq R) where
  replaced_at : (b : Bool) (w o : Option X) → cond b w (cond b None o) ≡ cond b w o
  replaced_at true w o = refl
  replaced_at false w o = refl

  -- a removal before an insertion at the same key changes nothing
  insert-remove : (m : fmap.FinMap R X) (k : K) (v : X) → fmap.insert (fmap.remove m k) k v ≡ fmap.insert m k v
  insert-remove m k v = fmap.same_map total exact (fmap.insert (fmap.remove m k) k v) (fmap.insert m k v) (λ q.
      fmap.get-insert total (fmap.remove m k) k v q ∙ ap (cond (eq_by_cmp R q k) (Some v)) (fmap.get-remove total m k q)
      ∙ replaced_at (eq_by_cmp R q k) (Some v) (fmap.get m q) ∙ sym (fmap.get-insert total m k v q))

pub session_replaced : {X : Type 0} (m mid n : BTreeMap SessionNumber X) (k : SessionNumber) (v : X) → IsUpdated session_number_cmp m mid k None
    → IsUpdated session_number_cmp mid n k (Some v) → tree_map session_number_cmp n ≡ fmap.insert (tree_map session_number_cmp m) k v
session_replaced m mid n k v out put =
    session_put mid n k v put ∙ ap (λ t. fmap.insert t k v) (session_removed m mid k out)
    ∙ insert-remove number_cmp_total exact_number (tree_map session_number_cmp m) k v

-- ---- parts of a state

pub repo_added : (m n : BTreeMap Text (Unit {0})) (k l : Text) → k ≡ l → IsUpdated text_cmp m n k (Some tt)
    → tree_map text_cmp n ≡ set.insert (tree_map text_cmp m) l
repo_added m n k l e up = text_put m n k tt up ∙ ap (λ x. set.insert (tree_map text_cmp m) x) e

pub repo_removed : (m n : BTreeMap Text (Unit {0})) (k l : Text) → k ≡ l → IsUpdated text_cmp m n k None
    → tree_map text_cmp n ≡ set.remove (tree_map text_cmp m) l
repo_removed m n k l e up = text_removed m n k up ∙ ap (λ x. set.remove (tree_map text_cmp m) x) e

pub link_added : (m n : BTreeMap Link (Unit {0})) (k l d f : Text) → k ≡ l → d ≡ f → IsUpdated link_cmp m n (k, d) (Some tt)
    → tree_map link_cmp n ≡ set.insert (tree_map link_cmp m) (l, f)
link_added m n k l d f e g up = link_put m n (k, d) tt up ∙ (λ i. set.insert (tree_map link_cmp m) (e i, g i))

pub of_link_removed : {X : Type 0} (m n : BTreeMap Link X) (k l d f : Text) → k ≡ l → d ≡ f → IsUpdated link_cmp m n (k, d) None
    → tree_map link_cmp n ≡ fmap.remove (tree_map link_cmp m) (l, f)
of_link_removed m n k l d f e g up = link_removed m n (k, d) up ∙ (λ i. fmap.remove (tree_map link_cmp m) (e i, g i))

pub manifest_added : (m n : BTreeMap Link Text) (k l d f v w : Text) → k ≡ l → d ≡ f → v ≡ w → IsUpdated link_cmp m n (k, d) (Some v)
    → tree_map link_cmp n ≡ fmap.insert (tree_map link_cmp m) (l, f) w
manifest_added m n k l d f v w e g h up = link_put m n (k, d) v up ∙ (λ i. fmap.insert (tree_map link_cmp m) (e i, g i) (h i))

pub manifest_known : (m : BTreeMap Link Text) (k l d f : Text) (r b : Bool) → k ≡ l → d ≡ f → r ≡ is_some (get link_cmp m (k, d)) → r ≡ b
    → fmap.contains_key (tree_map link_cmp m) (l, f) ≡ b
manifest_known m k l d f r b e g is was =
    (λ i. is_some (fmap.get (tree_map link_cmp m) (sym e i, sym g i))) ∙ ap is_some (sym (tree_get link_cmp_total m (k, d))) ∙ sym is ∙ was

-- a manifest is put that is there, and one that is not
pub manifest_there : (S : LoggedState) (repo bytes : Text) → fmap.contains_key S.manifests (repo, sha256_text bytes) ≡ true
    → S ≡ (if fmap.contains_key S.manifests (repo, sha256_text bytes) then S else with_manifest S repo bytes)
manifest_there S repo bytes h = sym (ap (λ (b : Bool). if b then S else with_manifest S repo bytes) h)

pub manifest_absent : (S T : LoggedState) (repo bytes : Text) → fmap.contains_key S.manifests (repo, sha256_text bytes) ≡ false → T ≡ with_manifest S repo bytes
    → T ≡ (if fmap.contains_key S.manifests (repo, sha256_text bytes) then S else with_manifest S repo bytes)
manifest_absent S T repo bytes h is = is ∙ sym (ap (λ (b : Bool). if b then S else with_manifest S repo bytes) h)

pub content_added : (m n : BTreeMap Text Text) (k l v w : Text) → k ≡ l → v ≡ w → IsUpdated text_cmp m n k (Some v)
    → tree_map text_cmp n ≡ fmap.insert (tree_map text_cmp m) l w
content_added m n k l v w e h up = text_put m n k v up ∙ (λ i. fmap.insert (tree_map text_cmp m) (e i) (h i))

-- ---- open sessions

-- the session that a tree has is that of its map
pub session_there : {X : Type 0} (m : BTreeMap SessionNumber X) (k : SessionNumber) (s : X) → Some s ≡ get session_number_cmp m k
    → fmap.get (tree_map session_number_cmp m) k ≡ Some s
session_there m k s is = sym (tree_get number_cmp_total m k) ∙ sym is

-- the chunk of an open session was added
pub chunk_added : (S T : LoggedState) (key : SessionNumber) (c : Chunk) (s : OpenSession) → fmap.get S.sessions key ≡ Some s
    → T ≡ record S { sessions = fmap.insert S.sessions key (record { repo = s.repo; chunks = with_logged s.chunks c }) } → T ≡ after_chunk S key c
chunk_added S T key c s there is =
    is ∙ sym (ap (λ o. option_map_or (λ (s : OpenSession). record S
    { sessions = fmap.insert S.sessions key (record { repo = s.repo; chunks = with_logged s.chunks c }) }) o S) there)

-- an open session was sealed
pub session_sealed : (S T : LoggedState) (key : SessionNumber) (digest : Text) (last : Chunk) (s : OpenSession) → fmap.get S.sessions key ≡ Some s
    → T ≡ with_blob S key digest last s → T ≡ after_seal S key digest last
session_sealed S T key digest last s there is = is ∙ sym (ap (λ o. option_map_or (with_blob S key digest last) o S) there)

-- the number of a tenant and of a session, of which the first is equal
pub numbers : (t u n : ℕ) → t ≡ u → ◌≡◌ {A = SessionNumber} (t, n) (u, n)
numbers t u n e i = (e i, n)

pub session_opened : (m n : BTreeMap SessionNumber OpenSession) (t u k : ℕ) (s : OpenSession) → t ≡ u → (v : OpenSession) → s ≡ v
    → IsUpdated session_number_cmp m n (t, k) (Some s)
    → tree_map session_number_cmp n ≡ fmap.insert (tree_map session_number_cmp m) (u, k) v
session_opened m n t u k s e v h up = session_put m n (t, k) s up ∙ (λ i. fmap.insert (tree_map session_number_cmp m) (e i, k) (h i))

pub session_dropped : (m n : BTreeMap SessionNumber OpenSession) (t u k : ℕ) → t ≡ u → IsUpdated session_number_cmp m n (t, k) None
    → tree_map session_number_cmp n ≡ fmap.remove (tree_map session_number_cmp m) (u, k)
session_dropped m n t u k e up = session_removed m n (t, k) up ∙ (λ i. fmap.remove (tree_map session_number_cmp m) (e i, k))

-- the session's chunks with one more take the place of the session
pub chunk_taken : (m : LogState) (mid n : BTreeMap SessionNumber OpenSession) (t u k : ℕ) (s v : OpenSession) (c : Chunk) → t ≡ u
    → Some s ≡ get session_number_cmp m.sessions (t, k)
    → v ≡ record { repo = s.repo; chunks = with_logged s.chunks c } → IsUpdated session_number_cmp m.sessions mid (t, k) None
    → IsUpdated session_number_cmp mid n (t, k) (Some v)
    → state_in (record m { sessions = n }) ≡ after_chunk (state_in m) (u, k) c
chunk_taken m mid n t u k s v c e there is out put =
    chunk_added (state_in m) (state_in (record m { sessions = n })) (t, k) c s (session_there m.sessions (t, k) s there)
    (λ i. record (state_in m) {
      sessions = (session_replaced m.sessions mid n (t, k) v out put
          ∙ ap (λ x. fmap.insert (tree_map session_number_cmp m.sessions) (t, k) x) is) i;
    })
    ∙ ap (λ x. after_chunk (state_in m) (x, k) c) e

-- the session is gone; its repository links the blob, whose content has the notes, in the session's file or in none
pub seal_taken : (m : LogState) (links : BTreeMap Link (Unit {0})) (sessions : BTreeMap SessionNumber OpenSession) (contents : BTreeMap Text Text)
    (homes : BTreeMap Text SessionNumber) (t u k : ℕ) (s : OpenSession)
    (repo d digest notes : Text) (last : Chunk) (noted : Bool) → t ≡ u → Some s ≡ get session_number_cmp m.sessions (t, k) → d ≡ digest → repo ≡ s.repo
    → notes ≡ notes_after [] (s.chunks ++ last ∷ []) → noted ≡ is_noted last
    → IsUpdated session_number_cmp m.sessions sessions (t, k) None → IsUpdated link_cmp m.links links (repo, d) (Some tt)
    → IsUpdated text_cmp m.contents contents d (Some notes) → tree_map text_cmp homes ≡ with_home (tree_map text_cmp m.homes) d (t, k) noted
    → state_in (record m { links = links; sessions = sessions; contents = contents; homes = homes }) ≡ after_seal (state_in m) (u, k) digest last
seal_taken m links sessions contents homes t u k s repo d digest notes last noted e there is_digest is_repo is_notes is_kind out link put home =
    session_sealed (state_in m) (state_in (record m { links = links; sessions = sessions; contents = contents; homes = homes })) (t, k) digest last s
    (session_there m.sessions (t, k) s there)
    (λ i. record (state_in m) {
      links = link_added m.links links repo s.repo d digest is_repo is_digest link i;
      sessions = session_removed m.sessions sessions (t, k) out i;
      contents = content_added m.contents contents d digest notes (notes_after [] (s.chunks ++ last ∷ [])) is_digest is_notes put i;
      homes = (home ∙ (λ j. with_home (tree_map text_cmp m.homes) (is_digest j) (t, k) (is_kind j))) i;
    })
    ∙ ap (λ x. after_seal (state_in m) (x, k) digest last) e

-- sessions without chunks, of the same repository
pub opened : (r s : Text) → r ≡ s → ◌≡◌ {A = OpenSession} (record { repo = r; chunks = [] }) (record { repo = s; chunks = [] })
opened r s e i = record { repo = e i; chunks = [] }
