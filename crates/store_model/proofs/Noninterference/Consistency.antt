-- Each step from a consistent catalog leads to a consistent one, if contents of closes are those of `content`.
use Rattle.std.proofs.Common.{◌≡◌, ℕ, Bool, true, false, [], length, Option, Some, None, is_some, Result, Ok, refl, sym, ap, ◌∙◌, subst, ⊎_elim}
use Rattle.std.specs.Option.{option_map_or, ok_or}
use Rattle.std.specs.Ordering.{eq_by_cmp}
use Rattle.std.specs.Cmp.Lexicographic.{nat_list_cmp_total}
use Rattle.std.specs.List.{list_any}
use Rattle.std.specs.Prelude.{nat_lt, ◌&&◌}
use Rattle.std.specs.FinMap.{contains_key-keys, FinMap, get, insert, remove}
use Rattle.std.proofs.lemmas.Bool.{ne_eqb, true≢false, and_parts, and_right}
use Rattle.store_model.specs.Catalog.{link_count, Link, SessionNumber, CheckedIn, Session, Resident, Catalog, link_cmp, session_number_cmp, tenant_of, is_repo_of, holds, next_number_of}
use Rattle.store_model.specs.declared.swept.Swept.{Swept}
use Rattle.store_model.specs.Sweep.{IsSweepOf, IsAfterSweep, is_orphan}
use Rattle.spec_lib.proofs.Lists.{list_any_weaker, list_any_count}
use Rattle.store_model.proofs.Noninterference.SameFor.{Alike, Consistent, held_kept}
use Rattle.std.proofs.lemmas.Map.Lookups.{exact_bytes}
use Rattle.blob_digest.specs.declared.range.ByteRange.{ByteRange}
use Rattle.blob_digest.specs.declared.refusal.Refusal.{Refusal}
use Rattle.blob_digest.specs.declared.refusal.Refusal.TheVariants.{NameUnknown}
use Rattle.blob_digest.specs.Digests.{sha256_text}
use Rattle.spec_lib.specs.Sets as kept_set
use Rattle.spec_lib.specs.Texts.{Text, text_cmp}
use Rattle.store_model.specs.Commands
use Rattle.spec_lib.specs.Outcomes.{◌>>=◌}
use Rattle.store_model.specs.Commands.{Outcome, session_in, length_after, with_new_session, after_append_in, content_in, is_digest_accepted, fits_stored, with_stored_blob, has_source, with_link, with_manifest, with_leased, check_quota, has_slot, is_in_use, without_repo, is_named}
use Rattle.store_model.specs.Runs as runs
use Rattle.store_model.specs.Runs.{Command, outcome}
use Rattle.store_model.specs.Noninterference.{always_has_slot, isolated_outcome, close_content, uploaded_pair, uploads_of_command}
use Rattle.blob_digest.proofs.KeyOrders.{number_cmp_total, exact_number, link_cmp_total, exact_link}
use Rattle.spec_lib.proofs.Texts.{tied_text}
use Rattle.spec_lib.proofs.Options.{some_value}
use Rattle.spec_lib.proofs.Outcomes.{bound_ok}
use Rattle.store_model.proofs.Commands.Accepted.{session_found}
use Rattle.store_model.proofs.Invariant.Unused as unused_repo
use Rattle.store_model.proofs.Commands.SomeSweep.{left_bytes}
use Rattle.spec_lib.proofs.Maps.{got-insert, got-remove, get-insert_at, still_there}
use Rattle.spec_lib.proofs.Sets.{still, now, member, was_member}
use Rattle.store_model.proofs.Noninterference.StepConsistency.{Fits, fits_whole, longer}
use Rattle.store_model.proofs.Noninterference.LocalRespect.{Leaves, alike_itself, answers_leave, reading_leave, start_leaves, append_leaves, close_leaves, abandon_leaves, mount_leaves, delete_leaves, put_leaves, delete_manifest_leaves, lease_leaves, remove_repo_leaves}

twice : {A : Type 0} → A → A × A
twice x = (x, x)

-- the session's repository exists and belongs to its tenant
abbrev pub IsPlaced : Catalog → SessionNumber → Session → Type 0
IsPlaced C k s = (kept_set.contains C.repos s.repo ≡ true) × (tenant_of C.tenants s.repo ≡ Some k.0)

-- ---- one field written

module _ (content : Text → Text) (C : Catalog) (consistent : Consistent content C) where
  with_links : (links : kept_set.Set link_cmp) → ((l : Link) → kept_set.contains links l ≡ true → (kept_set.contains C.repos l.0 ≡ true) × (is_some (get C.residents l.1) ≡ true)) → Consistent content (record C { links = links })
  with_links links each = record { repos = consistent.repos; links = λ l h. (each l h).0; kept = λ l h. (each l h).1; manifests = consistent.manifests; sessions = consistent.sessions; owners = consistent.owners; bytes = consistent.bytes }

  -- a blob that is stored already, or stored now
  with_blob : (d : Text) (b : Resident) → b.bytes ≡ content d → Consistent content (record C { residents = insert C.residents d b })
  with_blob d b fits = record {
    repos = consistent.repos;
    links = consistent.links;
    kept = λ l h. still_there nat_list_cmp_total exact_bytes C.residents d l.1 b (consistent.kept l h);
    manifests = consistent.manifests;
    sessions = consistent.sessions;
    owners = consistent.owners;
    bytes = λ q x h. ⊎_elim (λ e. ap (λ (y : Resident). y.bytes) (sym e.1) ∙ fits ∙ ap content (sym e.0)) (consistent.bytes q x) (got-insert nat_list_cmp_total exact_bytes C.residents d b q x h);
  }

  with_manifests : (manifests : FinMap link_cmp Text) → ((l : Link) (b : Text) → get manifests l ≡ Some b → kept_set.contains C.repos l.0 ≡ true) → Consistent content (record C { manifests = manifests })
  with_manifests manifests each = record { repos = consistent.repos; links = consistent.links; kept = consistent.kept; manifests = each; sessions = consistent.sessions; owners = consistent.owners; bytes = consistent.bytes }

  pub with_sessions : (sessions : FinMap session_number_cmp Session) → ((k : SessionNumber) (s : Session) → get sessions k ≡ Some s → IsPlaced C k s) → Consistent content (record C { sessions = sessions })
  with_sessions sessions each = record { repos = consistent.repos; links = consistent.links; kept = consistent.kept; manifests = consistent.manifests; sessions = λ k s h. (each k s h).0; owners = λ k s h. (each k s h).1; bytes = consistent.bytes }

  -- a session that was open before
  pub placed : (k : SessionNumber) (s : Session) → get C.sessions k ≡ Some s → IsPlaced C k s
  placed k s h = (consistent.sessions k s h, consistent.owners k s h)

-- ---- the commands

module _ (content : Text → Text) (C : Catalog) (consistent : Consistent content C) (r : Text) where
  -- a repository that is new
  repos_known : (t : ℕ) → tenant_of C.tenants r ≡ Some t → (q : Text) → kept_set.contains (kept_set.insert C.repos r) q ≡ true → is_some (tenant_of C.tenants q) ≡ true
  repos_known t known q h =
      ⊎_elim (λ e. subst (λ (x : Text). is_some (tenant_of C.tenants x) ≡ true) (sym e) (ap is_some known)) (consistent.repos q) (member nat_list_cmp_total exact_bytes C.repos r q h)

  stays : (q : Text) → kept_set.contains C.repos q ≡ true → kept_set.contains (kept_set.insert C.repos r) q ≡ true
  stays q h = still nat_list_cmp_total exact_bytes C.repos r q h

  is_in : kept_set.contains (kept_set.insert C.repos r) r ≡ true
  is_in = now nat_list_cmp_total exact_bytes C.repos r

  abbrev appeared : Catalog
  appeared = record C { repos = kept_set.insert C.repos r }

  consistent_appeared : (t : ℕ) → tenant_of C.tenants r ≡ Some t → Consistent content appeared
  consistent_appeared t known = record {
    repos = repos_known t known;
    links = λ l h. stays l.0 (consistent.links l h);
    kept = consistent.kept;
    manifests = λ l b h. stays l.0 (consistent.manifests l b h);
    sessions = λ k s h. stays s.repo (consistent.sessions k s h);
    owners = consistent.owners;
    bytes = consistent.bytes;
  }

  consistent_new : (t : ℕ) → tenant_of C.tenants r ≡ Some t → Consistent content (with_new_session C t r)
  consistent_new t known =
      let there = consistent_appeared t known in
      with_sessions content appeared there (insert C.sessions (t, next_number_of C t) new) (λ k s h.
      ⊎_elim (λ e. subst (λ (x : Session). IsPlaced appeared k x) e.1 (is_in, known ∙ ap (λ (y : SessionNumber). Some y.0) (sym e.0))) (placed content appeared there k s)
      (got-insert number_cmp_total exact_number C.sessions (t, next_number_of C t) new k s h))
    where
      new : Session
      new = record { repo = r; chunks = CheckedIn [] }

  consistent_append : (key : SessionNumber) (b : Text) → Consistent content (record C { sessions = after_append_in C.sessions key b })
  consistent_append key b = with_sessions content C consistent (after_append_in C.sessions key b) (λ k s h. at (get C.sessions key) refl k s h)
    where
      at : (o : Option Session) → get C.sessions key ≡ o → (k : SessionNumber) (s : Session) → get (option_map_or (λ s. insert C.sessions key (longer b s)) o C.sessions) k ≡ Some s → IsPlaced C k s
      at None found k s h = placed content C consistent k s h
      at (Some x) found k s h = ⊎_elim (λ e. subst (λ (q : SessionNumber). IsPlaced C q s) (sym e.0) (subst (λ (y : Session). IsPlaced C key y) e.1 (placed content C consistent key x found))) (placed content C consistent k s)
          (got-insert number_cmp_total exact_number C.sessions key (longer b x) k s h)

  consistent_abandon : (key : SessionNumber) → Consistent content (record C { sessions = remove C.sessions key })
  consistent_abandon key = with_sessions content C consistent (remove C.sessions key) (λ k s h. placed content C consistent k s (got-remove number_cmp_total exact_number C.sessions key k s h))

  -- the repository of a session that was checked exists
  repo_there : (f : Session → Result ℕ Refusal) (key : SessionNumber) (o : Option Session) (after : ℕ) → get C.sessions key ≡ o → (session_in o r >>= f) ≡ Ok after → kept_set.contains C.repos r ≡ true
  repo_there f key o after found h =
      let a = bound_ok (session_in o r) f after h in
      let is = session_found o r a.0 a.1 in
      subst (λ (x : Text). kept_set.contains C.repos x ≡ true) is.1 (consistent.sessions key a.0 (found ∙ is.0))

  pub consistent_stored : (t n : ℕ) (d w : Text) → kept_set.contains C.repos r ≡ true → content d ≡ w → Consistent content (with_stored_blob C t r n d w)
  consistent_stored t n d w there fits =
      let kept = with_blob content C consistent d new (sym fits) in
      let linked = with_links content (record C { residents = insert C.residents d new }) kept (kept_set.insert C.links (r, d)) (λ l h.
      ⊎_elim (λ (e : l ≡ (r, d)). subst (λ (x : Link). (kept_set.contains C.repos x.0 ≡ true) × (is_some (get (insert C.residents d new) x.1) ≡ true)) (sym e)
      (there, ap is_some (get-insert_at nat_list_cmp_total exact_bytes C.residents d new)))
      (λ h. (kept.links l h, kept.kept l h)) (member link_cmp_total exact_link C.links (r, d) l h)) in
      with_sessions content (record C { residents = insert C.residents d new; links = kept_set.insert C.links (r, d) }) linked (remove C.sessions (t, n))
      (λ k s h. placed content C consistent k s (got-remove number_cmp_total exact_number C.sessions (t, n) k s h))
    where
      new : Resident
      new = record { bytes = w; condemned = false; lent = Commands.was_leased (get C.residents d) }

  consistent_linked : (t : ℕ) (d : Text) → tenant_of C.tenants r ≡ Some t → is_some (get C.residents d) ≡ true → Consistent content (with_link C r d)
  consistent_linked t d known there =
      let new = consistent_appeared t known in
      with_links content appeared new (kept_set.insert C.links (r, d)) (λ l h.
      ⊎_elim (λ (e : l ≡ (r, d)). subst (λ (x : Link). (kept_set.contains (kept_set.insert C.repos r) x.0 ≡ true) × (is_some (get C.residents x.1) ≡ true)) (sym e) (is_in, there))
      (λ h. (new.links l h, new.kept l h)) (member link_cmp_total exact_link C.links (r, d) l h))

  source_kept : (t : ℕ) (d : Text) (from : Option Text) → has_source C t d from ≡ true → is_some (get C.residents d) ≡ true
  source_kept t d None has = held_kept content C consistent t d has
  source_kept t d (Some q) has = consistent.kept (q, d) (and_parts (is_repo_of C t q) (holds C q d) has).1

  consistent_delete : (d : Text) → Consistent content (record C { links = kept_set.remove C.links (r, d) })
  consistent_delete d = with_links content C consistent (kept_set.remove C.links (r, d)) (λ l h. let was = was_member link_cmp_total exact_link C.links (r, d) l h in (consistent.links l was, consistent.kept l was))

  consistent_put : (t : ℕ) (b : Text) → tenant_of C.tenants r ≡ Some t → Consistent content (with_manifest C r b)
  consistent_put t b known =
      let new = consistent_appeared t known in
      with_manifests content appeared new (insert C.manifests (r, sha256_text b) b) (λ l x h.
      ⊎_elim (λ e. subst (λ (y : Link). kept_set.contains (kept_set.insert C.repos r) y.0 ≡ true) (sym e.0) is_in) (λ h. new.manifests l x h)
      (got-insert link_cmp_total exact_link C.manifests (r, sha256_text b) b l x h))

  consistent_delete_manifest : (m : Text) → Consistent content (record C { manifests = remove C.manifests (r, m) })
  consistent_delete_manifest m = with_manifests content C consistent (remove C.manifests (r, m)) (λ l b h. consistent.manifests l b (got-remove link_cmp_total exact_link C.manifests (r, m) l b h))

  consistent_remove_repo : is_in_use C r ≡ false → Consistent content (without_repo C r)
  consistent_remove_repo unused = record {
    repos = λ q h. consistent.repos q (was_member nat_list_cmp_total exact_bytes C.repos r q h);
    links = λ l h. unused_repo.stays C r unused l.0 (unused_repo.no_link C r unused l h) (consistent.links l h);
    kept = consistent.kept;
    manifests = λ l b h. unused_repo.stays C r unused l.0 (unused_repo.no_manifest C r unused l b h) (consistent.manifests l b h);
    sessions = λ k s h. unused_repo.stays C r unused s.repo (unused_repo.no_open C r unused k s h) (consistent.sessions k s h);
    owners = consistent.owners;
    bytes = consistent.bytes;
  }

  consistent_lease : (d : Text) (b : Resident) → get C.residents d ≡ Some b → Consistent content (with_leased C d b)
  consistent_lease d b found = with_blob content C consistent d (record b { lent = true }) (consistent.bytes d b found)

  consistent_close : (housed : Catalog → Text → Result (Unit {0}) Refusal) (n : ℕ) (d : Text) (g : Option ByteRange) (b : Text) → Fits content (uploaded_pair C.contents d (close_content C r n b)) →
      Leaves (Consistent content) (Commands.close_by housed C r n d g b)
  consistent_close housed n d g b fits = close_leaves (Consistent content) C r housed n d g b (λ t after known checked is.
      consistent_stored t n d (content_in C.sessions (t, n) b) (repo_there _ (t, n) (get C.sessions (t, n)) after refl checked)
      (fits_whole content C t r d b n (length b) after g (ap (λ o. ok_or o NameUnknown) known) checked fits
      (and_parts (is_named C.contents d (content_in C.sessions (t, n) b)) (fits_stored C.contents (get C.residents d) (content_in C.sessions (t, n) b)) is).0))

-- the catalogs after an accepted command, with other tenants present and in the isolated run
pub consistent_command : (content : Text → Text) (C : Catalog) → Consistent content C → (command : Command) → Fits content (uploads_of_command C command) → Leaves (Consistent content) (outcome false C command) × Leaves (Consistent content) (isolated_outcome C command)
consistent_command content C s (runs.Start r) fits = twice (answers_leave (Consistent content) runs.Number _ (start_leaves (Consistent content) C r (consistent_new content C s r)))
consistent_command content C s (runs.Status r n) fits = twice (reading_leave (Consistent content) runs.Number C (Commands.status C r n) s)
consistent_command content C s (runs.Append r n g b) fits = twice (answers_leave (Consistent content) runs.Number _ (append_leaves (Consistent content) C r n g b (λ t _. consistent_append content C s r (t, n) b)))
consistent_command content C s (runs.Close r n d g b) fits =
    (answers_leave (Consistent content) runs.Number _ (consistent_close content C s r has_slot n d g b fits), answers_leave (Consistent content) runs.Number _ (consistent_close content C s r always_has_slot n d g b fits))
consistent_command content C s (runs.Abandon r n) fits = twice (answers_leave (Consistent content) runs.Number _ (abandon_leaves (Consistent content) C r n (λ t _. consistent_abandon content C s r (t, n))))
consistent_command content C s (runs.Mount r d from) fits = twice (answers_leave (Consistent content) runs.Mounting _ (
    mount_leaves (Consistent content) C r d from (consistent_new content C s r) (λ t known has. consistent_linked content C s r t d known (source_kept content C s r t d from has))))
consistent_command content C s (runs.Delete r d) fits = twice (answers_leave (Consistent content) (λ _. runs.Done) _ (delete_leaves (Consistent content) C r d (consistent_delete content C s r d)))
consistent_command content C s (runs.PutManifest r b) fits = twice (answers_leave (Consistent content) runs.Bytes _ (put_leaves (Consistent content) C r b s (λ t known. consistent_put content C s r t b known)))
consistent_command content C s (runs.GetManifest r m) fits = twice (reading_leave (Consistent content) runs.Bytes C (Commands.get_manifest C r m) s)
consistent_command content C s (runs.DeleteManifest r m) fits = twice (answers_leave (Consistent content) (λ _. runs.Done) _ (delete_manifest_leaves (Consistent content) C r m (consistent_delete_manifest content C s r m)))
consistent_command content C s (runs.RemoveRepo r) fits = twice (answers_leave (Consistent content) (λ _. runs.Done) _ (remove_repo_leaves (Consistent content) C r (λ _ unused. consistent_remove_repo content C s r unused)))
consistent_command content C s (runs.Lease r d) fits = twice (answers_leave (Consistent content) runs.Bytes _ (lease_leaves (Consistent content) C r false d (consistent_lease content C s r d)))

-- ---- a sweep

-- a digest that an existing repository contains is no orphan
pub no_orphan : (C : Catalog) (r d : Text) → kept_set.contains C.repos r ≡ true → holds C r d ≡ true → is_orphan C d ≡ false
no_orphan C r d there held =
    let some : list_any (λ q. holds C q d) (kept_set.items C.repos) ≡ true =
    list_any_weaker (eq_by_cmp text_cmp r) (λ q. holds C q d) (λ q tie. subst (λ (x : Text). holds C x d ≡ true) (tied_text r q tie) held)
    (kept_set.items C.repos) (sym (contains_key-keys C.repos r) ∙ there) in
    ne_eqb (link_count C d) 0 (λ e. true≢false (sym some ∙ list_any_count (λ q. holds C q d) (kept_set.items C.repos) ∙ ap (nat_lt 0) e))

pub consistent_sweep : (content : Text → Text) (reached : Text → Bool) (C C' : Catalog) (swept : Swept) → Consistent content C → IsSweepOf reached C swept C' → Consistent content C'
consistent_sweep content reached C C' swept consistent sweep = subst (λ X. Consistent content X) (sym sweep.rest) (record {
  repos = consistent.repos;
  links = consistent.links;
  manifests = consistent.manifests;
  sessions = consistent.sessions;
  owners = consistent.owners;
  kept = λ l h. let b = some_value (get C.residents l.1) (consistent.kept l h) in
      ap is_some (subst (λ o. IsAfterSweep o b.0 (get C'.residents l.1)) (and_right (reached l.1) (is_orphan C l.1) (no_orphan C l.0 l.1 (consistent.links l h) h)) (sweep.orphans l.1 b.0 b.1));
  bytes = λ d b h. at d b (get C.residents d) refl h;
})
  where
    at : (d : Text) (b : Resident) (o : Option Resident) → get C.residents d ≡ o → get C'.residents d ≡ Some b → b.bytes ≡ content d
    at d b None found h = let none = sweep.no_others d found in absurd cc
    at d b (Some x) found h = sym (left_bytes (reached d && is_orphan C d) x b (subst (λ o. IsAfterSweep (reached d && is_orphan C d) x o) h (sweep.orphans d x found))) ∙ consistent.bytes d x found

pub unseen_sweep : (u : ℕ) (reached : Text → Bool) (C C' : Catalog) (swept : Swept) → IsSweepOf reached C swept C' → Alike u C' C
unseen_sweep u reached C C' swept sweep = subst (λ X. Alike u X C) (sym sweep.rest) (alike_itself u C)
