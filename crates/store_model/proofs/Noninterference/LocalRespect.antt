-- A command changes nothing for any other tenant, and keeps the catalog consistent.
use Rattle.std.proofs.Common.{◌≡◌, ℕ, ◌+◌, Bool, true, false, not, List, [], length, Option, Some, None, Result, Ok, Err, refl, sym, ap, ◌∙◌, get_or-set_other}
use Rattle.std.specs.Prelude.{◌==◌, nat_lt, nat_eq, if◌then◌else◌}
use Rattle.std.specs.Option.{option_map_or, option_eq, ok_or}
use Rattle.std.specs.Cmp.Lexicographic.{nat_list_cmp_total}
use Rattle.std.specs.FinMap.{FinMap, get, insert, remove}
use Rattle.std.proofs.lemmas.Bool.{eqb-false, not-false}
use Rattle.std.proofs.lemmas.List.{length-set}
use Rattle.std.proofs.lemmas.Map.Lookups.{exact_bytes}
use Rattle.blob_digest.specs.declared.range.ByteRange.{ByteRange}
use Rattle.blob_digest.specs.declared.refusal.Refusal.{Refusal}
use Rattle.blob_digest.specs.declared.refusal.Refusal.TheVariants.{NameUnknown, DigestInvalid, SizeInvalid, BlobUnknown, ManifestInvalid, ManifestUnknown, TooManyReaders, LimitReached, RepoInUse}
use Rattle.blob_digest.specs.Digests.{sha256_text}
use Rattle.spec_lib.specs.Sets as kept_set
use Rattle.oci_manifest.specs.Manifests.{refs_of, max_manifest}
use Rattle.spec_lib.specs.Texts.{Text}
use Rattle.store_model.specs.Catalog.{SessionNumber, CheckedIn, Session, Resident, Catalog, Tenant, session_number_cmp, tenant_of, is_repo_of, next_number_of}
use Rattle.store_model.specs.Commands
use Rattle.spec_lib.specs.Outcomes.{◌>>=◌, refuse}
use Rattle.store_model.specs.Commands.{Outcome, tenant, session_in, not_busy, length_after, with_new_session, after_append_in, content_in, is_digest_accepted, fits_stored, with_stored_blob, has_source, with_link, with_manifest, with_leased, check_link, linked_blob, lacks_room_for, cannot_open, has_manifest, is_full_of_manifests, check_all_links, check_no_referrer, check_quota, check_repo, check_share, has_slot, is_in_use, without_repo}
use Rattle.store_model.specs.declared.mount.Mount.TheVariants as mounting
use Rattle.store_model.specs.Noninterference.{AreTenantsAlike}
use Rattle.store_model.specs.Runs as runs
use Rattle.store_model.specs.Runs.{Command, Answer, map_outcome, reading_outcome, outcome, repo_of}
use Rattle.blob_digest.proofs.KeyOrders.{number_cmp_total, exact_number, link_cmp_total, exact_link}
use Rattle.spec_lib.proofs.Outcomes.{bound_ok, not_refused, some_of_ok}
use Rattle.spec_lib.proofs.Agreement.{AgreeOn, unseen_insert, unseen_remove}
use Rattle.store_model.proofs.Noninterference.SameFor.{Alike, of_same, visible, with_repos, with_links, with_manifests, with_sessions}
use Rattle.store_model.proofs.Noninterference.StepConsistency.{longer}

-- the catalog after an accepted command
abbrev pub Leaves : {A : Type 0} → (Catalog → Type 0) → Outcome A → Type 0
Leaves P (Ok x) = P x.1
Leaves P (Err e) = Unit {0}

-- ---- lines of an outcome

module _ (P : Catalog → Type 0) where
  pub past : {A X : Type 0} (x : Result X Refusal) (f : X → Outcome A) → ((a : X) → x ≡ Ok a → Leaves P (f a)) → Leaves P (x >>= f)
  past (Ok a) f h = h a refl
  past (Err e) f h = tt

  either : {A : Type 0} (b : Bool) (x y : Outcome A) → (b ≡ true → Leaves P x) → (b ≡ false → Leaves P y) → Leaves P (if b then x else y)
  either true x y at_true at_false = at_true refl
  either false x y at_true at_false = at_false refl

  pub answers_leave : {A : Type 0} (f : A → Answer) (x : Outcome A) → Leaves P x → Leaves P (map_outcome f x)
  answers_leave f (Ok x) h = h
  answers_leave f (Err e) h = tt

  pub reading_leave : {A : Type 0} (f : A → Answer) (C : Catalog) (x : Result A Refusal) → P C → Leaves P (reading_outcome f C x)
  reading_leave f C (Ok x) same = same
  reading_leave f C (Err e) same = tt

  started_leave : (x : Outcome ℕ) → Leaves P x → Leaves P (x >>= λ s. Ok (mounting.Session s.0, s.1))
  started_leave (Ok x) h = h
  started_leave (Err e) h = tt

  -- ---- the catalog after each command

  module _ (C : Catalog) (r : Text) where
    pub of_tenant : {A : Type 0} (f : ℕ → Outcome A) → ((t : ℕ) → tenant_of C.tenants r ≡ Some t → Leaves P (f t)) → Leaves P (tenant C r >>= f)
    of_tenant f h = past (tenant C r) f (λ t e. h t (some_of_ok (tenant_of C.tenants r) NameUnknown t e))

    pub start_leaves : ((t : ℕ) → tenant_of C.tenants r ≡ Some t → P (with_new_session C t r)) → Leaves P (Commands.start C r)
    start_leaves new = of_tenant _ (λ t k. past (refuse (lacks_room_for C t r) LimitReached) _ (λ _ _. past (refuse (cannot_open C t) LimitReached) _ (λ _ _. new t k)))

    pub append_leaves : (n : ℕ) (g : Option ByteRange) (b : Text) → ((t : ℕ) → tenant_of C.tenants r ≡ Some t → P (record C { sessions = after_append_in C.sessions (t, n) b })) → Leaves P (Commands.append C r n g b)
    append_leaves n g b new = of_tenant _ (λ t k. past (Commands.chunk_length_check C t r n g (length b)) _ (λ _ _. past (check_quota C t (length b)) _ (λ _ _. new t k)))

    pub close_leaves : (housed : Catalog → Text → Result (Unit {0}) Refusal) (n : ℕ) (d : Text) (g : Option ByteRange) (b : Text) →
        ((t after : ℕ) → tenant_of C.tenants r ≡ Some t → Commands.chunk_length_check C t r n g (length b) ≡ Ok after → is_digest_accepted C d (content_in C.sessions (t, n) b) ≡ true → P (with_stored_blob C t r n d (content_in C.sessions (t, n) b))) →
        Leaves P (Commands.close_by housed C r n d g b)
    close_leaves housed n d g b new =
        of_tenant _ (λ t k. past (Commands.chunk_length_check C t r n g (length b)) _ (λ after checked. past (check_quota C t (length b)) _ (λ _ _. past (refuse (not (is_digest_accepted C d (content_in C.sessions (t, n) b))) DigestInvalid) _ (λ u h. past (check_share C t d) _ (λ _ _. past (housed C d) _ (λ _ _. new t after k checked (not-false (is_digest_accepted C d (content_in C.sessions (t, n) b)) (not_refused _ _ _ h))))))))

    pub abandon_leaves : (n : ℕ) → ((t : ℕ) → tenant_of C.tenants r ≡ Some t → P (record C { sessions = remove C.sessions (t, n) })) → Leaves P (Commands.abandon C r n)
    abandon_leaves n new = of_tenant _ (λ t k. past (Commands.session C t r n) _ (λ s _. past (not_busy s.chunks) _ (λ _ _. new t k)))

    pub mount_leaves : (d : Text) (from : Option Text) → ((t : ℕ) → tenant_of C.tenants r ≡ Some t → P (with_new_session C t r)) →
        ((t : ℕ) → tenant_of C.tenants r ≡ Some t → has_source C t d from ≡ true → P (with_link C r d)) → Leaves P (Commands.mount C r d from)
    mount_leaves d from new linked = of_tenant _ (λ t k. either (has_source C t d from) _ _ (λ has. past (refuse (lacks_room_for C t r) LimitReached) _ (λ _ _. linked t k has)) (λ _. started_leave (Commands.start C r) (start_leaves new)))

    pub delete_leaves : (d : Text) → P (record C { links = kept_set.remove C.links (r, d) }) → Leaves P (Commands.delete C r d)
    delete_leaves d new = of_tenant _ (λ t k. past (Commands.check_link C r d) _ (λ _ _. past (check_no_referrer (Commands.referrer C r d)) _ (λ _ _. new)))

    pub put_leaves : (b : Text) → P C → ((t : ℕ) → tenant_of C.tenants r ≡ Some t → P (with_manifest C r b)) → Leaves P (Commands.put_manifest C r b)
    put_leaves b same new =
        of_tenant _ (λ t k. past (refuse (nat_lt max_manifest (length b)) SizeInvalid) _ (λ _ _. past (ok_or (refs_of b) ManifestInvalid) _ (λ refs _. past (check_all_links C r refs) _ (λ _ _.
        either (has_manifest C r (sha256_text b)) _ _ (λ _. same) (λ _. past (refuse (lacks_room_for C t r) LimitReached) _ (λ _ _. past (refuse (is_full_of_manifests C t r) LimitReached) _ (λ _ _. new t k)))))))

    pub delete_manifest_leaves : (m : Text) → P (record C { manifests = remove C.manifests (r, m) }) → Leaves P (Commands.delete_manifest C r m)
    delete_manifest_leaves m new = of_tenant _ (λ t k. past (ok_or (get C.manifests (r, m)) ManifestUnknown) _ (λ _ _. new))

    pub remove_repo_leaves : (kept_set.contains C.repos r ≡ true → is_in_use C r ≡ false → P (without_repo C r)) → Leaves P (Commands.remove_repo C r)
    remove_repo_leaves new = of_tenant _ (λ t k. past (check_repo C r) _ (λ _ there. past (refuse (is_in_use C r) RepoInUse) _ (λ _ unused. new (not-false _ (not_refused _ _ _ there)) (not_refused _ _ _ unused))))

    pub lease_leaves : (crowded : Bool) (d : Text) → ((b : Resident) → get C.residents d ≡ Some b → P (with_leased C d b)) → Leaves P (Commands.lease crowded C r d)
    lease_leaves crowded d new = of_tenant _ (λ t k. past (linked_blob C r d) _ (λ b found. past (refuse crowded TooManyReaders) _ (λ _ _.
        let is = bound_ok (check_link C r d) _ b found in
        new b (some_of_ok (get C.residents d) BlobUnknown b is.2))))

-- ---- another tenant sees nothing

pub tenants_alike_themselves : (t : ℕ) (tenants : List Tenant) → AreTenantsAlike t tenants tenants
tenants_alike_themselves t tenants = record { names = refl; settings = refl }

pub alike_itself : (t : ℕ) (C : Catalog) → Alike t C C
alike_itself t C = record {
  tenants = tenants_alike_themselves t C.tenants;
  contents = refl;
  numbers = refl;
  next = refl;
  repos = λ q is. refl;
  links = λ q is. refl;
  manifests = λ q is. refl;
  sessions = λ q is. refl;
}

pub alike_through : (t : ℕ) (B C D : Catalog) → Alike t B C → Alike t C D → Alike t B D
alike_through t B C D b c = record {
  tenants = record { names = b.tenants.names ∙ c.tenants.names; settings = b.tenants.settings ∙ c.tenants.settings };
  contents = b.contents ∙ c.contents;
  numbers = b.numbers ∙ c.numbers;
  next = b.next ∙ c.next;
  repos = λ q is. b.repos q is ∙ c.repos q (sym (of_same t B C b q) ∙ is);
  links = λ q is. b.links q is ∙ c.links q (sym (of_same t B C b q.0) ∙ is);
  manifests = λ q is. b.manifests q is ∙ c.manifests q (sym (of_same t B C b q.0) ∙ is);
  sessions = λ q is. b.sessions q is ∙ c.sessions q is;
}

unseen_append : (p : SessionNumber → Bool) (m : FinMap session_number_cmp Session) (k : SessionNumber) (b : Text) → p k ≡ false → AgreeOn p (after_append_in m k b) m
unseen_append p m k b off = at (get m k)
  where
    at : (o : Option Session) → AgreeOn p (option_map_or (λ s. insert m k (longer b s)) o m) m
    at None = λ q is. refl
    at (Some s) = unseen_insert number_cmp_total exact_number p m k (longer b s) off

module _ (C : Catalog) (u : ℕ) (r : Text) (other : is_repo_of C u r ≡ false) where
  abbrev Unseen : Catalog → Type 0
  Unseen X = Alike u X C

  pub apart : (t : ℕ) → tenant_of C.tenants r ≡ Some t → (t == u) ≡ false
  apart t k = ap (λ o. option_eq nat_eq o (Some u)) (sym k) ∙ other

  unseen_new : (t : ℕ) → tenant_of C.tenants r ≡ Some t → Unseen (with_new_session C t r)
  unseen_new t k = record {
    tenants = tenants_alike_themselves u C.tenants;
    contents = refl;
    numbers = length-set C.next t (next_number_of C t + 1);
    next = get_or-set_other C.next t u (next_number_of C t + 1) 0 (λ e. eqb-false t u (apart t k) (sym e));
    repos = unseen_insert nat_list_cmp_total exact_bytes (is_repo_of C u) C.repos r tt other;
    links = λ q is. refl;
    manifests = λ q is. refl;
    sessions = unseen_insert number_cmp_total exact_number (λ n. n.0 == u) C.sessions (t, next_number_of C t) (record { repo = r; chunks = CheckedIn [] }) (apart t k);
  }

  unseen_sessions : (m : FinMap session_number_cmp Session) → AgreeOn (λ n. n.0 == u) m C.sessions → Unseen (record C { sessions = m })
  unseen_sessions m agree = with_sessions u (visible C) (visible C) (alike_itself u C) m C.sessions agree

  pub unseen_close : (housed : Catalog → Text → Result (Unit {0}) Refusal) (n : ℕ) (d : Text) (g : Option ByteRange) (b : Text) → Leaves Unseen (Commands.close_by housed C r n d g b)
  unseen_close housed n d g b = close_leaves Unseen C r housed n d g b (λ t after k _ _. with_sessions u _ _ (with_links u (visible C) (visible C) (alike_itself u C) _ C.links (unseen_insert link_cmp_total exact_link (λ l. is_repo_of C u l.0) C.links (r, d) tt other)) _ C.sessions (unseen_remove number_cmp_total exact_number (λ n. n.0 == u) C.sessions (t, n) (apart t k)))

  pub unseen_mount : (d : Text) (from : Option Text) → Leaves Unseen (Commands.mount C r d from)
  unseen_mount d from = mount_leaves Unseen C r d from unseen_new (λ t k _. with_links u _ _ (with_repos u (visible C) (visible C) (alike_itself u C) _ C.repos (unseen_insert nat_list_cmp_total exact_bytes (is_repo_of C u) C.repos r tt other)) _ C.links (unseen_insert link_cmp_total exact_link (λ l. is_repo_of C u l.0) C.links (r, d) tt other))

  pub unseen_delete : (d : Text) → Leaves Unseen (Commands.delete C r d)
  unseen_delete d = delete_leaves Unseen C r d (with_links u (visible C) (visible C) (alike_itself u C) _ C.links (unseen_remove link_cmp_total exact_link (λ l. is_repo_of C u l.0) C.links (r, d) other))

  pub unseen_put : (b : Text) → Leaves Unseen (Commands.put_manifest C r b)
  unseen_put b = put_leaves Unseen C r b (alike_itself u C) (λ t k. with_manifests u _ _ (with_repos u (visible C) (visible C) (alike_itself u C) _ C.repos (unseen_insert nat_list_cmp_total exact_bytes (is_repo_of C u) C.repos r tt other)) _ C.manifests (unseen_insert link_cmp_total exact_link (λ l. is_repo_of C u l.0) C.manifests (r, sha256_text b) b other))

  pub unseen_delete_manifest : (m : Text) → Leaves Unseen (Commands.delete_manifest C r m)
  unseen_delete_manifest m = delete_manifest_leaves Unseen C r m (with_manifests u (visible C) (visible C) (alike_itself u C) _ C.manifests (unseen_remove link_cmp_total exact_link (λ l. is_repo_of C u l.0) C.manifests (r, m) other))

  pub unseen_remove_repo : Leaves Unseen (Commands.remove_repo C r)
  unseen_remove_repo = remove_repo_leaves Unseen C r (λ _ _. with_repos u (visible C) (visible C) (alike_itself u C) _ C.repos (unseen_remove nat_list_cmp_total exact_bytes (is_repo_of C u) C.repos r other))

  pub unseen_lease : (crowded : Bool) (d : Text) → Leaves Unseen (Commands.lease crowded C r d)
  unseen_lease crowded d = lease_leaves Unseen C r crowded d (λ b found. alike_itself u C)

  pub unseen_start : Leaves Unseen (Commands.start C r)
  unseen_start = start_leaves Unseen C r unseen_new

  pub unseen_add : (n : ℕ) (g : Option ByteRange) (b : Text) → Leaves Unseen (Commands.append C r n g b)
  unseen_add n g b = append_leaves Unseen C r n g b (λ t k. unseen_sessions (after_append_in C.sessions (t, n) b) (unseen_append (λ n. n.0 == u) C.sessions (t, n) b (apart t k)))

  pub unseen_abandon : (n : ℕ) → Leaves Unseen (Commands.abandon C r n)
  unseen_abandon n = abandon_leaves Unseen C r n (λ t k. unseen_sessions (remove C.sessions (t, n)) (unseen_remove number_cmp_total exact_number (λ n. n.0 == u) C.sessions (t, n) (apart t k)))

pub unseen_command : (C : Catalog) (u : ℕ) (command : Command) → is_repo_of C u (repo_of command) ≡ false → Leaves (λ X. Alike u X C) (outcome false C command)
unseen_command C u (runs.Start r) other = answers_leave (λ X. Alike u X C) runs.Number _ (unseen_start C u r other)
unseen_command C u (runs.Status r n) other = reading_leave (λ X. Alike u X C) runs.Number C (Commands.status C r n) (alike_itself u C)
unseen_command C u (runs.Append r n g b) other = answers_leave (λ X. Alike u X C) runs.Number _ (unseen_add C u r other n g b)
unseen_command C u (runs.Close r n d g b) other = answers_leave (λ X. Alike u X C) runs.Number _ (unseen_close C u r other has_slot n d g b)
unseen_command C u (runs.Abandon r n) other = answers_leave (λ X. Alike u X C) runs.Number _ (unseen_abandon C u r other n)
unseen_command C u (runs.Mount r d from) other = answers_leave (λ X. Alike u X C) runs.Mounting _ (unseen_mount C u r other d from)
unseen_command C u (runs.Delete r d) other = answers_leave (λ X. Alike u X C) (λ _. runs.Done) _ (unseen_delete C u r other d)
unseen_command C u (runs.PutManifest r b) other = answers_leave (λ X. Alike u X C) runs.Bytes _ (unseen_put C u r other b)
unseen_command C u (runs.GetManifest r m) other = reading_leave (λ X. Alike u X C) runs.Bytes C (Commands.get_manifest C r m) (alike_itself u C)
unseen_command C u (runs.DeleteManifest r m) other = answers_leave (λ X. Alike u X C) (λ _. runs.Done) _ (unseen_delete_manifest C u r other m)
unseen_command C u (runs.RemoveRepo r) other = answers_leave (λ X. Alike u X C) (λ _. runs.Done) _ (unseen_remove_repo C u r other)
unseen_command C u (runs.Lease r d) other = answers_leave (λ X. Alike u X C) runs.Bytes _ (unseen_lease C u r other false d)

-- the tenants stay as they are
pub tenants_stay : (C : Catalog) (command : Command) → Leaves (λ X. X.tenants ≡ C.tenants) (outcome false C command)
tenants_stay C (runs.Start r) = answers_leave (λ X. X.tenants ≡ C.tenants) runs.Number _ (start_leaves (λ X. X.tenants ≡ C.tenants) C r (λ t _. refl))
tenants_stay C (runs.Status r n) = reading_leave (λ X. X.tenants ≡ C.tenants) runs.Number C (Commands.status C r n) refl
tenants_stay C (runs.Append r n g b) = answers_leave (λ X. X.tenants ≡ C.tenants) runs.Number _ (append_leaves (λ X. X.tenants ≡ C.tenants) C r n g b (λ t _. refl))
tenants_stay C (runs.Close r n d g b) = answers_leave (λ X. X.tenants ≡ C.tenants) runs.Number _ (close_leaves (λ X. X.tenants ≡ C.tenants) C r has_slot n d g b (λ t after _ _ _. refl))
tenants_stay C (runs.Abandon r n) = answers_leave (λ X. X.tenants ≡ C.tenants) runs.Number _ (abandon_leaves (λ X. X.tenants ≡ C.tenants) C r n (λ t _. refl))
tenants_stay C (runs.Mount r d from) = answers_leave (λ X. X.tenants ≡ C.tenants) runs.Mounting _ (mount_leaves (λ X. X.tenants ≡ C.tenants) C r d from (λ t _. refl) (λ t _ _. refl))
tenants_stay C (runs.Delete r d) = answers_leave (λ X. X.tenants ≡ C.tenants) (λ _. runs.Done) _ (delete_leaves (λ X. X.tenants ≡ C.tenants) C r d refl)
tenants_stay C (runs.PutManifest r b) = answers_leave (λ X. X.tenants ≡ C.tenants) runs.Bytes _ (put_leaves (λ X. X.tenants ≡ C.tenants) C r b refl (λ t _. refl))
tenants_stay C (runs.GetManifest r m) = reading_leave (λ X. X.tenants ≡ C.tenants) runs.Bytes C (Commands.get_manifest C r m) refl
tenants_stay C (runs.DeleteManifest r m) = answers_leave (λ X. X.tenants ≡ C.tenants) (λ _. runs.Done) _ (delete_manifest_leaves (λ X. X.tenants ≡ C.tenants) C r m refl)
tenants_stay C (runs.RemoveRepo r) = answers_leave (λ X. X.tenants ≡ C.tenants) (λ _. runs.Done) _ (remove_repo_leaves (λ X. X.tenants ≡ C.tenants) C r (λ _ _. refl))
tenants_stay C (runs.Lease r d) = answers_leave (λ X. X.tenants ≡ C.tenants) runs.Bytes _ (lease_leaves (λ X. X.tenants ≡ C.tenants) C r false d (λ b _. refl))
