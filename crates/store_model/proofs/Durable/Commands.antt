-- An accepted command and its change keep the agreement of the durable state with the catalog.
use Rattle.std.proofs.Common.{◌≡◌, ◌≢◌, ℕ, ◌+◌, Bool, true, false, List, [], ◌++◌, length, Option, Some, Result, Ok, Err, refl, sym, ap, ◌∙◌, subst}
use Rattle.std.specs.Prelude.{nat_lt, slice_set, if◌then◌else◌}
use Rattle.std.specs.Option.{ok_or, option_map_or}
use Rattle.std.specs.Cmp.Lexicographic.{nat_list_cmp_total}
use Rattle.std.specs.FinMap.{contains_key, get, insert, remove}
use Rattle.std.specs.List.{AllByRecursion, concat}
use Rattle.std.proofs.lemmas.Map.Lookups.{exact_bytes}
use Rattle.blob_digest.specs.declared.range.ByteRange.{ByteRange}
use Rattle.blob_digest.specs.declared.refusal.Refusal.{Refusal}
use Rattle.blob_digest.specs.declared.refusal.Refusal.TheVariants.{LimitReached, ManifestInvalid, NameUnknown, SizeInvalid}
use Rattle.blob_digest.specs.Digests.{sha256_text}
use Rattle.oci_manifest.specs.Manifests.{max_manifest, refs_of}
use Rattle.spec_lib.specs.Outcomes.{refuse}
use Rattle.spec_lib.specs.Sets as set
use Rattle.spec_lib.specs.Texts.{Text}
use Rattle.spec_lib.proofs.Outcomes.{bound_ok, ok_pair, some_of_ok}
use Rattle.spec_lib.proofs.Sets.{now}
use Rattle.store_model.specs.Catalog.{Catalog, CheckedIn, Chunks, Resident, SessionNumber, holds, next_number_of, tenant_of}
use Rattle.store_model.specs.Commands
use Rattle.store_model.specs.Commands.{Outcome, add_manifest, cannot_open, check_all_links, check_quota, chunk_length_check, has_manifest, has_slot, has_source, is_full_of_manifests, lacks_room_for, mounted_outcome, start, started_outcome, tenant, was_leased, with_link, with_manifest, with_new_session, with_stored_blob}
use Rattle.store_model.specs.Durable.{Agrees, AgreesOnChunks, BlobLinked, BlobUnlinked, DurableState, ManifestDeleted, ManifestPut, RepoRemoved, SessionOpened, SessionSealed, TakenSessions, after_change, chunk_change, command_change, mount_change, session_key}
use Rattle.store_model.specs.Runs as runs
use Rattle.store_model.specs.Runs.{Answer, Command, map_outcome, outcome, reading_outcome}
use Rattle.store_model.specs.Sessions.{Sessions, after_append_in, at_home, content_in, with_chunk, with_chunks}
use Rattle.store_model.specs.declared.mount.Mount.{Mount}
use Rattle.store_model.specs.declared.mount.Mount.TheVariants as mounting
use Rattle.store_model.proofs.Commands.Accepted.{answer_by, left_by}
use Rattle.store_model.proofs.Commands.Hands.{Checked, checked_home}
use Rattle.store_model.proofs.Commands.Mount.{source_of}
use Rattle.store_model.proofs.Durable.Agreement.{Agrees-add_repo, Agrees-drop, Agrees-link, Agrees-manifests, Agrees-mark, Agrees-open, Agrees-receive, Agrees-remove_repo, Agrees-seal, Agrees-set_next, Agrees-unlink, after_record, durable_session}
use Rattle.store_model.proofs.Noninterference.LocalRespect.{Leaves, abandon_leaves, close_leaves, delete_leaves, delete_manifest_leaves, lease_leaves, of_tenant, past, remove_repo_leaves}

-- a property of the catalog after an accepted outcome
pub left_ok : {A : Type 0} (P : Catalog → Type 0) (x : Outcome A) (a : A) (X : Catalog) → Leaves P x → x ≡ Ok (a, X) → P X
left_ok P x a X leaves is = subst (λ y. Leaves P y) is leaves

pub answered_ok : {A B : Type 0} (f : A → B) (x : Outcome A) (b : B) (X : Catalog) → map_outcome f x ≡ Ok (b, X) → (a : A) × (x ≡ Ok (a, X)) × (f a ≡ b)
answered_ok f (Ok x) b X is = let both = ok_pair is in (x.0, ap (λ Y. Ok (x.0, Y)) both.1, both.0)
answered_ok f (Err e) b X is = absurd cc

reading_ok : {A : Type 0} (f : A → Answer) (C : Catalog) (x : Result A Refusal) (b : Answer) (X : Catalog) → reading_outcome f C x ≡ Ok (b, X) → C ≡ X
reading_ok f C (Ok x) b X is = (ok_pair is).1
reading_ok f C (Err e) b X is = absurd cc

-- the key of a known tenant's session
key_is : (C : Catalog) (r : Text) (t n : ℕ) → tenant_of C.tenants r ≡ Some t → session_key C.tenants r n ≡ (t, n)
key_is C r t n known = ap (λ o. (option_map_or (λ t. t) o 0, n)) known

module _ (taken : TakenSessions) (D : DurableState) (C : Catalog) (a : Agrees taken D C) where
  -- ---- repositories and sessions

  opens : (t : ℕ) (r : Text) → Agrees taken (after_change D (SessionOpened r (t, next_number_of C t))) (with_new_session C t r)
  opens t r =
      let D' : DurableState = record D { repos = set.insert D.repos r; next = slice_set D.next t (next_number_of C t + 1) } in
      let C' : Catalog = record C { repos = set.insert C.repos r; next = slice_set C.next t (next_number_of C t + 1) } in
      let there : Agrees taken D' C' = Agrees-set_next taken (record D { repos = set.insert D.repos r }) (record C { repos = set.insert C.repos r }) (Agrees-add_repo taken D C a r) (λ next. slice_set next t (next_number_of C t + 1)) in
      Agrees-open taken D' C' there (t, next_number_of C t) r (now nat_list_cmp_total exact_bytes C.repos r)

  started : (r : Text) (n : ℕ) (X : Catalog) → start C r ≡ Ok (n, X) → Agrees taken (after_change D (SessionOpened r (session_key C.tenants r n))) X
  started r n X is =
      let b = bound_ok (tenant C r) _ (n, X) is in
      let c = bound_ok (refuse (lacks_room_for C b.0 r) LimitReached) _ (n, X) b.2 in
      let d = bound_ok (refuse (cannot_open C b.0) LimitReached) _ (n, X) c.2 in
      let known = some_of_ok (tenant_of C.tenants r) NameUnknown b.0 b.1 in
      let number : next_number_of C b.0 ≡ n = answer_by d.2 in
      let left : with_new_session C b.0 r ≡ X = left_by d.2 in
      subst (λ (k : SessionNumber). Agrees taken (after_change D (SessionOpened r k)) X) (sym (key_is C r b.0 n known ∙ ap (λ (m : ℕ). (b.0, m)) (sym number)))
      (subst (λ (Y : Catalog). Agrees taken (after_change D (SessionOpened r (b.0, next_number_of C b.0))) Y) left (opens b.0 r))

  -- the durable chunks of a checked-in session
  pub durable_checked_in : (t n : ℕ) (r : Text) (len : ℕ) (c : Checked C t n r len) → (get D.sessions (t, n) ≡ Some (record { repo = c.s.repo; chunks = CheckedIn c.chunks })) × AllByRecursion (λ x. x ≢ []) c.chunks
  durable_checked_in t n r len c =
      let is = durable_session taken D C a (t, n) c.s c.found in
      let same : c.chunks ≡ is.0 = home_is c.s.chunks c.home is.0 is.3 in
      (is.1 ∙ ap (λ cs. Some (record { repo = c.s.repo; chunks = CheckedIn cs })) (sym same), subst (λ cs. AllByRecursion (λ x. x ≢ []) cs) (sym same) is.2)
    where
      home_is : (x : Chunks) → x ≡ CheckedIn c.chunks → (kept : List Text) → AgreesOnChunks (get taken (t, n)) c.s.repo x kept → c.chunks ≡ kept
      home_is x home kept has = subst (λ y. AgreesOnChunks (get taken (t, n)) c.s.repo y kept) home has

  appended : (r : Text) (n : ℕ) (g : Option ByteRange) (b : Text) → Leaves (λ X. Agrees taken (after_record D (chunk_change (session_key C.tenants r n) b)) X) (Commands.append C r n g b)
  appended r n g b = of_tenant P C r _ (λ t known. past P (chunk_length_check C t r n g (length b)) _ (λ after checked. past P (check_quota C t (length b)) _ (λ _ _.
      let c = checked_home C t n r g (length b) after checked in
      let added : after_append_in C.sessions (t, n) b ≡ with_chunks C.sessions (t, n) c.s (CheckedIn (with_chunk c.chunks b)) = rw c.found (ap (λ cs. with_chunks C.sessions (t, n) c.s (CheckedIn (with_chunk cs b))) (ap at_home c.home)) in
      subst (λ (k : SessionNumber). Agrees taken (after_record D (chunk_change k b)) (record C { sessions = after_append_in C.sessions (t, n) b })) (sym (key_is C r t n known))
      (subst (λ (m : Sessions). Agrees taken (after_record D (chunk_change (t, n) b)) (record C { sessions = m })) (sym added)
      (let kept = durable_checked_in t n r (length b) c in Agrees-receive taken D C a (t, n) c.s c.chunks b c.found kept.0 kept.1)))))
    where
      P : Catalog → Type 0
      P X = Agrees taken (after_record D (chunk_change (session_key C.tenants r n) b)) X

  closed : (r : Text) (n : ℕ) (d : Text) (g : Option ByteRange) (b : Text) → Leaves (λ X. Agrees taken (after_change D (SessionSealed (session_key C.tenants r n) d b)) X) (Commands.close C r n d g b)
  closed r n d g b = close_leaves (λ X. Agrees taken (after_change D (SessionSealed (session_key C.tenants r n) d b)) X) C r has_slot n d g b (λ t after known checked _.
      let c = checked_home C t n r g (length b) after checked in
      let whole : content_in C.sessions (t, n) b ≡ concat c.chunks ++ b = rw c.found (ap (λ cs. concat cs ++ b) (ap at_home c.home)) in
      let blob : Resident = record { bytes = content_in C.sessions (t, n) b; condemned = false; lent = was_leased (get C.residents d) } in
      subst (λ (k : SessionNumber). Agrees taken (after_change D (SessionSealed k d b)) (with_stored_blob C t r n d (content_in C.sessions (t, n) b))) (sym (key_is C r t n known))
      (subst (λ (q : Text). Agrees taken (after_change D (SessionSealed (t, n) d b)) (with_stored_blob C t q n d (content_in C.sessions (t, n) b))) c.of_repo
      (Agrees-seal taken D C a (t, n) c.s c.chunks d b blob c.found (durable_checked_in t n r (length b) c).0 whole)))

  given_up : (r : Text) (n : ℕ) → Leaves (λ X. Agrees taken (record D { sessions = remove D.sessions (session_key C.tenants r n) }) X) (Commands.abandon C r n)
  given_up r n = abandon_leaves (λ X. Agrees taken (record D { sessions = remove D.sessions (session_key C.tenants r n) }) X) C r n (λ t known.
      subst (λ (k : SessionNumber). Agrees taken (record D { sessions = remove D.sessions k }) (record C { sessions = remove C.sessions (t, n) })) (sym (key_is C r t n known)) (Agrees-drop taken D C a (t, n)))

  -- ---- links

  links : (r d q : Text) → holds C q d ≡ true → Agrees taken (after_change D (BlobLinked r d)) (with_link C r d)
  links r d q has = Agrees-link taken (record D { repos = set.insert D.repos r }) (record C { repos = set.insert C.repos r }) (Agrees-add_repo taken D C a r) r d (now nat_list_cmp_total exact_bytes C.repos r) (a.contents (q, d) has)

  mounted : (r d : Text) (from : Option Text) (m : Mount) (X : Catalog) → Commands.mount C r d from ≡ Ok (m, X) → Agrees taken (after_change D (mount_change C.tenants r d m)) X
  mounted r d from m X is =
      let b = bound_ok (tenant C r) _ (m, X) is in
      elim (has_source C b.0 d from) as (λ x. has_source C b.0 d from ≡ x → (if x then mounted_outcome C b.0 r d else started_outcome C r) ≡ Ok (m, X) → Agrees taken (after_change D (mount_change C.tenants r d m)) X) [
        | true ↦ λ has h.
            let c = bound_ok (refuse (lacks_room_for C b.0 r) LimitReached) _ (m, X) h in
            let source = source_of C b.0 d from has in
            let answer : mounting.Mounted ≡ m = answer_by c.2 in
            let left : with_link C r d ≡ X = left_by c.2 in
            subst (λ (y : Mount). Agrees taken (after_change D (mount_change C.tenants r d y)) X) answer (subst (λ (Y : Catalog). Agrees taken (after_change D (BlobLinked r d)) Y) left (links r d source.0 source.2))
        | false ↦ λ has h.
            let c = bound_ok (start C r) _ (m, X) h in
            let answer : mounting.Session c.0.0 ≡ m = answer_by c.2 in
            let left : c.0.1 ≡ X = left_by c.2 in
            subst (λ (y : Mount). Agrees taken (after_change D (mount_change C.tenants r d y)) X) answer (subst (λ (Y : Catalog). Agrees taken (after_change D (SessionOpened r (session_key C.tenants r c.0.0))) Y) left (started r c.0.0 c.0.1 c.1))
      ] refl b.2

  -- ---- manifests

  described : (r b : Text) → Leaves (λ X. Agrees taken (after_change D (ManifestPut r b)) X) (Commands.put_manifest C r b)
  described r b = of_tenant P C r _ (λ t known. past P (refuse (nat_lt max_manifest (length b)) SizeInvalid) _ (λ _ _. past P (ok_or (refs_of b) ManifestInvalid) _ (λ refs _. past P (check_all_links C r refs) _ (λ _ _. by t (has_manifest C r (sha256_text b)) refl))))
    where
      P : Catalog → Type 0
      P X = Agrees taken (after_change D (ManifestPut r b)) X

      there : (x : Bool) → has_manifest C r (sha256_text b) ≡ x → (X : Catalog) →
          Agrees taken (if x then D else record D { repos = set.insert D.repos r; manifests = insert D.manifests (r, sha256_text b) b }) X → P X
      there x is X agrees = subst (λ y. Agrees taken (if y then D else record D { repos = set.insert D.repos r; manifests = insert D.manifests (r, sha256_text b) b }) X)
          (sym (ap (λ m. contains_key m (r, sha256_text b)) a.manifests ∙ is)) agrees

      by : (t : ℕ) (x : Bool) → has_manifest C r (sha256_text b) ≡ x → Leaves P (if x then Ok (sha256_text b, C) else add_manifest C t r b)
      by t true is = there true is C a
      by t false is = past P (refuse (lacks_room_for C t r) LimitReached) _ (λ _ _. past P (refuse (is_full_of_manifests C t r) LimitReached) _ (λ _ _.
          there false is (with_manifest C r b) (Agrees-manifests taken (record D { repos = set.insert D.repos r }) (record C { repos = set.insert C.repos r }) (Agrees-add_repo taken D C a r) (λ m. insert m (r, sha256_text b) b))))

  -- ---- any command

  pub command_agrees : (command : Command) (x : Answer) (X : Catalog) → outcome false C command ≡ Ok (x, X) → Agrees taken (after_record D (command_change C.tenants command x)) X
  command_agrees (runs.Start r) x X is =
      let h = answered_ok runs.Number (start C r) x X is in
      subst (λ y. Agrees taken (after_record D (command_change C.tenants (runs.Start r) y)) X) h.2 (started r h.0 X h.1)
  command_agrees (runs.Status r n) x X is = subst (λ (Y : Catalog). Agrees taken D Y) (reading_ok runs.Number C (Commands.status C r n) x X is) a
  command_agrees (runs.Append r n g b) x X is = let h = answered_ok runs.Number (Commands.append C r n g b) x X is in left_ok _ _ h.0 X (appended r n g b) h.1
  command_agrees (runs.Close r n d g b) x X is = let h = answered_ok runs.Number (Commands.close C r n d g b) x X is in left_ok _ _ h.0 X (closed r n d g b) h.1
  command_agrees (runs.Abandon r n) x X is = let h = answered_ok runs.Number (Commands.abandon C r n) x X is in left_ok _ _ h.0 X (given_up r n) h.1
  command_agrees (runs.Mount r d from) x X is =
      let h = answered_ok runs.Mounting (Commands.mount C r d from) x X is in
      subst (λ y. Agrees taken (after_record D (command_change C.tenants (runs.Mount r d from) y)) X) h.2 (mounted r d from h.0 X h.1)
  command_agrees (runs.Delete r d) x X is =
      let h = answered_ok (λ _. runs.Done) (Commands.delete C r d) x X is in
      left_ok (λ Y. Agrees taken (after_change D (BlobUnlinked r d)) Y) (Commands.delete C r d) h.0 X (delete_leaves (λ Y. Agrees taken (after_change D (BlobUnlinked r d)) Y) C r d (Agrees-unlink taken D C a r d)) h.1
  command_agrees (runs.PutManifest r b) x X is = let h = answered_ok runs.Bytes (Commands.put_manifest C r b) x X is in left_ok _ _ h.0 X (described r b) h.1
  command_agrees (runs.GetManifest r m) x X is = subst (λ (Y : Catalog). Agrees taken D Y) (reading_ok runs.Bytes C (Commands.get_manifest C r m) x X is) a
  command_agrees (runs.DeleteManifest r m) x X is =
      let h = answered_ok (λ _. runs.Done) (Commands.delete_manifest C r m) x X is in
      left_ok (λ Y. Agrees taken (after_change D (ManifestDeleted r m)) Y) (Commands.delete_manifest C r m) h.0 X
      (delete_manifest_leaves (λ Y. Agrees taken (after_change D (ManifestDeleted r m)) Y) C r m (Agrees-manifests taken D C a (λ y. remove y (r, m)))) h.1
  command_agrees (runs.RemoveRepo r) x X is =
      let h = answered_ok (λ _. runs.Done) (Commands.remove_repo C r) x X is in
      left_ok (λ Y. Agrees taken (after_change D (RepoRemoved r)) Y) (Commands.remove_repo C r) h.0 X
      (remove_repo_leaves (λ Y. Agrees taken (after_change D (RepoRemoved r)) Y) C r (λ _ unused. Agrees-remove_repo taken D C a r unused)) h.1
  command_agrees (runs.Lease r d) x X is =
      let h = answered_ok runs.Bytes (Commands.lease false C r d) x X is in
      left_ok (λ Y. Agrees taken D Y) (Commands.lease false C r d) h.0 X (lease_leaves (λ Y. Agrees taken D Y) C r false d (λ b found. Agrees-mark taken D C a d b (record b { lent = true }) found refl)) h.1
