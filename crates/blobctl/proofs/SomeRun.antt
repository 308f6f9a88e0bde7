-- The rows of a script have a run.
use Rattle.std.proofs.Common.{◌≡◌, ◌≢◌, ◌∙◌, ◌∷◌, [], ℕ, List, Bool, false, true, inl, inr, length, Option, Some, None, Result, Ok, Err, ap, refl, subst, sym}
use Rattle.std.specs.Prelude.{◌^◌, if◌then◌else◌, nat_le, nat_lt, not, ◌==◌, ◌||◌, ◌+◌, ◌-◌}
use Rattle.std.specs.FinMap as fmap
use Rattle.std.specs.Option.{ok_or}
use Rattle.std.proofs.lemmas.Bool.{false≢true}
use Rattle.blob_digest.specs.Digests.{is_digest_text, sha256_text}
use Rattle.spec_lib.specs.Texts.{Text, same_text}
use Rattle.blob_digest.specs.NameMachine.{is_repo_name}
use Rattle.spec_lib.specs.Outcomes.{◌>>=◌, refuse}
use Rattle.blob_digest.specs.declared.range.ByteRange.{ByteRange}
use Rattle.blob_digest.specs.declared.refusal.Refusal.{Refusal}
use Rattle.blob_digest.specs.declared.refusal.Refusal.TheVariants as no
use Rattle.blob_digest.specs.Ranges.{range_of}
use Rattle.oci_manifest.specs.Manifests.{refs_of, max_manifest}
use Rattle.store_model.specs.Catalog.{Catalog, Chunks, CheckedIn, CheckedOutWith, Session as Upload, holds, received_length, tenant_of}
use Rattle.store_model.specs.Runs as runs
use Rattle.store_model.specs.Commands as steps
use Rattle.store_model.specs.Commands.{length_after, not_busy, session_in, content_in}
use Rattle.store_model.specs.declared.mount.Mount.{Mount as Mounting}
use Rattle.store_model.specs.declared.mount.Mount.TheVariants as mounting
use Rattle.store_model.proofs.Commands.SomeSweep.{after, some_sweep, swept}
use Rattle.store_api.specs.Answers.{Answer, Leased, Shared, Verified, NoLease, NameTaken, Swept, Refused, mount_answer}
use Rattle.store_api.specs.Commands.{Command, Start, Status, Append, Close, Abandon, Mount, Delete, PutManifest, GetManifest, DeleteManifest, RemoveRepo, Lease, digest_in, range_of_tests, range_of_ends, repo_in, source_in, uses_digest, uses_range, uses_repo, uses_source, used_field}
use Rattle.script_player.specs.RowCommands.{command_of, range_in}
use Rattle.store_api.specs.LeaseViews.{LeaseView, half_lease, new_lease}
use Rattle.script_player.specs.Leases.{Leases, Name}
use Rattle.blobctl.specs.Played.{CatalogLeads, command_outcome, outcome_result}
use Rattle.store_api.specs.CommandAnswers.{command_answer}
use Rattle.script_player.specs.Plays.{Plays, RowStep, State, VerifiesLease, LendsIfNameFree, give_back_result, lease_name_of, named_lease, piece_ends, read_answer, second_name_of, share_result, share_result_in}
use Rattle.store_api.specs.Steps.{StepOf}
use Rattle.script_player.specs.Rows.{RowView}
use Rattle.store_api.specs.declared.verb.Verb.{Verb}
use Rattle.store_api.specs.declared.verb.Verb.TheVariants as verb
use Rattle.blobctl.proofs.SomeCommand.{AllFit, Fits, has_command, has_lease}

-- ---- no outcome is `Memory`

-- whether a refusal is `Memory`
abbrev pub is_memory : Refusal → Bool
is_memory no.Memory = true
is_memory _ = false

-- a refusal is not `Memory`
abbrev Fine : {A : Type 0} → Result A Refusal → Type 0
Fine (Ok a) = Unit {0}
Fine (Err e) = is_memory e ≡ false

bind_fine : {A B : Type 0} (r : Result A Refusal) (f : A → Result B Refusal) → Fine r → ((a : A) → Fine (f a)) → Fine (r >>= f)
bind_fine (Ok a) f fine next = next a
bind_fine (Err e) f fine next = fine

refuse_fine : (b : Bool) (e : Refusal) → is_memory e ≡ false → Fine (refuse b e)
refuse_fine true e fine = fine
refuse_fine false e fine = tt

ok_or_fine : {A : Type 0} (o : Option A) (e : Refusal) → is_memory e ≡ false → Fine (ok_or o e)
ok_or_fine None e fine = fine
ok_or_fine (Some x) e fine = tt

if_fine : {A : Type 0} (b : Bool) (x y : Result A Refusal) → Fine x → Fine y → Fine (if b then x else y)
if_fine true x y h k = h
if_fine false x y h k = k

session_fine : (o : Option Upload) (repo : Text) → Fine (session_in o repo)
session_fine None repo = refl
session_fine (Some s) repo = if_fine (same_text s.repo repo) (Ok s) (Err no.UploadUnknown) tt refl

not_busy_fine : (chunks : Chunks) → Fine (not_busy chunks)
not_busy_fine (CheckedIn chunks) = tt
not_busy_fine (CheckedOutWith received reserved) = refl

length_fine : (max_blob before : ℕ) (range : Option ByteRange) (n : ℕ) → Fine (length_after max_blob before range n)
length_fine max_blob before None n = bind_fine (refuse (nat_lt max_blob (before + n)) no.SizeInvalid) _ (refuse_fine _ no.SizeInvalid refl) (λ _. tt)
length_fine max_blob before (Some range) n =
    bind_fine (refuse (not (range.end - range.start + 1 == n) || nat_lt max_blob (before + n)) no.SizeInvalid) _ (refuse_fine (not (range.end - range.start + 1 == n) || nat_lt max_blob (before + n)) no.SizeInvalid refl)
    (λ _. bind_fine (refuse (not (range.start == before)) (no.RangeInvalid before)) _ (refuse_fine (not (range.start == before)) (no.RangeInvalid before) refl) (λ _. tt))

unreferenced_fine : (o : Option Text) → Fine (steps.check_no_referrer o)
unreferenced_fine None = tt
unreferenced_fine (Some manifest) = refl

-- ---- nor is the refusal of a malformed field

used_fine : {A : Type 0} (uses : Bool) (other : A) (r : Result A Refusal) → Fine r → Fine (used_field uses other r)
used_fine true other r fine = fine
used_fine false other r fine = tt

source_fine : (text : Text) → Fine (source_in text)
source_fine [] = tt
source_fine (x ∷ xs) = if_fine (is_repo_name (x ∷ xs)) (Ok (Some (x ∷ xs))) (Err no.NameInvalid) tt refl

ends_fine : (start end : ℕ) (o s : Bool) (p : nat_le start end ≡ o) (q : nat_lt end (2 ^ 63) ≡ s) → Fine (range_of_tests start end o s p q)
ends_fine start end true true p q = tt
ends_fine start end true false p q = refl
ends_fine start end false s p q = refl

range_with_fine : (o : Option (ℕ × ℕ)) → Fine (range_of_ends o)
range_with_fine None = refl
range_with_fine (Some r) = ends_fine r.0 r.1 (nat_le r.0 r.1) (nat_lt r.1 (2 ^ 63)) refl refl

range_fine : (text : Text) → Fine (range_in text)
range_fine [] = tt
range_fine (x ∷ xs) = range_with_fine (range_of (x ∷ xs))

command_fine : (row : RowView) → Fine (command_of row)
command_fine row =
    bind_fine (used_field (uses_repo row.verb) [] (repo_in row.repo)) _ (used_fine (uses_repo row.verb) [] (repo_in row.repo) (if_fine (is_repo_name row.repo) (Ok row.repo) (Err no.NameInvalid) tt refl))
    (λ _. bind_fine (used_field (uses_source row.verb) None (source_in row.key)) _ (used_fine (uses_source row.verb) None (source_in row.key) (source_fine row.key))
    (λ _. bind_fine (used_field (uses_digest row.verb) [] (digest_in row.digest)) _ (used_fine (uses_digest row.verb) [] (digest_in row.digest) (if_fine (is_digest_text row.digest) (Ok row.digest) (Err no.DigestInvalid) tt refl))
    (λ _. bind_fine (used_field (uses_range row.verb) None (range_in row.range)) _ (used_fine (uses_range row.verb) None (range_in row.range) (range_fine row.range)) (λ _. tt))))

-- ---- nor is a command's refusal

module _ (C : Catalog) where
  tenant_fine : (repo : Text) → Fine (steps.tenant C repo)
  tenant_fine repo = ok_or_fine (tenant_of C.tenants repo) no.NameUnknown refl

  check_fine : (t : ℕ) (repo : Text) (number : ℕ) (range : Option ByteRange) (n : ℕ) → Fine (steps.chunk_length_check C t repo number range n)
  check_fine t repo number range n =
      bind_fine (session_in (fmap.get C.sessions (t, number)) repo) _ (session_fine (fmap.get C.sessions (t, number)) repo) (λ s. bind_fine (not_busy s.chunks) _ (not_busy_fine s.chunks) (λ _. length_fine C.contents.max_blob (received_length s) range n))

  quota_fine : (t n : ℕ) → Fine (steps.check_quota C t n)
  quota_fine t n = refuse_fine _ _ refl

  all_linked_fine : (repo : Text) (digests : List Text) → Fine (steps.check_all_links C repo digests)
  all_linked_fine repo [] = tt
  all_linked_fine repo (digest ∷ digests) = if_fine (holds C repo digest) (steps.check_all_links C repo digests) (Err (no.ManifestBlobUnknown digest)) (all_linked_fine repo digests) refl

  start_fine : (repo : Text) → Fine (steps.start C repo)
  start_fine repo = bind_fine (steps.tenant C repo) _ (tenant_fine repo) (λ t. bind_fine (refuse (steps.lacks_room_for C t repo) no.LimitReached) _ (refuse_fine _ _ refl) (λ _. bind_fine (refuse (steps.cannot_open C t) no.LimitReached) _ (refuse_fine _ _ refl) (λ _. tt)))

  status_fine : (repo : Text) (number : ℕ) → Fine (steps.status C repo number)
  status_fine repo number = bind_fine (steps.tenant C repo) _ (tenant_fine repo) (λ t. bind_fine (steps.session C t repo number) _ (session_fine _ repo) (λ _. tt))

  append_fine : (repo : Text) (number : ℕ) (range : Option ByteRange) (bytes : Text) → Fine (steps.append C repo number range bytes)
  append_fine repo number range bytes =
      bind_fine (steps.tenant C repo) _ (tenant_fine repo) (λ t. bind_fine (steps.chunk_length_check C t repo number range (length bytes)) _ (check_fine t repo number range (length bytes)) (λ _. bind_fine (steps.check_quota C t (length bytes)) _ (quota_fine t (length bytes)) (λ _. tt)))

  close_fine : (repo : Text) (number : ℕ) (digest : Text) (range : Option ByteRange) (last : Text) → Fine (steps.close C repo number digest range last)
  close_fine repo number digest range last =
      bind_fine (steps.tenant C repo) _ (tenant_fine repo) (λ t. bind_fine (steps.chunk_length_check C t repo number range (length last)) _ (check_fine t repo number range (length last)) (λ _. bind_fine (steps.check_quota C t (length last)) _ (quota_fine t (length last)) (λ _. bind_fine (refuse (not (steps.is_digest_accepted C digest (content_in C.sessions (t, number) last))) no.DigestInvalid) _ (refuse_fine _ _ refl) (λ _. bind_fine (steps.check_share C t digest) _ (refuse_fine _ _ refl) (λ _. bind_fine (steps.has_slot C digest) _ (refuse_fine _ _ refl) (λ _. tt))))))

  abandon_fine : (repo : Text) (number : ℕ) → Fine (steps.abandon C repo number)
  abandon_fine repo number = bind_fine (steps.tenant C repo) _ (tenant_fine repo) (λ t. bind_fine (steps.session C t repo number) _ (session_fine _ repo) (λ s. bind_fine (not_busy s.chunks) _ (not_busy_fine s.chunks) (λ _. tt)))

  mount_fine : (repo digest : Text) (from : Option Text) → Fine (steps.mount C repo digest from)
  mount_fine repo digest from =
      bind_fine (steps.tenant C repo) _ (tenant_fine repo) (λ t. if_fine (steps.has_source C t digest from) (steps.mounted_outcome C t repo digest) (steps.started_outcome C repo) (bind_fine (refuse (steps.lacks_room_for C t repo) no.LimitReached) _ (refuse_fine _ _ refl) (λ _. tt)) (bind_fine (steps.start C repo) _ (start_fine repo) (λ _. tt)))

  delete_fine : (repo digest : Text) → Fine (steps.delete C repo digest)
  delete_fine repo digest = bind_fine (steps.tenant C repo) _ (tenant_fine repo) (λ _. bind_fine (steps.check_link C repo digest) _ (refuse_fine _ _ refl) (λ _. bind_fine (steps.check_no_referrer (steps.referrer C repo digest)) _ (unreferenced_fine _) (λ _. tt)))

  add_fine : (t : ℕ) (repo bytes : Text) → Fine (steps.add_manifest C t repo bytes)
  add_fine t repo bytes = bind_fine (refuse (steps.lacks_room_for C t repo) no.LimitReached) _ (refuse_fine _ _ refl) (λ _. bind_fine (refuse (steps.is_full_of_manifests C t repo) no.LimitReached) _ (refuse_fine _ _ refl) (λ _. tt))

  put_fine : (repo bytes : Text) → Fine (steps.put_manifest C repo bytes)
  put_fine repo bytes =
      bind_fine (steps.tenant C repo) _ (tenant_fine repo) (λ t. bind_fine (refuse (nat_lt max_manifest (length bytes)) no.SizeInvalid) _ (refuse_fine _ _ refl) (λ _. bind_fine (ok_or (refs_of bytes) no.ManifestInvalid) _ (ok_or_fine _ _ refl) (λ refs. bind_fine (steps.check_all_links C repo refs) _ (all_linked_fine repo refs) (λ _. if_fine (steps.has_manifest C repo (sha256_text bytes)) (Ok (sha256_text bytes, C)) (steps.add_manifest C t repo bytes) tt (add_fine t repo bytes)))))

  get_fine : (repo name : Text) → Fine (steps.get_manifest C repo name)
  get_fine repo name = bind_fine (steps.tenant C repo) _ (tenant_fine repo) (λ _. ok_or_fine _ _ refl)

  drop_fine : (repo name : Text) → Fine (steps.delete_manifest C repo name)
  drop_fine repo name = bind_fine (steps.tenant C repo) _ (tenant_fine repo) (λ _. bind_fine (steps.manifest C repo name) _ (ok_or_fine _ _ refl) (λ _. tt))

  vanish_fine : (repo : Text) → Fine (steps.remove_repo C repo)
  vanish_fine repo = bind_fine (steps.tenant C repo) _ (tenant_fine repo) (λ _. bind_fine (steps.check_repo C repo) _ (refuse_fine _ _ refl) (λ _. bind_fine (refuse (steps.is_in_use C repo) no.RepoInUse) _ (refuse_fine _ _ refl) (λ _. tt)))

  lease_fine : (repo digest : Text) → Fine (steps.lease false C repo digest)
  lease_fine repo digest =
      bind_fine (steps.tenant C repo) _ (tenant_fine repo) (λ _. bind_fine (steps.linked_blob C repo digest) _ (bind_fine (steps.check_link C repo digest) _ (refuse_fine _ _ refl) (λ _. ok_or_fine _ _ refl)) (λ b. tt))

-- ---- replies

-- a reply is not `Memory`
abbrev Good : Answer → Type 0
Good (Refused e) = is_memory e ≡ false
Good _ = Unit {0}

not_memory : (a : Answer) → Good a → a ≢ Refused no.Memory
not_memory a good is = absurd (false≢true (sym (subst Good is good)))

-- the reply of an outcome is not `Memory`
abbrev Told : steps.Outcome Answer → Type 0
Told (Ok x) = Good x.0
Told (Err e) = is_memory e ≡ false

told_good : {A : Type 0} (inner : A → runs.Answer) (answer : runs.Answer → Answer) → ((a : A) → Good (answer (inner a))) → (o : steps.Outcome A) → Fine o → Told (runs.map_outcome answer (runs.map_outcome inner o))
told_good inner answer good (Ok x) fine = good x.0
told_good inner answer good (Err e) fine = fine

mount_good : (m : Mounting) → Good (mount_answer m)
mount_good mounting.Mounted = tt
mount_good (mounting.Session number) = tt

module _ (C : Catalog) where
  read_good : {A : Type 0} (inner : A → runs.Answer) (answer : runs.Answer → Answer) → ((a : A) → Good (answer (inner a))) → (r : Result A Refusal) → Fine r → Told (runs.map_outcome answer (runs.reading_outcome inner C r))
  read_good inner answer good (Ok x) fine = good x
  read_good inner answer good (Err e) fine = fine

  outcome_good : (c : Command) → Told (command_outcome C c)
  outcome_good (Start repo) = told_good runs.Number (command_answer (Start repo)) (λ _. tt) (steps.start C repo) (start_fine C repo)
  outcome_good (Status repo n) = read_good runs.Number (command_answer (Status repo n)) (λ _. tt) (steps.status C repo n) (status_fine C repo n)
  outcome_good (Append repo n range bytes) = told_good runs.Number (command_answer (Append repo n range bytes)) (λ _. tt) (steps.append C repo n range bytes) (append_fine C repo n range bytes)
  outcome_good (Close repo n digest range bytes) = told_good runs.Number (command_answer (Close repo n digest range bytes)) (λ _. tt) (steps.close C repo n digest range bytes) (close_fine C repo n digest range bytes)
  outcome_good (Abandon repo n) = told_good runs.Number (command_answer (Abandon repo n)) (λ _. tt) (steps.abandon C repo n) (abandon_fine C repo n)
  outcome_good (Mount repo digest from) = told_good runs.Mounting (command_answer (Mount repo digest from)) mount_good (steps.mount C repo digest from) (mount_fine C repo digest from)
  outcome_good (Delete repo digest) = told_good (λ _. runs.Done) (command_answer (Delete repo digest)) (λ _. tt) (steps.delete C repo digest) (delete_fine C repo digest)
  outcome_good (PutManifest repo bytes) = told_good runs.Bytes (command_answer (PutManifest repo bytes)) (λ _. tt) (steps.put_manifest C repo bytes) (put_fine C repo bytes)
  outcome_good (GetManifest repo digest) = read_good runs.Bytes (command_answer (GetManifest repo digest)) (λ _. tt) (steps.get_manifest C repo digest) (get_fine C repo digest)
  outcome_good (DeleteManifest repo digest) = told_good (λ _. runs.Done) (command_answer (DeleteManifest repo digest)) (λ _. tt) (steps.delete_manifest C repo digest) (drop_fine C repo digest)
  outcome_good (RemoveRepo repo) = told_good (λ _. runs.Done) (command_answer (RemoveRepo repo)) (λ _. tt) (steps.remove_repo C repo) (vanish_fine C repo)
  outcome_good (Lease repo digest) = told_good runs.Bytes (command_answer (Lease repo digest)) (λ _. tt) (steps.lease false C repo digest) (lease_fine C repo digest)

  result_good : (o : steps.Outcome Answer) → Told o → Good (outcome_result C o).0
  result_good (Ok x) good = good
  result_good (Err e) good = good

-- ---- rows

if_good : (b : Bool) (x y : Answer × Leases) → Good x.0 → Good y.0 → Good (if b then x else y).0
if_good true x y h k = h
if_good false x y h k = k

read_of_good : (o : Option LeaseView) (ends : Option (ℕ × ℕ)) → Good (read_answer o ends)
read_of_good None ends = tt
read_of_good (Some lease) None = refl
read_of_good (Some lease) (Some ends) = tt

share_good : (L : Leases) (name second : Name) (o p : Option LeaseView) → Good (share_result L name second o p).0
share_good L name second None p = tt
share_good L name second (Some lease) (Some other) = tt
share_good L name second (Some lease) None = if_good (lease.weight == 1) (Refused no.WeightSpent, L) (Shared, fmap.insert (fmap.insert L name (half_lease lease)) second (half_lease lease)) refl tt

give_back_good : (L : Leases) (name : Name) (o : Option LeaseView) → Good (give_back_result L name o).0
give_back_good L name None = tt
give_back_good L name (Some lease) = tt

module _ (s : State Catalog) (line : RowView) where
  -- a row has a reply, and leaves some catalog
  abbrev Step : Type 0
  Step = (a : Answer) × (t : State Catalog) × RowStep CatalogLeads s line a t × Good a

  refused : (refusal : Refusal) → command_of line ≡ Err refusal → Step
  refused refusal is = (Refused refusal, s, inl (subst (λ (o : Result (Option Command) Refusal). StepOf CatalogLeads o s.0 (Refused refusal) s.0) (sym is) (refl, refl), refl), subst (λ (o : Result (Option Command) Refusal). Fine o) is (command_fine line))

  store_step : Fits line → uses_repo line.verb ≡ true → line.verb ≢ verb.Lease → (o : Result (Option Command) Refusal) → command_of line ≡ o → Step
  store_step fit uses other (Err refusal) is = refused refusal is
  store_step fit uses other (Ok o) is =
      let c = has_command line fit uses other o is in
      let x : Answer × Catalog = outcome_result s.0 (command_outcome s.0 c.0) in
      let spells : command_of line ≡ Ok (Some c.0) = is ∙ ap (λ (p : Option Command). Ok p) c.1 in
      (x.0, (x.1, s.1), inl (subst (λ (o : Result (Option Command) Refusal). StepOf CatalogLeads o s.0 x.0 x.1) (sym spells) (c.2, refl), refl), result_good s.0 (command_outcome s.0 c.0) (outcome_good s.0 c.0))

  abbrev Lending : Option LeaseView → Type 0
  Lending o = (a : Answer) × (t : State Catalog) × LendsIfNameFree CatalogLeads o s line a t × Good a

  lends : (o : steps.Outcome Text) → steps.lease false s.0 line.repo line.digest ≡ o → Fine o → Lending None
  lends (Ok x) is fine = (Leased (length x.0), (x.1, fmap.insert s.1 (lease_name_of line) (new_lease x.0)), inl (x.0, ap (λ (o : steps.Outcome Text). outcome_result s.0 (runs.map_outcome (command_answer (Lease line.repo line.digest)) (runs.map_outcome runs.Bytes o))) (sym is), refl, refl), tt)
  lends (Err e) is fine = (Refused e, s, inr (e, ap (λ (o : steps.Outcome Text). outcome_result s.0 (runs.map_outcome (command_answer (Lease line.repo line.digest)) (runs.map_outcome runs.Bytes o))) (sym is), refl, refl), fine)

  lending : (o : Option LeaseView) → Lending o
  lending (Some lease) = (NameTaken, s, (refl, refl), tt)
  lending None = lends (steps.lease false s.0 line.repo line.digest) refl (lease_fine s.0 line.repo line.digest)

  lease_step : line.verb ≡ verb.Lease → (o : Result (Option Command) Refusal) → command_of line ≡ o → Step
  lease_step leases (Err refusal) is = refused refusal is
  lease_step leases (Ok o) is = let x = lending (named_lease s.1 line) in (x.0, x.1, inr (inl (leases, has_lease line leases o is, x.2)), x.3)

  verifying : (o : Option LeaseView) → (a : Answer) × (C : Catalog) × VerifiesLease CatalogLeads o s.0 a C × Good a
  verifying None = (NoLease, s.0, (refl, refl), tt)
  verifying (Some lease) = (Verified (length lease.bytes), s.0, (refl, refl), tt)

  of_store : Fits line → (v : Verb) → line.verb ≡ v → uses_repo v ≡ true → v ≢ verb.Lease → Step
  of_store fit v is uses other = store_step fit (ap uses_repo is ∙ uses) (λ e. other (sym is ∙ e)) (command_of line) refl

  step : Fits line → (v : Verb) → line.verb ≡ v → Step
  step fit verb.Lease is = lease_step is (command_of line) refl
  step fit verb.Read is = (read_answer (named_lease s.1 line) (piece_ends line.range), s, inr (inr (inl (is, refl, refl))), read_of_good (named_lease s.1 line) (piece_ends line.range))
  step fit verb.Share is =
      let x : Answer × Leases = share_result_in s.1 (lease_name_of line) (second_name_of line) in
      (x.0, (s.0, x.1), inr (inr (inr (inl (is, refl, refl)))), share_good s.1 (lease_name_of line) (second_name_of line) (fmap.get s.1 (lease_name_of line)) (fmap.get s.1 (second_name_of line)))
  step fit verb.Verify is = let x = verifying (named_lease s.1 line) in (x.0, (x.1, s.1), inr (inr (inr (inr (inl (is, x.2, refl))))), x.3)
  step fit verb.GiveBack is =
      let x : Answer × Leases = give_back_result s.1 (lease_name_of line) (named_lease s.1 line) in
      (x.0, (s.0, x.1), inr (inr (inr (inr (inr (inl (is, refl, refl)))))), give_back_good s.1 (lease_name_of line) (named_lease s.1 line))
  step fit verb.Sweep is = (Swept (swept s.0), (after s.0, s.1), inr (inr (inr (inr (inr (inr (is, (swept s.0, refl, some_sweep s.0, refl), refl)))))), tt)
  step fit verb.Start is = of_store fit verb.Start is refl (λ e. absurd (let h = e in cc))
  step fit verb.Status is = of_store fit verb.Status is refl (λ e. absurd (let h = e in cc))
  step fit verb.Append is = of_store fit verb.Append is refl (λ e. absurd (let h = e in cc))
  step fit verb.Close is = of_store fit verb.Close is refl (λ e. absurd (let h = e in cc))
  step fit verb.Abandon is = of_store fit verb.Abandon is refl (λ e. absurd (let h = e in cc))
  step fit verb.Mount is = of_store fit verb.Mount is refl (λ e. absurd (let h = e in cc))
  step fit verb.Delete is = of_store fit verb.Delete is refl (λ e. absurd (let h = e in cc))
  step fit verb.PutManifest is = of_store fit verb.PutManifest is refl (λ e. absurd (let h = e in cc))
  step fit verb.GetManifest is = of_store fit verb.GetManifest is refl (λ e. absurd (let h = e in cc))
  step fit verb.DeleteManifest is = of_store fit verb.DeleteManifest is refl (λ e. absurd (let h = e in cc))
  step fit verb.RemoveRepo is = of_store fit verb.RemoveRepo is refl (λ e. absurd (let h = e in cc))

-- rows that fit their commands have replies, and leave some catalog
pub some_run : (s : State Catalog) (lines : List RowView) → AllFit lines → (answers : List Answer) × (t : State Catalog) × Plays CatalogLeads s lines answers t
some_run s [] fit = ([], s, refl)
some_run s (line ∷ lines) fit =
    let here = step s line fit.0 line.verb refl in
    let rest = some_run here.1 lines fit.1 in
    (here.0 ∷ rest.0, rest.1, (here.1, here.2, not_memory here.0 here.3, rest.2))
