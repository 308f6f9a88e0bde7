-- Isolation of tenants: the induction over a run.
use Rattle.std.proofs.Common.{◌≡◌, ◌≢◌, ℕ, ◌<◌, Bool, true, false, cond, List, [], ◌∷◌, ◌++◌, length, map, get_or, Option, Some, None, Result, Ok, Err, refl, sym, ap, ◌∙◌, subst, arith, ⊎_elim}
use Prim.Native.Nat.{zero, suc}
use Rattle.std.specs.Prelude.{◌⊎◌, ◌==◌, slice_index, if◌then◌else◌}
use Rattle.std.specs.Option.{option_map_or}
use Rattle.std.specs.Ordering.{eq_by_cmp}
use Rattle.std.specs.Cmp.{IsTotalOrder, Equal-is}
use Rattle.std.specs.declared.cmp.Ordering.{Ordering}
use Rattle.std.specs.List.{AllByRecursion, Contains}
use Rattle.std.specs.Cmp.Lexicographic.{nat_list_cmp_total}
use Rattle.std.specs.FinMap.{FinMap, get, get-empty, retain_keys, get-retain_keys, same_map, IsAntisymmetric}
use Rattle.std.specs.FinMap.Entries.{find as find_key}
use Rattle.std.proofs.lemmas.List.Elements.{Contains-get_or}
use Rattle.std.proofs.lemmas.Map.Lookups.{exact_bytes}
use Rattle.std.proofs.lemmas.Simd.{map-map}
use Rattle.blob_digest.specs.declared.refusal.Refusal.{Refusal}
use Rattle.blob_digest.specs.declared.refusal.Refusal.TheVariants.{Memory, StoreFull, TooManyReaders}
use Rattle.spec_lib.specs.Texts.{Text, text_cmp}
use Rattle.store_model.specs.Catalog.{Tenant, Resident, Catalog, link_cmp, session_number_cmp, is_repo_of_tenant, is_repo_of, opening, ContentRules}
use Rattle.store_model.specs.Commands
use Rattle.store_model.specs.Commands.{Outcome, tenant, content_in, linked_blob, with_leased}
use Rattle.spec_lib.specs.Outcomes.{◌>>=◌, refuse}
use Rattle.store_model.specs.Runs as runs
use Rattle.store_model.specs.Runs.{Command, Answer, map_outcome, takes_memory, outcome, IsCommandCase, Event, CommandEvent, SweepEvent, SweepPartEvent, Happens, IsRun, repo_of}
use Rattle.store_model.specs.Noninterference.{AreTenantsAlike, events_of, commands_of, replies, tenant_view, isolated_outcome, uploaded_pair, reply_of, catalog_after, isolated_replies, isolated_catalog, IsUnaffectedByOthers, uploads_of_event, uploads_of_command, uploads_of_run, NoCollision, IsCollisionFreeRun, TenantsAreIsolated}
use Rattle.blob_digest.proofs.KeyOrders.{number_cmp_total, exact_number, link_cmp_total, exact_link}
use Rattle.spec_lib.proofs.Lists.{all_by_index}
use Rattle.spec_lib.proofs.Agreement.{AgreeOn}
use Rattle.spec_lib.proofs.Parts.{as_passes}
use Rattle.spec_lib.proofs.Options.{nothing, no_member}
use Rattle.store_model.proofs.Noninterference.SameFor.{Alike, Consistent, of_same, session_same, whole_same, blobs_same}
use Rattle.store_model.proofs.Noninterference.StepConsistency.{Fits, Matches, own_command, known}
use Rattle.store_model.proofs.Noninterference.LocalRespect.{Leaves, unseen_command, tenants_stay, alike_itself, alike_through}
use Rattle.store_model.proofs.Noninterference.Consistency.{consistent_command, consistent_sweep, unseen_sweep}
use Rattle.spec_lib.proofs.Texts.{tied_to_itself}

-- ---- one event

-- a lease that fails, but not with `TooManyReaders`, also fails without readers
calm_lease : (C : Catalog) (r d : Text) (e : Refusal) → e ≢ TooManyReaders → Commands.lease true C r d ≡ Err e → Commands.lease false C r d ≡ Err e
calm_lease C r d e other h = at (tenant C r) h
  where
    lent : Resident → Outcome Text
    lent b = Ok (b.bytes, with_leased C d b)

    blob : (x : Result Resident Refusal) → (x >>= λ b. refuse true TooManyReaders >>= λ _. lent b) ≡ Err e → (x >>= lent) ≡ Err e
    blob (Ok b) h = absurd (other (let p : TooManyReaders ≡ e = cc in sym p))
    blob (Err f) h = let p : f ≡ e = cc in ap (λ x. Err x) p

    at : (x : Result ℕ Refusal) → (x >>= λ _. linked_blob C r d >>= λ b. refuse true TooManyReaders >>= λ _. lent b) ≡ Err e → (x >>= λ _. linked_blob C r d >>= lent) ≡ Err e
    at (Ok t) h = blob (linked_blob C r d) h
    at (Err f) h = let p : f ≡ e = cc in ap (λ x. Err x) p

calm : (C : Catalog) (command : Command) (e : Refusal) (crowded : Bool) → e ≢ TooManyReaders → outcome crowded C command ≡ Err e → outcome false C command ≡ Err e
calm C command e false other h = h
calm C (runs.Lease r d) e true other h = refused_too (Commands.lease true C r d) (Commands.lease false C r d) (calm_lease C r d e other) h
  where
    refused_too : (x y : Outcome Text) → (x ≡ Err e → y ≡ Err e) → map_outcome runs.Bytes x ≡ Err e → map_outcome runs.Bytes y ≡ Err e
    refused_too (Ok a) y gives h = absurd cc
    refused_too (Err f) y gives h = let p : f ≡ e = cc in ap (map_outcome runs.Bytes) (gives (ap (λ x. Err x) p))
calm C command e true other h = h

module _ (content : Text → Text) where
  pub consistent_event : (C mid : Catalog) (e : Event) → Consistent content C → Happens C e mid → Fits content (uploads_of_event C e) → Consistent content mid
  consistent_event C mid (CommandEvent command (Ok a)) consistent h fits = subst (λ x. Leaves (Consistent content) x) h (consistent_command content C consistent command fits).0
  consistent_event C mid (CommandEvent command (Err e)) consistent h fits = subst (λ X. Consistent content X) (sym h.1) consistent
  consistent_event C mid (SweepEvent swept) consistent h fits = consistent_sweep content (λ _. true) C mid swept consistent h
  consistent_event C mid (SweepPartEvent swept) consistent h fits = consistent_sweep content h.0 C mid swept consistent h.1

  unseen_called : (t : ℕ) (C mid : Catalog) (command : Command) (r : Result Answer Refusal) → IsCommandCase C command r mid → is_repo_of C t (repo_of command) ≡ false → Alike t mid C
  unseen_called t C mid command (Ok a) h other = subst (λ x. Leaves (λ X. Alike t X C) x) h (unseen_command C t command other)
  unseen_called t C mid command (Err e) h other = subst (λ X. Alike t X C) (sym h.1) (alike_itself t C)

  -- a tenant's own command with its reply, with other tenants present and in the isolated run
  pub record Kept (t : ℕ) (D mid : Catalog) (r : Result Answer Refusal) (y : Outcome Answer) : Type 0 where
    pub told : r ≡ reply_of y
    pub alike : Alike t mid (catalog_after D y)
    pub consistent : Consistent content (catalog_after D y)

  kept_ok : (t : ℕ) (D mid : Catalog) (a : Answer) (y : Outcome Answer) → Matches t (Ok (a, mid)) y → Leaves (Consistent content) y → Kept t D mid (Ok a) y
  kept_ok t D mid a (Ok y) m s = record { told = ap (λ x. Ok x) m.0; alike = m.1; consistent = s }
  kept_ok t D mid a (Err f) m s = absurd m

  kept_err : (t : ℕ) (D mid : Catalog) (e : Refusal) (y : Outcome Answer) → e ≢ StoreFull → Matches t (Err e) y → Alike t mid D → Consistent content D → Kept t D mid (Err e) y
  kept_err t D mid e (Ok y) free m a s = absurd (free m)
  kept_err t D mid e (Err f) free m a s = record { told = ap (λ x. Err x) m; alike = a; consistent = s }

  fixed : (C : Catalog) (command : Command) (e : Refusal) → IsUnaffectedByOthers (CommandEvent command (Err e)) → (((crowded : Bool) × (outcome crowded C command ≡ Err e)) ⊎ ((e ≡ Memory) × (takes_memory command ≡ true))) → outcome false C command ≡ Err e
  fixed C command e free h = ⊎_elim (λ x. calm C command e x.0 free.2 x.1) (λ x. absurd (free.0 x.0)) h

  pub own_called : (t : ℕ) (C D mid : Catalog) (command : Command) (r : Result Answer Refusal) → IsCommandCase C command r mid → IsUnaffectedByOthers (CommandEvent command r) → is_repo_of C t (repo_of command) ≡ true →
      Alike t C D → Consistent content C → Consistent content D → Fits content (uploads_of_command C command) → Fits content (uploads_of_command D command) → Kept t D mid r (isolated_outcome D command)
  own_called t C D mid command (Ok a) h free own alike c d fits fits_D =
      kept_ok t D mid a (isolated_outcome D command) (subst (λ x. Matches t x (isolated_outcome D command)) h (own_command content t C D alike c d command own fits)) (consistent_command content D d command fits_D).1
  own_called t C D mid command (Err e) h free own alike c d fits fits_D =
      kept_err t D mid e (isolated_outcome D command) free.1 (subst (λ x. Matches t x (isolated_outcome D command)) (fixed C command e free h.0) (own_command content t C D alike c d command own fits))
      (subst (λ X. Alike t X D) (sym h.1) alike) d

-- the content of a tenant's close, with other tenants present and in the isolated run
pub brought_same : (t : ℕ) (C D : Catalog) → Alike t C D → (command : Command) → is_repo_of C t (repo_of command) ≡ true → uploads_of_command C command ≡ uploads_of_command D command
brought_same t C D alike (runs.Close r n d g b) own = (λ i. uploaded_pair (alike.contents i) d ((
    ap (λ x. x >>= λ u. Commands.session C u r n >>= λ _. Ok (content_in C.sessions (u, n) b)) (known C t r own)
    ∙ (λ i. session_same t C D alike r n i >>= λ _. Ok (whole_same t C D alike n b i))
    ∙ sym (ap (λ x. x >>= λ u. Commands.session D u r n >>= λ _. Ok (content_in D.sessions (u, n) b)) (known D t r (sym (of_same t C D alike r) ∙ own)))) i))
brought_same t C D alike command own = refl

-- ---- a run

pub fits_both : (content : Text → Text) (xs ys : List (Text × Text)) → Fits content (xs ++ ys) → Fits content xs × Fits content ys
fits_both content [] ys h = (tt, h)
fits_both content (x ∷ xs) ys h = let rest = fits_both content xs ys h.1 in ((h.0, rest.0), rest.1)

-- a tenant's view after a run, by the tenant's own events from another catalog
pub record Follows (content : Text → Text) (t : ℕ) (C' D : Catalog) (es : List Event) : Type 0 where
  pub told : replies es ≡ isolated_replies D (commands_of es)
  pub alike : Alike t C' (isolated_catalog D (commands_of es))
  pub consistent : Consistent content C'
  pub consistent_alone : Consistent content (isolated_catalog D (commands_of es))

module _ (content : Text → Text) (tenants : List Tenant) (t : ℕ) where
  -- the rest of a run, from any catalogs that are equivalent for the tenant
  abbrev Onward : Catalog → Catalog → List Event → Type 0
  Onward mid C' es = (D : Catalog) → Alike t mid D → Consistent content D → AllByRecursion IsUnaffectedByOthers (events_of tenants t es) → Follows content t C' D (events_of tenants t es)

  called : (C D mid C' : Catalog) (command : Command) (r : Result Answer Refusal) (es : List Event) → C.tenants ≡ tenants → IsCommandCase C command r mid → Fits content (uploads_of_command C command) →
      Alike t C D → Consistent content C → Consistent content D → Onward mid C' es → (b : Bool) → is_repo_of C t (repo_of command) ≡ b →
      AllByRecursion IsUnaffectedByOthers (if b then CommandEvent command r ∷ events_of tenants t es else events_of tenants t es) →
      Follows content t C' D (if b then CommandEvent command r ∷ events_of tenants t es else events_of tenants t es)
  called C D mid C' command r es are h fits alike c d rest false other free = rest D (alike_through t mid C D (unseen_called content t C mid command r h other) alike) d free
  called C D mid C' command r es are h fits alike c d rest true own free =
      let k = own_called content t C D mid command r h free.0 own alike c d fits (subst (λ x. Fits content x) (brought_same t C D alike command own) fits) in
      let f = rest (catalog_after D (isolated_outcome D command)) k.alike k.consistent free.1 in
      record { told = λ i. k.told i ∷ f.told i; alike = f.alike; consistent = f.consistent; consistent_alone = f.consistent_alone }

  pub follows : (es : List Event) (C C' D : Catalog) → C.tenants ≡ tenants → (run : IsRun C es C') → Fits content (uploads_of_run es C C' run) → Alike t C D → Consistent content C → Consistent content D →
      AllByRecursion IsUnaffectedByOthers (events_of tenants t es) → Follows content t C' D (events_of tenants t es)
  follows [] C C' D are run fits alike c d free = record { told = refl; alike = subst (λ X. Alike t X D) (sym run) alike; consistent = subst (λ X. Consistent content X) (sym run) c; consistent_alone = d }
  follows (SweepEvent swept ∷ es) C C' D are run fits alike c d free =
      let unseen = unseen_sweep t (λ _. true) C run.0 swept run.1 in
      follows es run.0 C' D (ap (λ (X : Catalog). X.tenants) run.1.rest ∙ are) run.2 fits (alike_through t run.0 C D unseen alike) (consistent_sweep content (λ _. true) C run.0 swept c run.1) d free
  follows (SweepPartEvent swept ∷ es) C C' D are run fits alike c d free =
      let unseen = unseen_sweep t run.1.0 C run.0 swept run.1.1 in
      follows es run.0 C' D (ap (λ (X : Catalog). X.tenants) run.1.1.rest ∙ are) run.2 fits (alike_through t run.0 C D unseen alike) (consistent_sweep content run.1.0 C run.0 swept c run.1.1) d free
  follows (CommandEvent command r ∷ es) C C' D are run fits alike c d free =
      let both = fits_both content (uploads_of_command C command) (uploads_of_run es run.0 C' run.2) fits in
      let s = consistent_event content C run.0 (CommandEvent command r) c run.1 both.0 in
      called C D run.0 C' command r es are run.1 both.0 alike c d
      (λ E a e f. follows es run.0 C' E (same_tenants C run.0 command r run.1 ∙ are) run.2 both.1 a s e f)
      (is_repo_of_tenant tenants t (repo_of command)) (ap (λ ts. is_repo_of_tenant ts t (repo_of command)) are) free
    where
      same_tenants : (C mid : Catalog) (command : Command) (r : Result Answer Refusal) → IsCommandCase C command r mid → mid.tenants ≡ C.tenants
      same_tenants C mid command (Ok a) h = subst (λ x. Leaves (λ X. X.tenants ≡ C.tenants) x) h (tenants_stay C command)
      same_tenants C mid command (Err e) h = ap (λ X. X.tenants) h.1

-- ---- views

module _ {K X : Type 0} {R : K → K → Ordering} (o : IsTotalOrder R) (same : IsAntisymmetric R) where
  retain_agree : (p : K → Bool) (m n : FinMap R X) → AgreeOn p m n → retain_keys m p ≡ retain_keys n p
  retain_agree p m n agree = same_map o same (retain_keys m p) (retain_keys n p) (λ q.
      get-retain_keys m p q (λ x tie. ap p (sym (same q x tie))) ∙ as_passes o same (p q) (get m q) (get n q) (agree q) ∙ sym (get-retain_keys n p q (λ x tie. ap p (sym (same q x tie)))))

-- catalogs that are equivalent for a tenant have the same view of it
pub same_part : (content : Text → Text) (t : ℕ) (C D : Catalog) → Alike t C D → Consistent content C → Consistent content D → tenant_view C t ≡ tenant_view D t
same_part content t C D a c d =
    let repos = retain_agree nat_list_cmp_total exact_bytes (is_repo_of C t) C.repos D.repos a.repos ∙ (λ i. retain_keys D.repos (λ r. of_same t C D a r i)) in
    let links = retain_agree link_cmp_total exact_link (λ l. is_repo_of C t l.0) C.links D.links a.links ∙ (λ i. retain_keys D.links (λ l. of_same t C D a l.0 i)) in
    let manifests = retain_agree link_cmp_total exact_link (λ l. is_repo_of C t l.0) C.manifests D.manifests a.manifests ∙ (λ i. retain_keys D.manifests (λ l. of_same t C D a l.0 i)) in
    let sessions = retain_agree number_cmp_total exact_number (λ n. n.0 == t) C.sessions D.sessions a.sessions in
    let blobs = blobs_same t C D a content c d in
    λ i. record { repos = repos i; links = links i; manifests = manifests i; sessions = sessions i; next = a.next i; blobs = blobs i }

-- ---- the content that was uploaded with a digest

abbrev pub content_of : List (Text × Text) → Text → Text
content_of pairs d = option_map_or (λ w. w) (find_key text_cmp d pairs) []

found_contains : (q : Text) (es : List (Text × Text)) (w : Text) → find_key text_cmp q es ≡ Some w → Contains es (q, w)
found_contains q [] w h = absurd cc
found_contains q (e ∷ es) w h =
    elim (eq_by_cmp text_cmp q e.0) as (λ b. eq_by_cmp text_cmp q e.0 ≡ b → cond b (Some e.1) (find_key text_cmp q es) ≡ Some w → Contains (e ∷ es) (q, w)) [
      | true ↦ λ tie h. let key : e.0 ≡ q = sym (exact_bytes q e.0 ((Equal-is (text_cmp q e.0)).0 tie)) in let value : e.1 ≡ w = cc in (zero, omega arith, λ i. (key i, value i))
      | false ↦ λ tie h. let rest = found_contains q es w h in (suc rest.0, omega arith, rest.2)
    ] refl h

is_found : (es : List (Text × Text)) (i : ℕ) → i < length es → find_key text_cmp (get_or es i ([], [])).0 es ≡ None → ⊥
is_found [] i lt none = absurd (omega arith)
is_found (e ∷ es) zero lt none = let some : Some e.1 ≡ None = sym (ap (λ b. cond b (Some e.1) (find_key text_cmp e.0 es)) (tied_to_itself e.0)) ∙ none in cc
is_found (e ∷ es) (suc i) lt none =
    elim (eq_by_cmp text_cmp (get_or es i ([], [])).0 e.0) as (λ b. cond b (Some e.1) (find_key text_cmp (get_or es i ([], [])).0 es) ≡ None → ⊥) [
      | true ↦ λ h. absurd cc
      | false ↦ λ h. is_found es i (omega arith) h
    ] none

pub fits_content : (pairs : List (Text × Text)) → NoCollision pairs → Fits (content_of pairs) pairs
fits_content pairs apart = all_by_index (λ x. content_of pairs x.0 ≡ x.1) ([], []) pairs at
  where
    there : (o : Option Text) → (o ≡ None → ⊥) → (w : Text) × (o ≡ Some w)
    there None h = absurd (h refl)
    there (Some w) h = (w, refl)

    at : (i : ℕ) → i < length pairs → content_of pairs (get_or pairs i ([], [])).0 ≡ (get_or pairs i ([], [])).1
    at i lt =
        let x : Text × Text = get_or pairs i ([], []) in
        let found = there (find_key text_cmp x.0 pairs) (is_found pairs i lt) in
        ap (λ o. option_map_or (λ w. w) o []) found.1 ∙ apart x.0 found.0 x.1 (found_contains x.0 pairs found.0 found.1) (Contains-get_or pairs i ([], []) lt)

-- ---- the theorem

pub consistent_opening : (content : Text → Text) (tenants : List Tenant) (slots : ℕ) (contents : ContentRules) → Consistent content (opening tenants slots contents)
consistent_opening content tenants slots contents = record {
  repos = λ r h. no_member (get-empty text_cmp r) h;
  links = λ l h. no_member (get-empty link_cmp l) h;
  kept = λ l h. no_member (get-empty link_cmp l) h;
  manifests = λ l b h. nothing (get-empty link_cmp l) h;
  sessions = λ k s h. nothing (get-empty session_number_cmp k) h;
  owners = λ k s h. nothing (get-empty session_number_cmp k) h;
  bytes = λ d b h. nothing (get-empty text_cmp d) h;
}

abbrev pub pairs_of : (tenants : List Tenant) (slots : ℕ) (contents : ContentRules) (es : List Event) (C' : Catalog) → IsCollisionFreeRun tenants slots contents es C' → List (Text × Text)
pairs_of tenants slots contents es C' f = uploads_of_run es (opening tenants slots contents) C' f.run

-- new stores whose tenants are alike for a tenant are equivalent for it
pub opening_alike : (t : ℕ) (tenants others : List Tenant) (slots : ℕ) (contents : ContentRules) → AreTenantsAlike t tenants others → Alike t (opening tenants slots contents) (opening others slots contents)
opening_alike t tenants others slots contents same = record {
  tenants = same;
  contents = refl;
  numbers = ap length next;
  next = ap (λ ns. slice_index ns t) next;
  repos = λ q is. refl;
  links = λ q is. refl;
  manifests = λ q is. refl;
  sessions = λ q is. refl;
}
  where
    next : map {A = Tenant} {B = ℕ} (λ _. 1) tenants ≡ map {A = Tenant} {B = ℕ} (λ _. 1) others
    next =
        sym (map-map {A = Tenant} {B = Text} {C = ℕ} (λ _. 1) (λ x. x.name) tenants)
        ∙ ap (map {A = Text} {B = ℕ} (λ _. 1)) same.names
        ∙ map-map {A = Tenant} {B = Text} {C = ℕ} (λ _. 1) (λ x. x.name) others

pub followed : (tenants others : List Tenant) (slots : ℕ) (contents : ContentRules) (t : ℕ) (es : List Event) (C' : Catalog) → AreTenantsAlike t tenants others → (f : IsCollisionFreeRun tenants slots contents es C') →
    AllByRecursion IsUnaffectedByOthers (events_of tenants t es) → Follows (content_of (pairs_of tenants slots contents es C' f)) t C' (opening others slots contents) (events_of tenants t es)
followed tenants others slots contents t es C' same f free =
    let content : Text → Text = content_of (pairs_of tenants slots contents es C' f) in
    follows content tenants t es (opening tenants slots contents) C' (opening others slots contents) refl f.run (fits_content (pairs_of tenants slots contents es C' f) f.no_collision)
    (opening_alike t tenants others slots contents same) (consistent_opening content tenants slots contents) (consistent_opening content others slots contents) free

pub isolated : TenantsAreIsolated
isolated tenants others slots contents t es C' same f free =
    let h = followed tenants others slots contents t es C' same f free in
    record { replies = h.told; tenant_view = same_part (content_of (pairs_of tenants slots contents es C' f)) t C' (isolated_catalog (opening others slots contents) (commands_of (events_of tenants t es))) h.alike h.consistent h.consistent_alone }
