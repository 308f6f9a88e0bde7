-- The theorems about histories from any sound catalog.
use Rattle.std.proofs.Common.{◌≡◌, ℕ, Bool, true, false, cond, List, [], ◌∷◌, ◌++◌, map, Option, Some, None, is_some, refl, sym, ap, ◌∙◌, subst}
use Rattle.std.specs.Cmp.{Equal-is}
use Rattle.std.specs.Ordering.{eq_by_cmp}
use Rattle.std.specs.FinMap.{empty, entries, find, get, get-empty, get-entries}
use Rattle.std.proofs.lemmas.Map.Lookups.{exact_bytes}
use Rattle.spec_lib.specs.Texts.{Text, text_cmp}
use Rattle.spec_lib.proofs.Options.{nothing, some_none, some_same}
use Rattle.store_model.specs.Catalog.{Catalog, CheckedIn, CheckedOutWith, Chunks, Resident, Session, SessionNumber, Tenant, session_number_cmp}
use Rattle.store_model.specs.Durable.{Agrees, AgreesOnChunks, AgreesOnSession, DurableState}
use Rattle.store_model.specs.Histories.{initial_state}
use Rattle.store_model.specs.HistoryIsolation.{catalog_after_requests, requests_of, steps_of, uploads_of_history}
use Rattle.store_model.specs.Invariant.{WellFormed}
use Rattle.store_model.specs.Noninterference.{AreTenantsAlike}
use Rattle.store_model.specs.Restarts.{RestartedHistoriesAreRuns, TenantsAreIsolatedFrom, stored_contents, with_others}
use Rattle.store_model.specs.Sessions.{are_checked_in}
use Rattle.store_model.proofs.Invariant.SessionTenants.{session_owner}
use Rattle.store_model.proofs.Invariant.TenantNames.{same_tenant}
use Rattle.store_model.proofs.Noninterference.Hands.{Owned}
use Rattle.store_model.proofs.Noninterference.Histories.{Follows, follows}
use Rattle.store_model.proofs.Noninterference.Runs.{content_of, fits_both, fits_content, same_part}
use Rattle.store_model.proofs.Noninterference.SameFor.{Alike, Consistent}
use Rattle.store_model.proofs.Noninterference.StepConsistency.{Fits}
use Rattle.store_model.proofs.WholeCommands.AtHome.{AreOne, AtHome}
use Rattle.store_model.proofs.WholeCommands.Histories.{whole}

-- ---- whole commands

module _ (D : DurableState) (C : Catalog) (a : Agrees empty D C) where
  home : (k : SessionNumber) (repo : Text) (x : Chunks) (chunks : List Text) → AgreesOnChunks (get {R = session_number_cmp} empty k) repo x chunks → are_checked_in x ≡ true
  home k repo (CheckedIn cs) chunks is = refl
  home k repo (CheckedOutWith n m) chunks is = nothing (get-empty session_number_cmp k) is.1

  all_home : AtHome empty C C.sessions
  all_home k = subst (λ o. AreOne C.tenants C.contents.max_blob k (get C.sessions k) o (get C.sessions k)) (sym (get-empty session_number_cmp k)) (by (get C.sessions k) (a.sessions k))
    where
      by : (o : Option Session) → AgreesOnSession (get {R = session_number_cmp} empty k) (get D.sessions k) o → AreOne C.tenants C.contents.max_blob k o None o
      by None is = refl
      by (Some s) is = (home k s.repo s.chunks is.0 is.3, refl)

pub restarted_histories_are_runs : RestartedHistoriesAreRuns
restarted_histories_are_runs D C steps s events a sound run calm are named = whole steps (initial_state C) s empty C.sessions events (all_home D C a) sound run calm are named

-- ---- isolation

-- a property of every entry is one of every value that is found
fits_found : (content : Text → Text) (es : List (Text × Resident)) → Fits content (map {B = Text × Text} (λ e. (e.0, e.1.bytes)) es) → (d : Text) (b : Resident) → find text_cmp d es ≡ Some b → b.bytes ≡ content d
fits_found content [] fits d b found = some_none (sym found)
fits_found content (e ∷ es) fits d b found = by (eq_by_cmp text_cmp d e.0) refl found (fits_found content es fits.1 d b)
  where
    by : (x : Bool) → eq_by_cmp text_cmp d e.0 ≡ x → cond x (Some e.1) (find text_cmp d es) ≡ Some b → (find text_cmp d es ≡ Some b → b.bytes ≡ content d) → b.bytes ≡ content d
    by true tie is later = ap (λ (y : Resident). y.bytes) (sym (some_same is)) ∙ sym fits.0 ∙ ap content (sym (exact_bytes d e.0 ((Equal-is (text_cmp d e.0)).0 tie)))
    by false tie is later = later is

consistent_from : (content : Text → Text) (C : Catalog) → WellFormed C → Fits content (stored_contents C) → Consistent content C
consistent_from content C lawful fits = record {
  repos = lawful.repositories.owned;
  links = λ l has. (lawful.links l has).repo;
  kept = λ l has. ap is_some (lawful.links l has).kept.1;
  manifests = λ l b found. (lawful.manifests l b found).repo;
  sessions = λ k s found. (lawful.sessions k s found).repo;
  owners = λ k s found. session_owner C lawful k s found;
  bytes = λ d b found. fits_found content (entries C.residents) fits d b (sym (get-entries C.residents d) ∙ found);
}

owned_from : (C : Catalog) → WellFormed C → Owned C
owned_from C lawful k s found = session_owner C lawful k s found

-- the catalog is consistent with other settings of its tenants, and equivalent for the tenant that has the same ones
module _ (content : Text → Text) (C : Catalog) (others : List Tenant) (t : ℕ) (same : AreTenantsAlike t C.tenants others) where
  others_consistent : Consistent content C → Consistent content (with_others C others)
  others_consistent c = record {
    repos = λ r there. subst (λ o. is_some o ≡ true) (same_tenant C.tenants others same.names r) (c.repos r there);
    links = c.links;
    kept = c.kept;
    manifests = c.manifests;
    sessions = c.sessions;
    owners = λ k s found. sym (same_tenant C.tenants others same.names s.repo) ∙ c.owners k s found;
    bytes = c.bytes;
  }

  others_alike : Alike t C (with_others C others)
  others_alike = record {
    tenants = same;
    contents = refl;
    numbers = refl;
    next = refl;
    repos = λ q is. refl;
    links = λ q is. refl;
    manifests = λ q is. refl;
    sessions = λ q is. refl;
  }

pub tenants_are_isolated_from : TenantsAreIsolatedFrom
tenants_are_isolated_from C others t steps s same sound fair free =
    let pairs = stored_contents C ++ uploads_of_history (initial_state C) steps s fair.run in
    let content : Text → Text = content_of pairs in
    let both = fits_both content (stored_contents C) (uploads_of_history (initial_state C) steps s fair.run) (fits_content pairs fair.no_collision) in
    let c = consistent_from content C sound.lawful both.0 in
    let h : Follows content t s.catalog (with_others C others) (steps_of C.tenants t steps) =
    follows content C.tenants t steps (initial_state C) s (with_others C others) refl fair.run both.1 (others_alike content C others t same) c (owned_from C sound.lawful) (others_consistent content C others t same c) free in
    record { replies = h.replies; tenant_view = same_part content t s.catalog (catalog_after_requests (with_others C others) (requests_of (steps_of C.tenants t steps))) h.alike h.consistent h.consistent_alone }
