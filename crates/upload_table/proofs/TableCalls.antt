-- The table after a call on a tenant that has a session.
use Rattle.std.proofs.Common.{◌≡◌, ℕ, ◌<◌, ◌≤◌, true, List, [], ◌∷◌, length, map, filter, set, get_or, Option, Some, None, is_some, cond, refl, sym, ap, ◌∙◌, false}
use Rattle.std.specs.Prelude.{slice_get}
use Rattle.std.specs.Option.{option_map_or}
use Rattle.std.specs.List.{AllByRecursion}
use Rattle.std.specs.FinMap.{entries, get, remove}
use Rattle.std.proofs.lemmas.Bool.{false≢true}
use Rattle.std.proofs.lemmas.Option.{slice_get_past}
use Rattle.spec_lib.specs.Texts.{Text, same_text}
use Rattle.store_model.specs.Sessions.{Chunks, Session, session_charges, is_checked_in, number_and_length, sessions_of, with_chunks}
use Rattle.upload_table.specs.Tenants.{SessionsByNumber, charged_in, tenant_entry, tenants_shown, with_chunks_here, without_number}
use Rattle.upload_table.specs.Uploaded.{Uploaded, with_sessions}
use Rattle.upload_table.specs.Rows.{entry_of, row_listed, rows_listed, HasConsistentBuffer}
use Rattle.upload_table.specs.declared.upload.Upload.{Upload}
use Rattle.upload_table.proofs.AllTenants.{all_of, charged_there, get_there, own, sessions_there, shown-chunks, shown-without_number, tenant_at, tenant_there}
use Rattle.upload_table.proofs.TenantRows.{received_is}

-- a checked-in session exists
pub home_value : (o : Option Session) → is_checked_in o ≡ true → (x : Session) × (o ≡ Some x)
home_value None h = absurd (false≢true h)
home_value (Some x) h = (x, refl)

module _ (tenants : List SessionsByNumber) (v : Uploaded) (shows : tenants_shown tenants ≡ v) (t n : ℕ) (x : Session) (found : get v.sessions (t, n) ≡ Some x) where
  pub within : t < length tenants
  within = tenant_there tenants t n (ap is_some (ap (λ (u : Uploaded). get u.sessions (t, n)) shows ∙ found))

  module _ (s : SessionsByNumber) (is : s ≡ get_or tenants t s) where
    read : slice_get tenants t ≡ Some s
    read = tenant_at tenants t s within is

    pub found_here : get s.sessions n ≡ Some x
    found_here = sym (get_there tenants t s read n) ∙ ap (λ (u : Uploaded). get u.sessions (t, n)) shows ∙ found

    pub charged_here : session_charges v.sessions t ≡ charged_in s
    charged_here = ap (λ (u : Uploaded). session_charges u.sessions t) (sym shows) ∙ charged_there tenants t s read

    pub after-chunks : (new : SessionsByNumber) (c : Chunks) → new ≡ with_chunks_here s n c → tenants_shown (set tenants t new) ≡ with_sessions v (with_chunks v.sessions (t, n) x c)
    after-chunks new c is = shown-chunks tenants t s read new n c x is found_here ∙ ap (λ (u : Uploaded). with_sessions u (with_chunks u.sessions (t, n) x c)) shows

    pub after-without_number : (new : SessionsByNumber) → new ≡ without_number s n → tenants_shown (set tenants t new) ≡ with_sessions v (remove v.sessions (t, n))
    after-without_number new is = shown-without_number tenants t s read new n is ∙ ap (λ (u : Uploaded). with_sessions u (remove u.sessions (t, n))) shows

-- ---- a repository's sessions

listed_rows : (t : ℕ) (repo : Text) (rows : List Upload) → AllByRecursion (λ (u : Upload). HasConsistentBuffer u.content) rows → map number_and_length (map (tenant_entry t) (filter (λ e. same_text e.1.repo repo) (map entry_of rows))) ≡ rows_listed repo rows
listed_rows t repo [] all = refl
listed_rows t repo (u ∷ rows) all = elim (same_text u.repo repo) as (λ b. map number_and_length (map (tenant_entry t) (cond b (entry_of u ∷ filter (λ e. same_text e.1.repo repo) (map entry_of rows)) (filter (λ e. same_text e.1.repo repo) (map entry_of rows)))) ≡ map row_listed (cond b (u ∷ filter (λ r. same_text r.repo repo) rows) (filter (λ r. same_text r.repo repo) rows))) [
  | true ↦ (λ i. (u.number, received_is u all.0 i) ∷ listed_rows t repo rows all.1 i)
  | false ↦ listed_rows t repo rows all.1
]

pub listed_there : (tenants : List SessionsByNumber) (t : ℕ) (s : SessionsByNumber) (repo : Text) (rows : List Upload) → slice_get tenants t ≡ Some s → map entry_of rows ≡ entries s.sessions → AllByRecursion (λ (u : Upload). HasConsistentBuffer u.content) rows →
    rows_listed repo rows ≡ map number_and_length (sessions_of (all_of tenants) t repo)
listed_there tenants t s repo rows at shown whole =
    let rows_are : own tenants t ≡ map entry_of rows = ap (λ o. option_map_or (λ (x : SessionsByNumber). entries x.sessions) o []) at ∙ sym shown in
    sym (ap (map number_and_length) (sessions_there tenants t repo ∙ ap (λ es. map (tenant_entry t) (filter (λ e. same_text e.1.repo repo) es)) rows_are) ∙ listed_rows t repo rows whole)

pub listed_nowhere : (tenants : List SessionsByNumber) (t : ℕ) (repo : Text) → length tenants ≤ t → [] ≡ map number_and_length (sessions_of (all_of tenants) t repo)
listed_nowhere tenants t repo past =
    let none : own tenants t ≡ [] = ap (λ o. option_map_or (λ (x : SessionsByNumber). entries x.sessions) o []) (slice_get_past tenants t past) in
    sym (ap (map number_and_length) (sessions_there tenants t repo ∙ ap (λ es. map (tenant_entry t) (filter (λ e. same_text e.1.repo repo) es)) none))
