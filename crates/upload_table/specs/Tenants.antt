-- The sessions of one tenant by number, and those of all tenants together, which contracts see of `Uploads`.
use Rattle.std.specs.Prelude.{ℕ, ◌+◌, ◌^◌, ◌||◌, nat_le, Bool, List, [], ◌∷◌, ◌++◌, length, map, sum_by, Ok, Err, if◌then◌else◌}
use Rattle.std.proofs.Common.{refl}
use Rattle.std.specs.Option.{option_map_or}
use Rattle.std.specs.Ordering.{nat_cmp}
use Rattle.std.specs.FinMap as fmap
use Rattle.std.specs.Coded.{Coded, code_by, coded×, coded_ℕ}
use Rattle.spec_lib.specs.Texts.{Text}
use Rattle.blob_digest.specs.Keys.{SessionNumber}
use Rattle.blob_digest.specs.Outcomes.{OutcomeIn}
use Rattle.blob_digest.specs.declared.refusal.Refusal.TheVariants.{LimitReached}
use Rattle.store_model.specs.Sessions.{Chunks, CheckedIn, Session, charged_length, coded_session}
use Rattle.upload_table.specs.Uploaded.{Uploaded}

-- a tenant's next number, and its sessions by number
pub record SessionsByNumber : Type 0 where
  pub next : ℕ
  pub sessions : fmap.FinMap nat_cmp Session

-- the code of a tenant's sessions, which a model's value needs
abbrev pub coded_sessions_by_number : Coded SessionsByNumber
coded_sessions_by_number = code_by (ℕ × fmap.FinMap nat_cmp Session) (coded× coded_ℕ (fmap.code coded_ℕ coded_session)) (λ s. (s.next, s.sessions)) (λ p. record { next = p.0; sessions = p.1 }) (λ _. refl)

-- a tenant without sessions, whose first session gets this number
abbrev pub no_sessions : ℕ → SessionsByNumber
no_sessions first = record { next = first; sessions = fmap.empty }

-- the number of bytes that the sessions count in the tenant's usage
abbrev pub charged_in : SessionsByNumber → ℕ
charged_in s = sum_by (λ e. charged_length e.1) (fmap.entries s.sessions)

-- there are n sessions, the limit, or all numbers below 2^32 were used
abbrev pub is_exhausted : ℕ → SessionsByNumber → Bool
is_exhausted n s = nat_le n (length (fmap.entries s.sessions)) || nat_le (2 ^ 32) s.next

-- the tenant, whose limit is n, with one more session, under the next number, or `LimitReached`
abbrev pub start_here : ℕ → SessionsByNumber → Text → OutcomeIn SessionsByNumber ℕ
start_here n s repo = if is_exhausted n s then Err LimitReached else Ok (s.next, record { next = s.next + 1; sessions = fmap.insert s.sessions s.next (record { repo = repo; chunks = CheckedIn [] }) })

-- the tenant with these chunks in the session of a number
abbrev pub with_chunks_here : SessionsByNumber → ℕ → Chunks → SessionsByNumber
with_chunks_here s n chunks = record s { sessions = option_map_or (λ x. fmap.insert s.sessions n (record x { chunks = chunks })) (fmap.get s.sessions n) s.sessions }

-- the tenant without the session of a number
abbrev pub without_number : SessionsByNumber → ℕ → SessionsByNumber
without_number s n = record s { sessions = fmap.remove s.sessions n }

-- ---- all tenants together

-- a tenant's session, under its number
abbrev pub tenant_entry : ℕ → ℕ × Session → SessionNumber × Session
tenant_entry t e = ((t, e.0), e.1)

-- the sessions of tenants whose places begin at t
abbrev pub entries_from : ℕ → List SessionsByNumber → List (SessionNumber × Session)
entries_from t [] = []
entries_from t (s ∷ tenants) = map (tenant_entry t) (fmap.entries s.sessions) ++ entries_from (t + 1) tenants

-- the table that the tenants show
abbrev pub tenants_shown : List SessionsByNumber → Uploaded
tenants_shown tenants = record { next = map (λ s. s.next) tenants; sessions = fmap.from_entries (entries_from 0 tenants) }
