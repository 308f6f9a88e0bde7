-- The tenants that arguments spell.
use Rattle.std.specs.Prelude.{◌≡◌, ◌⊎◌, ◌<◌, ◌≤◌, ◌==◌, ◌&&◌, ℕ, Bool, List, [], ◌∷◌, ◌++◌, MatchOption, None, Option, Some, if◌then◌else◌, length, map, nat_lt, option_and_then, true, false}
use Rattle.std.specs.Borrow.{Bor}
use Rattle.std.specs.Option.{option_map}
use Rattle.std.specs.List.{after_first, before_first, list_any, position_or_len}
use Rattle.spec_lib.specs.Texts.{Text, same_text}
use Rattle.blob_digest.specs.Names.{IsComponent}
use Rattle.blob_digest.specs.Ranges.{number_of}
use Rattle.blob_digest.specs.Tenants.{AreSupported, Limits, Tenant, usual_limits}
use Rattle.link_table.specs.declared.tenants.TenantLimits.{TenantLimits}
use Rattle.link_table.specs.declared.tenants.TenantSettings.{TenantSettings}
use Rattle.link_table.specs.Tenancy.{limits_shown, max_quota, max_tenants, tenants_shown}
use Rattle.tenant_args.specs.declared.fault.TenantFault.{TenantFault}
use Rattle.tenant_args.specs.declared.fault.TenantFault.TheVariants.{BadTenant, Memory}

-- the number of slots that a share without limit has, which is more than those of a store
abbrev pub unlimited_share : ℕ
unlimited_share = 4294967295

-- whether a text has a comma
abbrev pub has_comma : Text → Bool
has_comma text = nat_lt (position_or_len (λ b. b == 44) text) (length text)

-- the parts of a text before and after its first comma
abbrev pub before_comma : Text → Text
before_comma text = before_first (λ b. b == 44) text

abbrev pub after_comma : Text → Text
after_comma text = after_first (λ b. b == 44) text

-- limits as three numbers: those of repositories, of manifests and of sessions
abbrev pub Numbers : Type 0
Numbers = ℕ × ℕ × ℕ

abbrev pub numbers_in : Limits → Numbers
numbers_in limits = (limits.repos, limits.manifests, limits.sessions)

-- the numbers that three texts spell in decimal digits
abbrev pub three_numbers : Text → Text → Text → Option Numbers
three_numbers a b c = option_and_then (λ r. option_and_then (λ m. option_map (λ s. (r, m, s)) (number_of c)) (number_of b)) (number_of a)

-- the three numbers that a text spells, with commas between them
abbrev pub numbers_of : Text → Option Numbers
numbers_of text =
    if has_comma text && has_comma (after_comma text) then three_numbers (before_comma text) (before_comma (after_comma text)) (after_comma (after_comma text)) else None

-- the share that a text spells in decimal digits, with the usual limits
abbrev pub share_of : Text → Option (ℕ × Numbers)
share_of text = option_map (λ share. (share, numbers_in usual_limits)) (number_of text)

-- the share and the limits that two texts spell
abbrev pub share_and_limits : Text → Text → Option (ℕ × Numbers)
share_and_limits share limits = option_and_then (λ s. option_map (λ l. (s, l)) (numbers_of limits)) (number_of share)

-- the share and the limits that a text spells: the limits follow a comma, if there is one
abbrev pub bounds_of : Text → Option (ℕ × Numbers)
bounds_of text = if has_comma text then share_and_limits (before_comma text) (after_comma text) else share_of text

-- the quota that a text spells in decimal digits, with the share without limit and the usual limits
abbrev pub quota_of : Text → Option (ℕ × (ℕ × Numbers))
quota_of text = option_map (λ quota. (quota, (unlimited_share, numbers_in usual_limits))) (number_of text)

-- the quota, the share and the limits that two texts spell
abbrev pub quota_and_bounds : Text → Text → Option (ℕ × (ℕ × Numbers))
quota_and_bounds quota bounds = option_and_then (λ q. option_map (λ b. (q, b)) (bounds_of bounds)) (number_of quota)

-- the quota, the share and the limits that a text spells: the last two follow a comma, if they are allowed and there is one
abbrev pub settings_of : Bool → Text → Option (ℕ × (ℕ × Numbers))
settings_of shares text = if shares && has_comma text then quota_and_bounds (before_comma text) (after_comma text) else quota_of text

-- limits that an argument may give: each is at least 1, and none is above the greatest
pub record AreAccepted (limits : Limits) : Type 0 where
  pub some : (0 < limits.repos) × (0 < limits.manifests) × (0 < limits.sessions)
  pub supported : AreSupported limits

-- the argument is the tenant's name, `=`, and its quota, and its share and limits, if shares are allowed
pub record IsTenantArgument (shares : Bool) (word : Text) (tenant : Tenant) : Type 0 where
  pub parted : position_or_len (λ b. b == 61) word < length word
  pub name : tenant.name ≡ before_first (λ b. b == 61) word
  pub component : IsComponent tenant.name
  pub settings : settings_of shares (after_first (λ b. b == 61) word) ≡ Some (tenant.quota, (tenant.share, numbers_in tenant.limits))
  pub small : tenant.quota ≤ max_quota
  pub few : tenant.share ≤ unlimited_share
  pub limits : AreAccepted tenant.limits

-- the argument spells the tenant with this name, quota, share and limits
abbrev pub NamesTenant : Bool → Text → Text → ℕ → ℕ → TenantLimits → Type 0
NamesTenant shares word name quota share limits =
    IsTenantArgument shares word (record { name = name; quota = quota; share = share; limits = limits_shown limits })

-- the argument spells no tenant
abbrev pub NamesNoTenant : Bool → Text → Type 0
NamesNoTenant shares word = (tenant : Tenant) → IsTenantArgument shares word tenant → ⊥

-- the result is the name, quota, share and limits of the tenant that the argument spells, or there is none
abbrev pub ReadsTenant : Bool → Text → Option (Bor Text × ℕ × ℕ × TenantLimits) → Type 0
ReadsTenant shares word result =
    MatchOption result (NamesNoTenant shares word) (λ t. NamesTenant shares word t.0.now t.1 t.2 t.3)

-- no accepted limits have these numbers
abbrev pub AreRefused : Numbers → Type 0
AreRefused numbers = (limits : Limits) → numbers ≡ numbers_in limits → AreAccepted limits → ⊥

-- the accepted limits with these numbers
abbrev pub AreAcceptedAs : Numbers → TenantLimits → Type 0
AreAcceptedAs numbers limits = (numbers ≡ numbers_in (limits_shown limits)) × AreAccepted (limits_shown limits)

-- the result is the limits with these numbers, if they are accepted
abbrev pub TakesLimits : Numbers → Option TenantLimits → Type 0
TakesLimits numbers result = MatchOption result (AreRefused numbers) (AreAcceptedAs numbers)

-- the arguments spell these tenants, one each
abbrev pub SpellTenants : Bool → List Text → List Tenant → Type 0
SpellTenants shares [] [] = Unit {0}
SpellTenants shares (word ∷ words) (tenant ∷ tenants) = IsTenantArgument shares word tenant × SpellTenants shares words tenants
SpellTenants shares words tenants = ⊥

-- the maximum number of tenants: that of a store if shares are allowed, and else that of a script's store
abbrev pub most_tenants : Bool → ℕ
most_tenants true = max_tenants
most_tenants false = 256

-- the argument is bad after these tenants: it spells no tenant, repeats the name of one of them, or comes after as many as there may be
abbrev pub IsRefusedAfter : Bool → List Tenant → Text → Type 0
IsRefusedAfter shares tenants word =
    NamesNoTenant shares word
    ⊎ ((tenant : Tenant) × IsTenantArgument shares word tenant × (list_any (λ t. same_text t.name tenant.name) tenants ≡ true))
    ⊎ (most_tenants shares ≤ length tenants)

-- there is no argument, or one is bad after the tenants of those before it
abbrev pub HasBadTenant : Bool → List Text → Type 0
HasBadTenant shares words =
    (words ≡ [])
    ⊎ ((before : List Text) × (tenants : List Tenant) × (word : Text) × (after : List Text) × (words ≡ before ++ word ∷ after) × SpellTenants shares before tenants × IsRefusedAfter shares tenants word)

-- the texts of a list of arguments
abbrev pub texts_of : List (Bor Text) → List Text
texts_of words = map (λ w. w.now) words

-- the argument's tenant, whose name is new among fewer tenants than there may be, is added at the end
abbrev pub AddsTenant : Bool → Text → List TenantSettings → List TenantSettings → Type 0
AddsTenant shares word old new =
    (tenant : Tenant)
    × IsTenantArgument shares word tenant
    × (list_any (λ t. same_text t.name tenant.name) (tenants_shown old) ≡ false)
    × (length old < most_tenants shares)
    × (tenants_shown new ≡ tenants_shown old ++ tenant ∷ [])

-- the fault is `Memory`, or it is `BadTenant` and the condition holds
abbrev pub IsBadOnlyIf : Type 0 → TenantFault → Type 0
IsBadOnlyIf P e = (e ≡ Memory) ⊎ ((e ≡ BadTenant) × P)

-- the fault is `Memory`, or it is `BadTenant` of an argument that is bad after these tenants
abbrev pub IsAddFault : Bool → List TenantSettings → Text → TenantFault → Type 0
IsAddFault shares tenants word e = IsBadOnlyIf (IsRefusedAfter shares (tenants_shown tenants) word) e
