-- The index of tenants by their names.
use Rattle.std.specs.Prelude.{◌≡◌, ℕ, Option, Some, List, if◌then◌else◌, position, string_bytes}
use Rattle.std.specs.BTreeMap.{get_by_text}
use Rattle.spec_lib.specs.Texts.{Text, same_text}
use Rattle.link_table.specs.declared.tenant_index.TenantIndex.{TenantIndex}
use Rattle.link_table.specs.declared.tenants.TenantSettings.{TenantSettings}

-- the number that an index has for a name
abbrev pub number_at : TenantIndex → Text → Option ℕ
number_at index name = get_by_text index.numbers name

-- the position of the tenant with this name
abbrev pub position_of : List TenantSettings → Text → Option ℕ
position_of ts name = position (λ t. same_text (string_bytes t.name) name) ts

-- the index has the position of each tenant for its name, and nothing else
abbrev pub IsIndexOf : List TenantSettings → TenantIndex → Type 0
IsIndexOf ts index = (name : Text) → number_at index name ≡ position_of ts name

-- the new index has this number for this name, and what the old one has for each other name
abbrev pub AddsNumber : TenantIndex → TenantIndex → Text → ℕ → Type 0
AddsNumber old new name number = (other : Text) → number_at new other ≡ (if same_text name other then Some number else number_at old other)

-- both indexes have the same numbers
abbrev pub HasSameNumbers : TenantIndex → TenantIndex → Type 0
HasSameNumbers old new = (name : Text) → number_at new name ≡ number_at old name
