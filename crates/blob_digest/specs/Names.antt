-- The grammar of repository names.
use Rattle.std.specs.Prelude.{◌≡◌, ◌⊎◌, ◌<◌, ◌≤◌, ℕ, List, ◌∷◌, ◌++◌, length, codes, Bool, true, nat_le, ◌&&◌, ◌||◌, ◌==◌}
use Rattle.std.specs.List.{list_all, before_first}
use Rattle.blob_digest.specs.declared.refusal.Refusal.{Refusal}
use Rattle.blob_digest.specs.declared.refusal.Refusal.TheVariants.{NameInvalid, Memory}

-- whether the byte is a lower-case letter or a digit
abbrev pub is_alnum : ℕ → Bool
is_alnum c = (nat_le 97 c && nat_le c 122) || (nat_le 48 c && nat_le c 57)

-- whether the byte is a `-`
abbrev pub is_dash : ℕ → Bool
is_dash c = c == 45

-- the text is one or more lower-case letters and digits
abbrev pub IsNameRun : List ℕ → Type 0
IsNameRun r = (0 < length r) × (list_all is_alnum r ≡ true)

-- the text is `.`, `_`, `__`, or one or more `-`
abbrev pub IsSeparator : List ℕ → Type 0
IsSeparator s = (s ≡ codes ".") ⊎ (s ≡ codes "_") ⊎ (s ≡ codes "__") ⊎ ((0 < length s) × (list_all is_dash s ≡ true))

-- the text is runs joined by separators
pub data IsComponent : List ℕ → Type 0 where
  run : (r : List ℕ) → IsNameRun r → IsComponent r
  joined : (r s c : List ℕ) → IsNameRun r → IsSeparator s → IsComponent c → IsComponent (r ++ (s ++ c))

-- the text is components joined by `/`
pub data IsPath : List ℕ → Type 0 where
  component : (c : List ℕ) → IsComponent c → IsPath c
  slashed : (c p : List ℕ) → IsComponent c → IsPath p → IsPath (c ++ (47 ∷ p))

-- the text is the name of a repository (OCI Distribution Specification 1.1, "Pulling manifests") of at most 255 bytes
abbrev pub IsRepoName : List ℕ → Type 0
IsRepoName text = IsPath text × (length text ≤ 255)

-- the refusal is `NameInvalid` of a text that is no name, or `Memory` of a name
abbrev pub IsNameRefusal : List ℕ → Refusal → Type 0
IsNameRefusal text e = ((e ≡ NameInvalid) × (¬ IsRepoName text)) ⊎ ((e ≡ Memory) × IsRepoName text)

-- the tenant of a repository: the first component of its name
abbrev pub tenant_name : List ℕ → List ℕ
tenant_name repo = before_first (λ b. b == 47) repo

-- the text is a repository's name, and `tenant_len` is the length of its tenant's name
pub record IsNamed (text : List ℕ) (tenant_len : ℕ) : Type 0 where
  pub name : IsRepoName text
  pub tenant : tenant_len ≡ length (tenant_name text)
