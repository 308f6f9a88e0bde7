-- The manifests of all repositories, and a repository's manifest that refers to a digest.
use Rattle.std.specs.Prelude.{ℕ, ◌&&◌, nat_le, Option, Result, Ok, Err, List, map, filter, count_by, if◌then◌else◌}
use Rattle.std.specs.Option.{option_map}
use Rattle.std.specs.List.{find}
use Rattle.std.specs.BTreeMap.{BTreeMap}
use Rattle.std.specs.FinMap as fmap
use Rattle.blob_digest.specs.Digests.{sha256_text}
use Rattle.spec_lib.specs.Texts.{Text, same_text}
use Rattle.blob_digest.specs.Keys.{link_cmp}
use Rattle.blob_digest.specs.Outcomes.{Does, OutcomeIn}
use Rattle.spec_lib.specs.Trees.{map_of}
use Rattle.blob_digest.specs.declared.refusal.Refusal.{Refusal}
use Rattle.blob_digest.specs.declared.refusal.Refusal.TheVariants.{LimitReached}
use Rattle.oci_manifest.specs.Manifests.{refers}
use Rattle.link_table.specs.Groups.{ungrouped}
use Rattle.link_table.specs.Manifests.{RepoManifestBytes}

-- the bytes of each manifest, by repository and digest
abbrev pub ManifestBytes : Type 0
ManifestBytes = fmap.FinMap link_cmp Text

-- the number of a repository's manifests
abbrev pub manifests_in : ManifestBytes → Text → ℕ
manifests_in m repo = count_by (λ e. same_text e.0.0 repo) (fmap.entries m)

-- a repository's manifests, in the order of their digests
abbrev pub manifests_on : ManifestBytes → Text → List (Text × Text)
manifests_on m repo = map (λ e. (e.0.1, e.1)) (filter (λ e. same_text e.0.0 repo) (fmap.entries m))

-- the least digest of a manifest of a repository that refers to a digest
abbrev pub referrer_on : ManifestBytes → Text → Text → Option Text
referrer_on m repo digest = option_map (λ e. e.0.1) (find (λ e. same_text e.0.0 repo && refers e.1 digest) (fmap.entries m))

-- the manifests with this one under its digest, or `LimitReached` if the repository has n others, the limit
abbrev pub put_on : ℕ → ManifestBytes → Text → Text → OutcomeIn ManifestBytes (Unit {0})
put_on n m repo bytes =
    if fmap.contains_key m (repo, sha256_text bytes) then Ok (tt {0}, m) else
    if nat_le n (manifests_in m repo) then Err LimitReached else Ok (tt {0}, fmap.insert m (repo, sha256_text bytes) bytes)

-- the call has this outcome, with its result read as it is
abbrev pub Fulfils : {S A : Type 0} → Result A Refusal → S → S → OutcomeIn S A → Type 0
Fulfils result old new outcome = Does (λ a. a) result old new outcome

-- ---- the rows

-- the manifests that the rows show
abbrev pub manifest_bytes : BTreeMap Text RepoManifestBytes → ManifestBytes
manifest_bytes rows = ungrouped (map_of rows)
