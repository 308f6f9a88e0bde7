-- The manifests of one repository, and the set of their references.
use Rattle.std.specs.Prelude.{◌≡◌, ℕ, Bool, false, ◌&&◌, ◌||◌, not, nat_le, Option, Some, None, Ok, Err, List, map, if◌then◌else◌}
use Rattle.std.specs.declared.cmp.Ordering.{Ordering}
use Rattle.std.specs.declared.alloc.Global.{Global}
use Rattle.std.specs.declared.sync.Arc.{Arc}
use Rattle.std.specs.Borrow.{Bor}
use Rattle.std.specs.Ordering.{ordering_then}
use Rattle.std.specs.Option.{option_map, option_map_or, option_cmp}
use Rattle.std.specs.List.{list_any, find}
use Rattle.std.specs.BTreeMap.{BTreeMap}
use Rattle.std.specs.BTreeSet.{BTreeSet, contains}
use Rattle.std.specs.FinMap as fmap
use Rattle.blob_digest.specs.Digests.{sha256_text}
use Rattle.spec_lib.specs.Texts.{Text, text_cmp, same_text}
use Rattle.blob_digest.specs.Outcomes.{OutcomeIn}
use Rattle.blob_digest.specs.declared.refusal.Refusal.TheVariants.{LimitReached}
use Rattle.oci_manifest.specs.Manifests.{refers}

-- the bytes of each manifest of a repository, by digest
abbrev pub RepoManifestBytes : Type 0
RepoManifestBytes = fmap.FinMap text_cmp Text

-- the least digest of a manifest that refers to a digest
abbrev pub referrer_in : RepoManifestBytes → Text → Option Text
referrer_in m digest = option_map (λ e. e.0) (find (λ e. refers e.1 digest) (fmap.entries m))

-- the manifests with this one under its digest, or `LimitReached` if there are n others, the limit
abbrev pub put_in : ℕ → RepoManifestBytes → Text → OutcomeIn RepoManifestBytes (Unit {0})
put_in n m bytes =
    if fmap.contains_key m (sha256_text bytes) then Ok (tt {0}, m) else
    if nat_le n (fmap.len m) then Err LimitReached else Ok (tt {0}, fmap.insert m (sha256_text bytes) bytes)

-- ---- the rows

-- the bytes of shared manifests, each with its digest
abbrev pub shared_bytes : List (Text × Arc Text Global) → List (Text × Text)
shared_bytes es = map (λ e. (e.0, e.1.value)) es

-- the bytes of a shared manifest that was found
abbrev pub found_bytes : Option (Bor (Arc Text Global)) → Option Text
found_bytes o = option_map (λ m. m.now.value) o

-- the bytes of a manifest that was found, with its digest
abbrev pub found_manifest : Option (Text × Bor Text) → Option (Text × Text)
found_manifest o = option_map (λ e. (e.0, e.1.now)) o

-- the manifests in a tree of shared manifests
abbrev pub stored_manifests : BTreeMap Text (Arc Text Global) → RepoManifestBytes
stored_manifests rows = fmap.from_entries (shared_bytes rows.entries)

-- the order of pairs: by the digest, and then by the manifest that refers to it
abbrev pub refer_cmp : Text × Option Text → Text × Option Text → Ordering
refer_cmp a b = ordering_then (text_cmp a.0 b.0) (option_cmp text_cmp a.1 b.1)

-- the pair has this manifest and one of these references
abbrev pub is_pair : List Text → Text → Text → Option Text → Bool
is_pair refs manifest d None = false
is_pair refs manifest d (Some m) = same_text manifest m && list_any (same_text d) refs

-- the references of this manifest are added to the set
abbrev pub AddsPairs : BTreeSet (Text × Option Text) → BTreeSet (Text × Option Text) → List Text → Text → Type 0
AddsPairs old new refs manifest = (d : Text) (o : Option Text) → contains refer_cmp new (d, o) ≡ (contains refer_cmp old (d, o) || is_pair refs manifest d o)

-- the references of this manifest are removed from the set
abbrev pub RemovesPairs : BTreeSet (Text × Option Text) → BTreeSet (Text × Option Text) → List Text → Text → Type 0
RemovesPairs old new refs manifest = (d : Text) (o : Option Text) → contains refer_cmp new (d, o) ≡ (contains refer_cmp old (d, o) && not (is_pair refs manifest d o))

-- both sets have the same references
abbrev pub HasSamePairs : BTreeSet (Text × Option Text) → BTreeSet (Text × Option Text) → Type 0
HasSamePairs old new = (d : Text) (o : Option Text) → contains refer_cmp new (d, o) ≡ contains refer_cmp old (d, o)

-- a stored manifest refers to a digest
abbrev pub has_pair : RepoManifestBytes → Text → Option Text → Bool
has_pair m d None = false
has_pair m d (Some k) = option_map_or (λ bytes. refers bytes d) (fmap.get m k) false

-- the set has exactly the references of the stored manifests
abbrev pub IsReferrerIndex : RepoManifestBytes → BTreeSet (Text × Option Text) → Type 0
IsReferrerIndex m referrers = (d : Text) (o : Option Text) → contains refer_cmp referrers (d, o) ≡ has_pair m d o
