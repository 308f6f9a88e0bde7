-- Values by repository and digest, grouped by repository.
use Rattle.std.specs.Prelude.{List, map}
use Rattle.std.specs.List.{flat_map}
use Rattle.std.specs.FinMap as fmap
use Rattle.spec_lib.specs.Texts.{Text, text_cmp}
use Rattle.blob_digest.specs.Keys.{Link, link_cmp}

-- the values of each repository, by digest
abbrev pub Groups : Type 0 → Type 0
Groups X = fmap.FinMap text_cmp (fmap.FinMap text_cmp X)

-- the values of one repository, each under the repository's name and its digest
abbrev pub group_rows : {X : Type 0} → Text × fmap.FinMap text_cmp X → List (Link × X)
group_rows e = map (λ f. ((e.0, f.0), f.1)) (fmap.entries e.1)

-- the values of all repositories, from those of each
abbrev pub ungrouped : {X : Type 0} → Groups X → fmap.FinMap link_cmp X
ungrouped g = fmap.from_entries (flat_map group_rows (fmap.entries g))
