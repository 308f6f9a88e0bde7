-- The repositories and links that the rows of a tenant show.
use Rattle.std.specs.Prelude.{◌≤◌, ℕ, Bool, not, is_some}
use Rattle.std.specs.BTreeMap as tree
use Rattle.std.specs.BTreeMap.{BTreeMap}
use Rattle.std.specs.FinMap as fmap
use Rattle.spec_lib.specs.Sets as set
use Rattle.spec_lib.specs.Texts.{Text, text_cmp}
use Rattle.spec_lib.specs.Trees.{map_of}
use Rattle.link_table.specs.Groups.{ungrouped}
use Rattle.link_table.specs.TenantRepos.{OwnRepos}

-- the sizes of a repository's blobs, by digest
abbrev pub Sizes : Type 0
Sizes = fmap.FinMap text_cmp ℕ

-- the tree has no blob of this digest
abbrev pub lacks_blob : BTreeMap Text ℕ → Text → Bool
lacks_blob sizes d = not (is_some (tree.get text_cmp sizes d))

-- the repositories of a tenant, by name, each with its blobs
abbrev pub own_repos_shown : BTreeMap Text Sizes → OwnRepos
own_repos_shown rows = record { repos = set.from_list (tree.keys rows); links = ungrouped (map_of rows) }

-- there are at most as many repositories as the greatest limit
abbrev pub AreFew : BTreeMap Text Sizes → Type 0
AreFew rows = tree.btree_map_len rows ≤ 65536
