-- Removals of repositories: each frees one name of its tenant and changes nothing else.
use Rattle.std.specs.Prelude.{◌≡◌, ℕ, ◌+◌, if◌then◌else◌, Ok}
use Rattle.spec_lib.specs.Texts.{Text}
use Rattle.store_model.specs.Catalog.{Catalog, is_repo_of, repos_of}
use Rattle.store_model.specs.Commands.{remove_repo, without_repo}

-- After a removal the repository's tenant has one repository less, and any other tenant as many as before.
abbrev pub RemovalsFreeNames : Type 0
RemovalsFreeNames = (C C' : Catalog) (repo : Text) (t : ℕ) → remove_repo C repo ≡ Ok (tt, C') →
    repos_of C t ≡ repos_of C' t + (if is_repo_of C t repo then 1 else 0)

-- A removal changes the set of repositories alone.
abbrev pub RemovalsKeepTheRest : Type 0
RemovalsKeepTheRest = (C C' : Catalog) (repo : Text) → remove_repo C repo ≡ Ok (tt, C') → C' ≡ without_repo C repo
