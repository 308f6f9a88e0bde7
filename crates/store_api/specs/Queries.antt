-- The results of queries.
use Rattle.std.specs.Prelude.{◌≡◌}
use Rattle.store_model.specs.Catalog.{Catalog}

-- the result is the query's in some catalog that the backend finds
abbrev pub IsQueryResult : {S A : Type 0} → (S → Catalog → Type 0) → S → (Catalog → A) → A → Type 0
IsQueryResult finds s query result = (catalog : Catalog) × finds s catalog × (result ≡ query catalog)
