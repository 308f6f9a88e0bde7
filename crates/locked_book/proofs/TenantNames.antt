-- The names of tenants in records are those of the repositories.
use Rattle.std.proofs.Common.{◌≡◌, ◌∙◌, ℕ, IfOk, List, Option, Some, Result, Ok, Err, ap}
use Rattle.std.proofs.lemmas.List.Quantifiers.{position-Some}
use Rattle.std.specs.Option.{option_map_or}
use Rattle.blob_digest.specs.Names.{tenant_name}
use Rattle.blob_digest.specs.Tenants.{no_tenant}
use Rattle.blob_digest.specs.declared.range.ByteRange.{ByteRange}
use Rattle.blob_digest.specs.declared.refusal.Refusal.{Refusal}
use Rattle.spec_lib.specs.Texts.{Text, same_text}
use Rattle.spec_lib.proofs.Texts.{text_is_same}
use Rattle.store_model.specs.Catalog.{HandRecord, Tenant, tenant_of}
use Rattle.store_model.specs.Histories.{IsStep, TakeCall}
use Rattle.store_model.proofs.Commands.ByHand.{taken_names}
use Rattle.locked_book.specs.Counting.{StoreContent}
use Rattle.locked_book.specs.Described.{name_at}
use Rattle.locked_book.specs.History.{state_of}
use Rattle.locked_book.specs.Logging.{IsHandOf}

-- the tenant of a repository has the name that the repository's name begins with
pub known_name : (tenants : List Tenant) (repo : Text) (t : ℕ) → tenant_of tenants repo ≡ Some t → name_at tenants t ≡ tenant_name repo
known_name tenants repo t known =
    text_is_same (name_at tenants t) (tenant_name repo) (position-Some (λ x. same_text x.name (tenant_name repo)) tenants t (no_tenant) known).1

-- so does the key of a session of that repository
pub key_name : (tenants : List Tenant) (repo : Text) (t : ℕ) → tenant_of tenants repo ≡ Some t → name_at tenants (option_map_or (λ x. x) (tenant_of tenants repo) 0) ≡ tenant_name repo
key_name tenants repo t known = ap (λ o. name_at tenants (option_map_or (λ x. x) o 0)) known ∙ known_name tenants repo t known

-- a check-out that succeeds gives a hand of the session
pub take_names : (k k' : StoreContent) (repo : Text) (number : ℕ) (range : Option ByteRange) (len : ℕ) (result : Result HandRecord Refusal) →
    IsStep (state_of k) (TakeCall repo number range len result) (state_of k') → IfOk result (λ h. IsHandOf repo number h)
take_names k k' repo number range len (Ok hand) step = taken_names k.book.catalog k'.book.catalog repo number len range hand step.leaves
take_names k k' repo number range len (Err e) step = tt
