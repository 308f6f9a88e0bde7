-- Facts about accepted commands.
use Rattle.std.proofs.Common.{◌≡◌, ℕ, ◌+◌, ◌<◌, ◌≤◌, Bool, true, false, cond, List, [], ◌∷◌, length, Option, Some, None, Result, Ok, Err, refl, sym, ap, ◌∙◌, arith, length-append}
use Rattle.std.specs.Prelude.{if◌then◌else◌, nat_lt}
use Rattle.std.specs.List.{sum_by, concat}
use Rattle.std.proofs.lemmas.Bool.{or_parts, ltb-false}
use Rattle.std.proofs.lemmas.List.Sums.{sum_by-cons}
use Rattle.std.proofs.lemmas.List.Quantifiers.{position-Some}
use Rattle.blob_digest.specs.declared.range.ByteRange.{ByteRange}
use Rattle.blob_digest.specs.declared.refusal.Refusal.{Refusal}
use Rattle.blob_digest.specs.declared.refusal.Refusal.TheVariants.{UploadUnknown}
use Rattle.spec_lib.specs.Texts.{Text, same_text}
use Rattle.store_model.specs.Catalog.{Tenant, Session, Catalog, tenant_name, tenant_of}
use Rattle.store_model.specs.Sessions.{session_in, length_after, has_other_length}
use Rattle.spec_lib.proofs.Texts.{text_is_same}
use Rattle.spec_lib.proofs.Outcomes.{bound_ok, not_refused}
use Rattle.blob_digest.specs.Tenants.{no_tenant}

pub left_by : {A : Type 0} {a b : A} {C C' : Catalog} → ◌≡◌ {A = Result (A × Catalog) Refusal} (Ok (a, C)) (Ok (b, C')) → C ≡ C'
left_by {A} {a} {b} {C} {C'} h = let p : ◌≡◌ {A = A × Catalog} (a, C) (b, C') = cc in λ i. (p i).1

pub answer_by : {A : Type 0} {a b : A} {C C' : Catalog} → ◌≡◌ {A = Result (A × Catalog) Refusal} (Ok (a, C)) (Ok (b, C')) → a ≡ b
answer_by {A} {a} {b} {C} {C'} h = let p : ◌≡◌ {A = A × Catalog} (a, C) (b, C') = cc in λ i. (p i).0

pub not_more : (b : Bool) (n : ℕ) → cond b n 0 ≤ n
not_more true n = omega arith
not_more false n = omega arith

pub tenant_there : (tenants : List Tenant) (repo : Text) (t : ℕ) → tenant_of tenants repo ≡ Some t → t < length tenants
tenant_there tenants repo t known = let none : Tenant = no_tenant in (position-Some (λ x. same_text x.name (tenant_name repo)) tenants t none known).0

pub session_found : (o : Option Session) (repo : Text) (s : Session) → session_in o repo ≡ Ok s → (o ≡ Some s) × (s.repo ≡ repo)
session_found None repo s h = absurd cc
session_found (Some x) repo s h =
    elim (same_text x.repo repo) as (λ b. same_text x.repo repo ≡ b → (if b then Ok x else Err UploadUnknown) ≡ Ok s → (Some x ≡ Some s) × (s.repo ≡ repo)) [
      | true ↦ λ is h. let e : x ≡ s = cc in (ap Some e, sym (ap (λ (y : Session). y.repo) e) ∙ text_is_same x.repo repo is)
      | false ↦ λ is h. absurd cc
    ] refl h

pub length_fits : (max_blob before n after : ℕ) (range : Option ByteRange) → length_after max_blob before range n ≡ Ok after → before + n ≤ max_blob
length_fits max_blob before n after range h =
    let a = bound_ok _ _ after h in
    ltb-false max_blob (before + n) (or_parts (has_other_length range n) (nat_lt max_blob (before + n)) (not_refused _ _ _ a.1)).1

pub length-concat : (chunks : List Text) → length (concat chunks) ≡ sum_by length chunks
length-concat [] = refl
length-concat (c ∷ chunks) = length-append c (concat chunks) ∙ ap (λ n. length c + n) (length-concat chunks) ∙ sym (sum_by-cons length c chunks)
