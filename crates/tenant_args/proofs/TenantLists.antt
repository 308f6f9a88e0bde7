-- Lists of tenants that grow.
use Rattle.std.proofs.Common.{add-one, ◌≡◌, ◌⊎◌, ◌≤◌, ◌<◌, ◌+◌, ◌∙◌, ◌++◌, ◌∷◌, ◌||◌, [], ℕ, List, Bool, true, false, ap, arith, cond, count_by, drop, drop-cons, get_or, inl, inr, length, map, refl, string_bytes, sym, take, zero-add, add-zero}
use Rattle.std.proofs.lemmas.List.{map-append, take_more, take-append-drop}
use Rattle.std.proofs.lemmas.List.Elements.{All-append, All-cons}
use Rattle.std.proofs.lemmas.List.Sums.{sum_by-append, sum_by-cons}
use Rattle.std.proofs.lemmas.Bool.{or_parts}
use Rattle.std.specs.Borrow.{Bor}
use Rattle.std.specs.List.{All, list_any}
use Rattle.spec_lib.specs.Texts.{Text, same_text}
use Rattle.blob_digest.specs.Tenants.{Tenant}
use Rattle.spec_lib.proofs.Texts.{text_is_same}
use Rattle.link_table.specs.declared.tenants.TenantSettings.{TenantSettings}
use Rattle.link_table.specs.Tenancy.{max_tenants, tenants_shown}
use Rattle.tenant_args.specs.Tenants.{HasBadTenant, IsRefusedAfter, IsTenantArgument, SpellTenants, most_tenants}
use Rattle.tenant_args.specs.declared.fault.TenantFault.{TenantFault}
use Rattle.tenant_args.specs.declared.fault.TenantFault.TheVariants.{BadTenant, Memory}

-- there may never be more tenants than a store can have
pub most_few : (shares : Bool) → most_tenants shares ≤ max_tenants
most_few true = omega arith
most_few false = omega arith

-- the tenants have a name if and only if their rows have it
pub any_named : (tenants : List TenantSettings) (name : Text) → list_any (λ t. same_text t.name name) (tenants_shown tenants) ≡ list_any (λ t. same_text (string_bytes t.name) name) tenants
any_named [] name = refl
any_named (t ∷ ts) name = ap (λ b. same_text (string_bytes t.name) name || b) (any_named ts name)

-- a test that no element passes counts none
none_counted : (name : Text) (ts : List Tenant) → list_any (λ t. same_text t.name name) ts ≡ false → count_by (λ t. same_text t.name name) ts ≡ 0
none_counted name [] none = refl
none_counted name (t ∷ ts) none =
    let parts = or_parts (same_text t.name name) (list_any (λ t. same_text t.name name) ts) none in
    sum_by-cons (λ t. cond (same_text t.name name) 1 0) t ts ∙ rw parts.0 (zero-add (count_by (λ t. same_text t.name name) ts) ∙ none_counted name ts parts.1)

-- a name that no tenant has occurs at most once after it is added
pub once_more : (ts : List Tenant) (t : Tenant) → ((name : Text) → count_by (λ t. same_text t.name name) ts ≤ 1) → list_any (λ x. same_text x.name t.name) ts ≡ false
    → (name : Text) → count_by (λ t. same_text t.name name) (ts ++ t ∷ []) ≤ 1
once_more ts t once none name =
    let split : count_by (λ t. same_text t.name name) (ts ++ t ∷ []) ≡ count_by (λ t. same_text t.name name) ts + cond (same_text t.name name) 1 0 =
    sum_by-append (λ t. cond (same_text t.name name) 1 0) ts (t ∷ []) ∙ ap (λ n. count_by (λ t. same_text t.name name) ts + n) (sum_by-cons (λ t. cond (same_text t.name name) 1 0) t [] ∙ add-zero (cond (same_text t.name name) 1 0)) in
    let before = once name in
    let case : (b : Bool) → same_text t.name name ≡ b → count_by (λ t. same_text t.name name) ts + cond b 1 0 ≤ 1 = elim [
      | true ↦ λ same. (let none_there : count_by (λ t. same_text t.name name) ts ≡ 0 = ap (λ n. count_by (λ t. same_text t.name n) ts) (sym (text_is_same t.name name same)) ∙ none_counted t.name ts none in omega arith)
      | false ↦ λ same. omega arith
    ] in
    rw split (case (same_text t.name name) refl)

-- one more argument spells one more tenant
pub one_spelled : (shares : Bool) (words : List Text) (tenants : List Tenant) (word : Text) (tenant : Tenant) → SpellTenants shares words tenants → IsTenantArgument shares word tenant
    → SpellTenants shares (words ++ word ∷ []) (tenants ++ tenant ∷ [])
one_spelled shares [] [] word tenant before here = (here, tt)
one_spelled shares [] (t ∷ ts) word tenant before here = absurd before
one_spelled shares (w ∷ ws) [] word tenant before here = absurd before
one_spelled shares (w ∷ ws) (t ∷ ts) word tenant before here = (before.0, one_spelled shares ws ts word tenant before.1 here)

-- a property of all elements is kept by one more element
pub all_more : {A : Type 0} (P : A → Type 0) (xs : List A) (x : A) → All P xs → P x → All P (xs ++ x ∷ [])
all_more P xs x all here = All-append P xs (x ∷ []) all (All-cons P x [] here (λ k d lt. absurd (omega arith)))

-- the first arguments with one more
pub words_more : (words : List (Bor Text)) (i : ℕ) (d : Bor Text) → i < length words
    → map (λ w. w.now) (take (i + 1) words) ≡ map (λ w. w.now) (take i words) ++ (get_or words i d).now ∷ []
words_more words i d within =
    ap (map (λ (w : Bor Text). w.now)) (take_more words i d within) ∙ map-append (λ (w : Bor Text). w.now) (take i words) (get_or words i d ∷ [])

-- the arguments are those before one, that one, and those after it
pub words_round : (words : List (Bor Text)) (i : ℕ) (d : Bor Text) → i < length words
    → map (λ w. w.now) words ≡ map (λ w. w.now) (take i words) ++ (get_or words i d).now ∷ map (λ w. w.now) (drop (i + 1) words)
words_round words i d within =
    ap (map (λ (w : Bor Text). w.now)) (sym (take-append-drop i words) ∙ ap (λ xs. take i words ++ xs) (drop-cons words i d within ∙ ap (λ n. get_or words i d ∷ drop n words) (sym (add-one i))))
    ∙ map-append (λ (w : Bor Text). w.now) (take i words) (get_or words i d ∷ drop (i + 1) words)

-- arguments of which one is bad after those before it have a bad tenant
pub bad_word : (shares : Bool) (words : List Text) (before after : List Text) (tenants : List Tenant) (word : Text) (fault : TenantFault) → words ≡ before ++ word ∷ after → SpellTenants shares before tenants
    → (fault ≡ Memory) ⊎ ((fault ≡ BadTenant) × IsRefusedAfter shares tenants word) → (fault ≡ Memory) ⊎ ((fault ≡ BadTenant) × HasBadTenant shares words)
bad_word shares words before after tenants word fault whole spelled why =
    elim why [
      | inl e ↦ inl e
      | inr b ↦ inr (b.0, inr (before, tenants, word, after, whole, spelled, b.1))
    ]
