-- Adding a link to a stored blob, and removing one that no manifest needs, keep the catalog well-formed and change uses by the blob.
use Rattle.std.proofs.Common.{◌≡◌, ℕ, ◌+◌, Bool, true, false, cond, length, Some, None, is_some, refl, sym, ap, ◌∙◌, subst, arith, inl, inr, ⊎_elim, ◌≢◌, List, [], ◌∷◌, Option, zero-add}
use Rattle.std.specs.Prelude.{◌&&◌, if◌then◌else◌, ◌⊎◌}
use Rattle.std.specs.List.{sum_by, count_by, list_any, find, AllByRecursion}
use Rattle.std.specs.Ordering.{eq_by_cmp}
use Rattle.std.specs.Cmp.{Equal-is}
use Rattle.std.specs.Cmp.Lexicographic.{nat_list_cmp_total}
use Rattle.std.specs.FinMap.{entries, get, contains_key-keys}
use Rattle.std.proofs.lemmas.Bool.{true≢false, false_from_ne_true, and_from, and_right, false≢true, or_parts}
use Rattle.std.proofs.lemmas.Map.Lookups.{exact_bytes}
use Rattle.spec_lib.specs.Sets as set
use Rattle.spec_lib.specs.Texts.{Text, text_cmp, same_text}
use Rattle.store_model.specs.Catalog.{Link, Resident, Catalog, is_repo_of, holds, tenant_holds, link_count, blob_share, used_bytes}
use Rattle.store_model.specs.Invariant.{WellFormed, WellFormedLink}
use Rattle.blob_digest.proofs.KeyOrders.{link_cmp_total, exact_link}
use Rattle.spec_lib.proofs.Rows.{sum_by-map}
use Rattle.spec_lib.proofs.Lists.{list_any_weaker, list_any_same, all_weaker, list_any_none}
use Rattle.spec_lib.proofs.Sums.{sum_split}
use Rattle.spec_lib.proofs.Options.{a_unit}
use Rattle.spec_lib.proofs.Sets.{still, member, as_before-insert, was_member, as_before-remove}
use Rattle.spec_lib.proofs.Maps.{cases_key}
use Rattle.std.specs.Option.{option_map, option_map_or}
use Rattle.std.proofs.lemmas.List.Sums.{sum_by-cons}
use Rattle.store_model.specs.Commands.{referrer, refers}
use Rattle.spec_lib.proofs.Texts.{same_text_is}
use Rattle.store_model.proofs.Invariant.Counts.{back}
use Rattle.store_model.proofs.Invariant.Use.{used_bytes-link}

-- a tenant has each digest that one of its repositories contains
pub is_held : (C : Catalog) (t : ℕ) (r d : Text) → set.contains C.repos r ≡ true → is_repo_of C t r ≡ true → holds C r d ≡ true → tenant_holds C t d ≡ true
is_held C t r d there own has =
    list_any_weaker (eq_by_cmp text_cmp r) (λ q. is_repo_of C t q && holds C q d)
    (λ q tie. subst (λ (x : Text). (is_repo_of C t x && holds C x d) ≡ true) (exact_bytes r q ((Equal-is (text_cmp r q)).0 tie)) (and_from (is_repo_of C t r) (holds C r d) own has))
    (set.items C.repos) (sym (contains_key-keys C.repos r) ∙ there)

-- no tenant has a digest that no repository contains
pub is_unheld : (C : Catalog) (t : ℕ) (d : Text) → ((q : Text) → holds C q d ≡ false) → tenant_holds C t d ≡ false
is_unheld C t d none = list_any_none (λ q. is_repo_of C t q && holds C q d) (λ q. and_right (is_repo_of C t q) (holds C q d) (none q)) (set.items C.repos)

pub no_one : (b : Bool) (n : ℕ) → cond {A = ℕ} b 1 0 + n ≡ 0 → b ≡ false
no_one true n e = absurd (omega arith)
no_one false n e = refl

module _ (C : Catalog) (lawful : WellFormed C) where
  -- a digest that is not stored is linked nowhere
  pub unlinked : (d : Text) → get C.residents d ≡ None → (q : Text) → holds C q d ≡ false
  unlinked d none q = false_from_ne_true (holds C q d) (λ h. true≢false (ap is_some (sym (lawful.links (q, d) h).kept.1 ∙ none)))

  -- a digest with count 0 is linked nowhere
  pub uncounted : (d : Text) → link_count C d ≡ 0 → (q : Text) → holds C q d ≡ false
  uncounted d zero q = false_from_ne_true (holds C q d) (λ h.
      let f : Text → ℕ = λ x. cond (holds C x d) 1 0 in
      let in_repos = a_unit (get C.repos q) (lawful.links (q, d) h).repo in
      let sum = sum_split nat_list_cmp_total exact_bytes (λ (e : Text × Unit {0}). cond (holds C e.0 d) 1 0) C.repos q tt in_repos in
      let mapped = sum_by-map f (λ (e : Text × Unit {0}). e.0) (entries C.repos) in
      true≢false (sym h ∙ no_one (holds C q d) _ (sym sum ∙ sym mapped ∙ zero)))

module _ (C : Catalog) (r d : Text) where
  abbrev after : Catalog
  after = record C { links = set.insert C.links (r, d) }

  pub WellFormed-link : WellFormed C → set.contains C.repos r ≡ true → (b : Resident) → get C.residents d ≡ Some b → b.condemned ≡ false → WellFormed after
  WellFormed-link lawful there b kept sound = record {
    content = lawful.content;
    links = λ l h. ⊎_elim
        (λ e. subst (λ (x : Link). WellFormedLink after x) (sym e) (let k : WellFormedLink after (r, d) = record { repo = there; kept = (b, kept, sound) } in k))
        (lawful.links l)
        (member link_cmp_total exact_link C.links (r, d) l h);
    manifests = λ l bytes h.
        let k = lawful.manifests l bytes h in
        record { repo = k.repo; name = k.name; small = k.small; refs = (k.refs.0, k.refs.1, all_weaker (λ x. holds C l.0 x ≡ true) (λ x. holds after l.0 x ≡ true) (λ x. still link_cmp_total exact_link C.links (r, d) (l.0, x)) k.refs.0 k.refs.2) };
    sessions = lawful.sessions;
    repositories = lawful.repositories;
    numbering = lawful.numbering;
    limits = lawful.limits;
    few_sessions = lawful.few_sessions;
    few_manifests = lawful.few_manifests;
  }

  -- another tenant has the same digests as before
  held_alike : (u : ℕ) → is_repo_of C u r ≡ false → (x : Text) → tenant_holds after u x ≡ tenant_holds C u x
  held_alike u foreign x = list_any_same (λ q. is_repo_of after u q && holds after q x) (λ q. is_repo_of C u q && holds C q x) alike (set.items C.repos)
    where
      alike : (q : Text) → (is_repo_of C u q && holds after q x) ≡ (is_repo_of C u q && holds C q x)
      alike q = elim (cases_key nat_list_cmp_total exact_bytes q r) [
        | inl e ↦
            let no : is_repo_of C u q ≡ false = ap (is_repo_of C u) e ∙ foreign in
            ap (λ b. b && holds after q x) no ∙ sym (ap (λ b. b && holds C q x) no)
        | inr differ ↦ ap (λ b. is_repo_of C u q && b) (as_before-insert link_cmp_total exact_link C.links (r, d) (q, x) (λ e. differ (ap (λ p. p.0) e)))
      ]

  pub used_other-link : (u : ℕ) → is_repo_of C u r ≡ false → used_bytes after u ≡ used_bytes C u
  used_other-link u foreign =
      let blobs : sum_by (blob_share after u) (entries C.residents) ≡ sum_by (blob_share C u) (entries C.residents) = λ i. sum_by (λ e. if held_alike u foreign e.0 i then length e.1.bytes else 0) (entries C.residents) in
      omega arith

-- ---- a link that is removed

found_none : {A : Type 0} (p : A → Bool) (xs : List A) → find p xs ≡ None → count_by p xs ≡ 0
found_none p [] none = refl
found_none {A} p (x ∷ xs) none =
    elim (p x) as (λ b. p x ≡ b → cond b (Some x) (find p xs) ≡ None → count_by p (x ∷ xs) ≡ 0) [
      | true ↦ λ is h. absurd cc
      | false ↦ λ is h. sum_by-cons (λ (y : A). cond {A = ℕ} (p y) 1 0) x xs ∙ ap (λ b. cond {A = ℕ} b 1 0 + count_by p xs) is ∙ zero-add (count_by p xs) ∙ found_none p xs h
    ] refl none

no_map : {A B : Type 0} (f : A → B) (x : Option A) → option_map f x ≡ None → x ≡ None
no_map f None e = refl
no_map f (Some x) e = absurd cc

other_and : (a b : Bool) → a ≡ true → (a && b) ≡ false → b ≡ false
other_and true b e h = h
other_and false b e h = absurd (false≢true e)

module _ (C : Catalog) (r d : Text) where
  abbrev without : Catalog
  without = record C { links = set.remove C.links (r, d) }

  differs : (q x : Text) → (q ≢ r) ⊎ (same_text d x ≡ false) → ◌≡◌ {A = Link} (q, x) (r, d) → ⊥
  differs q x (inl other) e = other (ap (λ p. p.0) e)
  differs q x (inr other) e = true≢false (sym (same_text_is d x (sym (ap (λ p. p.1) e))) ∙ other)

  -- every other link stays
  refs_still : (q : Text) (xs : List Text) → (q ≢ r) ⊎ (list_any (same_text d) xs ≡ false) → AllByRecursion (λ x. holds C q x ≡ true) xs → AllByRecursion (λ x. holds without q x ≡ true) xs
  refs_still q [] other all = tt
  refs_still q (x ∷ xs) (inl other) all = (as_before-remove link_cmp_total exact_link C.links (r, d) (q, x) (differs q x (inl other)) ∙ all.0, refs_still q xs (inl other) all.1)
  refs_still q (x ∷ xs) (inr other) all =
      let parts = or_parts (same_text d x) (list_any (same_text d) xs) other in
      (as_before-remove link_cmp_total exact_link C.links (r, d) (q, x) (differs q x (inr parts.0)) ∙ all.0, refs_still q xs (inr parts.1) all.1)

  -- no manifest of the repository refers to the digest
  pub unreferred : referrer C r d ≡ None → (l : Link) (bytes : Text) → get C.manifests l ≡ Some bytes → l.0 ≡ r → refers bytes d ≡ false
  unreferred none l bytes found is_r =
      let p : Link × Text → Bool = λ e. same_text e.0.0 r && refers e.1 d in
      let zero = found_none p (entries C.manifests) (no_map (λ e. e.0.1) (find p (entries C.manifests)) none) in
      let sum = sum_split link_cmp_total exact_link (λ e. cond {A = ℕ} (p e) 1 0) C.manifests l bytes found in
      other_and (same_text l.0 r) (refers bytes d) (same_text_is l.0 r is_r) (no_one (p (l, bytes)) _ (sym sum ∙ zero))

  pub WellFormed-unlink : WellFormed C → referrer C r d ≡ None → WellFormed without
  WellFormed-unlink lawful none = record {
    content = lawful.content;
    links = λ l h. lawful.links l (was_member link_cmp_total exact_link C.links (r, d) l h);
    manifests = λ l bytes h.
        let k = lawful.manifests l bytes h in
        let other : (l.0 ≢ r) ⊎ (list_any (same_text d) k.refs.0 ≡ false) = elim (cases_key nat_list_cmp_total exact_bytes l.0 r) [
          | inl e ↦ inr (sym (ap (λ x. option_map_or (list_any (same_text d)) x false) k.refs.1) ∙ unreferred none l bytes h e)
          | inr differ ↦ inl differ
        ] in
        record { repo = k.repo; name = k.name; small = k.small; refs = (k.refs.0, k.refs.1, refs_still l.0 k.refs.0 other k.refs.2) };
    sessions = lawful.sessions;
    repositories = lawful.repositories;
    numbering = lawful.numbering;
    limits = lawful.limits;
    few_sessions = lawful.few_sessions;
    few_manifests = lawful.few_manifests;
  }

  module _ (there : holds C r d ≡ true) where
    -- The use falls by the blob's length, unless another repository of the tenant contains it.
    pub used_bytes-unlink : (t : ℕ) (b : Resident) → set.contains C.repos r ≡ true → is_repo_of C t r ≡ true → get C.residents d ≡ Some b → used_bytes C t + (if tenant_holds without t d then length b.bytes else 0) ≡ used_bytes without t + length b.bytes
    used_bytes-unlink t b in_repos own kept =
        ap (λ s. used_bytes (record C { links = s }) t + (if tenant_holds without t d then length b.bytes else 0)) (sym (back C r d there)) ∙ used_bytes-link without t r d b in_repos own kept

    pub used_other-unlink : (u : ℕ) → is_repo_of C u r ≡ false → used_bytes C u ≡ used_bytes without u
    used_other-unlink u foreign = ap (λ s. used_bytes (record C { links = s }) u) (sym (back C r d there)) ∙ used_other-link without r d u foreign
