-- A delete of a digest to which a manifest refers fails, and names the least such manifest.
use Rattle.std.proofs.Common.{◌≡◌, ◌≢◌, Bool, true, false, cond, not, List, [], ◌∷◌, Option, Some, None, Ok, refl, sym, ap, ◌∙◌, subst}
use Rattle.std.specs.Prelude.{◌&&◌, ◌||◌}
use Rattle.std.specs.Option.{option_map, option_map_or, ok_or}
use Rattle.std.specs.declared.cmp.Ordering.{Ordering}
use Rattle.std.specs.declared.cmp.Ordering.TheVariants.{Less, Equal, Greater}
use Rattle.std.specs.Ordering.{eq_by_cmp, is_lt, is_eq, ordering_then, ordering_reverse}
use Rattle.std.specs.Cmp.{IsTotalOrder, Equal-is, tied_itself}
use Rattle.std.specs.Cmp.Lexicographic.{nat_list_cmp_total}
use Rattle.std.specs.List.{AllByRecursion, find, list_any}
use Rattle.std.specs.FinMap.{IsAntisymmetric, entries, entries_sorted, get, get-entries}
use Rattle.std.specs.FinMap.Entries.{is_sorted, below_all, find as find_key}
use Rattle.std.proofs.lemmas.Bool.{true≢false, false≢true, and_parts, and_from}
use Rattle.blob_digest.specs.declared.refusal.Refusal.TheVariants.{NameUnknown, BlobUnknown}
use Rattle.spec_lib.specs.Sets as set
use Rattle.blob_digest.proofs.KeyOrders.{link_cmp_total, exact_link}
use Rattle.spec_lib.proofs.Texts.{same_itself, text_is_same}
use Rattle.spec_lib.proofs.Options.{some_none, some_same, some_value}
use Rattle.spec_lib.specs.Texts.{Text, text_cmp, same_text}
use Rattle.store_model.specs.Catalog.{Link, Catalog, link_cmp, tenant_of, holds}
use Rattle.spec_lib.specs.Outcomes.{◌>>=◌, refuse}
use Rattle.store_model.specs.Commands.{check_link, check_no_referrer, refers, referrer}
use Rattle.store_model.specs.Invariant.{WellFormed, RefersTo, IsLeastReferrer, ReferencedStays}
use Rattle.spec_lib.proofs.Lists.{is_true}
use Rattle.store_model.proofs.Invariant.Links.{unreferred}

-- ---- the first entry that passes a test, in the order of the keys

module _ {K : Type 0} (R : K → K → Ordering) (o : IsTotalOrder R) where
  not_less : (k q : K) → is_lt (R k q) ≡ true → R q k ≢ Less
  not_less k q lt less = absurd (true≢false (sym lt ∙ ap is_lt (o.antisymm k q ∙ ap ordering_reverse less)))

  not_below_itself : (k q : K) → q ≡ k → R q k ≢ Less
  not_below_itself k q e less = absurd (true≢false (sym (ap is_eq (tied_itself o k)) ∙ ap (λ x. is_eq (R x k)) (sym e) ∙ ap is_eq less))

module _ {K X : Type 0} (R : K → K → Ordering) (o : IsTotalOrder R) (same : IsAntisymmetric R) where
  below : (k q : K) (v : X) (es : List (K × X)) → below_all R k es ≡ true → find_key R q es ≡ Some v → is_lt (R k q) ≡ true
  below k q v [] all found = absurd cc
  below k q v (e ∷ es) all found =
      let both = and_parts (is_lt (R k e.0)) (below_all R k es) all in
      elim (eq_by_cmp R q e.0) as (λ b. eq_by_cmp R q e.0 ≡ b → cond b (Some e.1) (find_key R q es) ≡ Some v → is_lt (R k q) ≡ true) [
        | true ↦ λ tie _. ap (λ x. is_lt (R k x)) (same q e.0 ((Equal-is (R q e.0)).0 tie)) ∙ both.0
        | false ↦ λ _ h. below k q v es both.1 h
      ] refl found

  -- the entry exists, passes, and has the least key of those that pass
  first_passes : (p : K × X → Bool) (es : List (K × X)) (e : K × X) → find p es ≡ Some e → p e ≡ true
  first_passes p [] e h = absurd cc
  first_passes p (x ∷ es) e h = elim (p x) as (λ b. p x ≡ b → cond b (Some x) (find p es) ≡ Some e → p e ≡ true) [
    | true ↦ λ is h. ap p (sym (some_same h)) ∙ is
    | false ↦ λ is h. first_passes p es e h
  ] refl h

  first_is_least : (p : K × X → Bool) (es : List (K × X)) → is_sorted R es ≡ true → (e : K × X) → find p es ≡ Some e → (q : K) (v : X) → find_key R q es ≡ Some v → p (q, v) ≡ true → R q e.0 ≢ Less
  first_is_least p [] sorted e h q v found passes = absurd cc
  first_is_least p (x ∷ es) sorted e h q v found passes =
      let both = and_parts (below_all R x.0 es) (is_sorted R es) sorted in
      elim (p x) as (λ b. p x ≡ b → cond b (Some x) (find p es) ≡ Some e → R q e.0 ≢ Less) [
        | true ↦ λ is h. subst (λ (y : K × X). R q y.0 ≢ Less) (some_same h) (elim (eq_by_cmp R q x.0) as (λ b. eq_by_cmp R q x.0 ≡ b → cond b (Some x.1) (find_key R q es) ≡ Some v → R q x.0 ≢ Less) [
          | true ↦ λ tie _. not_below_itself R o x.0 q (same q x.0 ((Equal-is (R q x.0)).0 tie))
          | false ↦ λ _ found. not_less R o x.0 q (below x.0 q v es both.0 found)
        ] refl found)
        | false ↦ λ is h. elim (eq_by_cmp R q x.0) as (λ b. eq_by_cmp R q x.0 ≡ b → cond b (Some x.1) (find_key R q es) ≡ Some v → R q e.0 ≢ Less) [
          | true ↦ λ tie found.
              let key : q ≡ x.0 = same q x.0 ((Equal-is (R q x.0)).0 tie) in
              let value : x.1 ≡ v = some_same found in
              absurd (true≢false (sym passes ∙ (λ i. p (key i, sym value i)) ∙ is))
          | false ↦ λ _ found. first_is_least p es both.1 e h q v found passes
        ] refl found
      ] refl h

  -- an entry of a sorted list is found by its key
  found_there : (p : K × X → Bool) (es : List (K × X)) → is_sorted R es ≡ true → (e : K × X) → find p es ≡ Some e → find_key R e.0 es ≡ Some e.1
  found_there p [] sorted e h = absurd cc
  found_there p (x ∷ es) sorted e h =
      let both = and_parts (below_all R x.0 es) (is_sorted R es) sorted in
      elim (p x) as (λ b. cond b (Some x) (find p es) ≡ Some e → find_key R e.0 (x ∷ es) ≡ Some e.1) [
        | true ↦ λ h. subst (λ (y : K × X). find_key R y.0 (x ∷ es) ≡ Some y.1) (some_same h) (ap (λ b. cond b (Some x.1) (find_key R x.0 es)) (ap is_eq (tied_itself o x.0)))
        | false ↦ λ h.
            let rest = found_there p es both.1 e h in
            let less : is_lt (R x.0 e.0) ≡ true = below x.0 e.0 e.1 es both.0 rest in
            ap (λ b. cond b (Some x.1) (find_key R e.0 es)) (untied x.0 e.0 less) ∙ rest
      ] h
    where
      reversed : (a b : Ordering) → a ≡ ordering_reverse b → is_lt a ≡ true → is_eq b ≡ false
      reversed a Less e h = refl
      reversed a Equal e h = absurd (true≢false (sym h ∙ ap is_lt e))
      reversed a Greater e h = refl

      untied : (k q : K) → is_lt (R k q) ≡ true → eq_by_cmp R q k ≡ false
      untied k q lt = reversed (R k q) (R q k) (o.antisymm k q) lt

-- ---- the referrer

module _ (C : Catalog) (repo digest : Text) where
  abbrev is_referrer : Link × Text → Bool
  is_referrer e = same_text e.0.0 repo && refers e.1 digest

  sorted : is_sorted link_cmp (entries C.manifests) ≡ true
  sorted = is_true (entries_sorted C.manifests)

  passes : (name : Text) (r : RefersTo C repo name digest) → is_referrer ((repo, name), r.0) ≡ true
  passes name r = and_from (same_text repo repo) (refers r.0 digest) (same_itself repo) r.2

  least_of : (e : Link × Text) → find is_referrer (entries C.manifests) ≡ Some e → IsLeastReferrer C repo digest e.0.1
  least_of e found =
      let both = and_parts (same_text e.0.0 repo) (refers e.1 digest) (first_passes link_cmp link_cmp_total exact_link is_referrer (entries C.manifests) e found) in
      let is_repo : e.0.0 ≡ repo = text_is_same e.0.0 repo both.0 in
      let at : get C.manifests e.0 ≡ Some e.1 = get-entries C.manifests e.0 ∙ found_there link_cmp link_cmp_total exact_link is_referrer (entries C.manifests) sorted e found in
      record {
        refers = (e.1, subst (λ (r : Text). get C.manifests (r, e.0.1) ≡ Some e.1) is_repo at, both.1);
        least = λ other r less.
            let none : link_cmp (repo, other) e.0 ≢ Less = first_is_least link_cmp link_cmp_total exact_link is_referrer (entries C.manifests) sorted e found (repo, other) r.0 (sym (get-entries C.manifests (repo, other)) ∙ r.1) (passes other r) in
            none (ap (λ c. ordering_then c (text_cmp other e.0.1)) (ap (text_cmp repo) is_repo ∙ tied_itself nat_list_cmp_total repo) ∙ less);
      }

  none_found : (name : Text) (r : RefersTo C repo name digest) → find is_referrer (entries C.manifests) ≢ None
  none_found name r none = true≢false (sym r.2 ∙ unreferred C repo digest (ap (option_map (λ e. e.0.1)) none) (repo, name) r.0 r.1 refl)

  found_one : (o : Option (Link × Text)) → find is_referrer (entries C.manifests) ≡ o → o ≢ None → (e : Link × Text) × (find is_referrer (entries C.manifests) ≡ Some e)
  found_one None is some = absurd (some refl)
  found_one (Some e) is some = (e, is)

  holds_referred : (refs : List Text) → AllByRecursion (λ d. holds C repo d ≡ true) refs → list_any (same_text digest) refs ≡ true → holds C repo digest ≡ true
  holds_referred [] all any = absurd (false≢true any)
  holds_referred (d ∷ refs) all any = elim (same_text digest d) as (λ b. same_text digest d ≡ b → (b || list_any (same_text digest) refs) ≡ true → holds C repo digest ≡ true) [
    | true ↦ λ is _. ap (holds C repo) (text_is_same digest d is) ∙ all.0
    | false ↦ λ _ any. holds_referred refs all.1 any
  ] refl any

module _ (C : Catalog) (lawful : WellFormed C) (repo digest : Text) where
  -- a manifest's references are linked in its repository
  held_by : (name : Text) → RefersTo C repo name digest → holds C repo digest ≡ true
  held_by name r =
      let k = lawful.manifests (repo, name) r.0 r.1 in
      holds_referred C repo digest k.refs.0 k.refs.2 (sym (ap (λ x. option_map_or (list_any (same_text digest)) x false) k.refs.1) ∙ r.2)

  -- so a digest with a referrer is linked
  pub held_if_referred : (manifest : Text) → referrer C repo digest ≡ Some manifest → holds C repo digest ≡ true
  held_if_referred manifest is =
      let first = found_one C repo digest (find (is_referrer C repo digest) (entries C.manifests)) refl (λ none. some_none (sym is ∙ ap (option_map (λ e. e.0.1)) none)) in
      held_by first.0.0.1 (least_of C repo digest first.0 first.1).refers

pub referenced_stays : ReferencedStays
referenced_stays C lawful repo digest name r =
    let k = lawful.manifests (repo, name) r.0 r.1 in
    let first = found_one C repo digest (find (is_referrer C repo digest) (entries C.manifests)) refl (none_found C repo digest name r) in
    let t = some_value (tenant_of C.tenants repo) (lawful.repositories.owned repo k.repo) in
    let held = held_by C lawful repo digest name r in (
      first.0.0.1,
      least_of C repo digest first.0 first.1,
      ap (λ o. ok_or o NameUnknown >>= λ _. check_link C repo digest >>= λ _. check_no_referrer (referrer C repo digest) >>= λ _. Ok (tt, record C { links = set.remove C.links (repo, digest) })) t.1
          ∙ ap (λ b. refuse (not b) BlobUnknown >>= λ _. check_no_referrer (referrer C repo digest) >>= λ _. Ok (tt, record C { links = set.remove C.links (repo, digest) })) held
          ∙ ap (λ o. check_no_referrer (option_map (λ e. e.0.1) o) >>= λ _. Ok (tt, record C { links = set.remove C.links (repo, digest) })) first.1,
    )
