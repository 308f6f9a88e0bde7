-- The manifests of all repositories in their trees, as one map.
use Rattle.std.proofs.Common.{◌≡◌, ℕ, Bool, true, false, cond, List, [], ◌∷◌, map, filter, Option, Some, None, is_some, Result, Ok, Err, refl, sym, ap, ◌∙◌, subst}
use Rattle.std.specs.Prelude.{◌&&◌, nat_le}
use Rattle.std.specs.List.{find as first}
use Rattle.std.specs.Iterator.{YieldsFirstBy}
use Rattle.std.specs.Option.{option_map}
use Rattle.std.specs.BTreeMap as tree
use Rattle.spec_lib.specs.Trees.{map_of}
use Rattle.std.specs.FinMap.{get, entries, insert, len, contains_key}
use Rattle.blob_digest.specs.declared.refusal.Refusal.{Refusal}
use Rattle.blob_digest.specs.declared.refusal.Refusal.TheVariants.{LimitReached}
use Rattle.spec_lib.specs.Texts.{Text, text_cmp, same_text}
use Rattle.blob_digest.specs.Keys.{Link}
use Rattle.blob_digest.specs.Digests.{sha256_text}
use Rattle.blob_digest.specs.Outcomes.{OutcomeIn, Does}
use Rattle.spec_lib.proofs.Rows.{entries-empty}
use Rattle.oci_manifest.specs.Manifests.{refers}
use Rattle.link_table.specs.Groups.{Groups, ungrouped}
use Rattle.link_table.specs.Manifests.{RepoManifestBytes, put_in, referrer_in}
use Rattle.link_table.specs.ManifestTable.{ManifestBytes, manifest_bytes, referrer_on, put_on}
use Rattle.link_table.proofs.Groups.{given, group, get_none, get-ungrouped, on-ungrouped, count-ungrouped, ungrouped-insert, ungrouped-same, no_group}

-- an outcome without an answer, and a refusal
abbrev done : {S : Type 0} → S → OutcomeIn S (Unit {0})
done s = Ok (tt {0}, s)

abbrev failed : {S : Type 0} → Refusal → OutcomeIn S (Unit {0})
failed e = Err e

abbrev state_of : {S : Type 0} → S → OutcomeIn S (Unit {0}) → S
state_of s (Ok p) = p.1
state_of s (Err e) = s

abbrev refusal_of : {S : Type 0} → Refusal → OutcomeIn S (Unit {0}) → Refusal
refusal_of f (Ok p) = f
refusal_of f (Err e) = e

done_same : {S : Type 0} {x y : S} → done x ≡ done y → x ≡ y
done_same {x = x} e = ap (state_of x) e

failed_done : {S B : Type 0} {x : S} {e : Refusal} → failed e ≡ done x → B
failed_done e = cc

failed_same : {S U : Type 0} {e f : Refusal} → failed {S = S} e ≡ failed f → failed {S = U} e ≡ failed f
failed_same {e = e} h = ap (λ x. failed x) (ap (refusal_of e) h)

-- ---- the first that refers to a digest

first-both : (p : Link × Text → Bool) (q : Text → Bool) (es : List (Link × Text)) →
    option_map (λ (e : Link × Text). e.0.1) (first (λ e. p e && q e.1) es) ≡ option_map (λ (e : Text × Text). e.0) (first (λ e. q e.1) (map {B = Text × Text} (λ (e : Link × Text). (e.0.1, e.1)) (filter p es)))
first-both p q [] = refl
first-both p q (e ∷ es) = by_key (first-both p q es) (p e)
  where
    by_value : option_map (λ (e : Link × Text). e.0.1) (first (λ e. p e && q e.1) es) ≡ option_map (λ (e : Text × Text). e.0) (first (λ e. q e.1) (map {B = Text × Text} (λ (e : Link × Text). (e.0.1, e.1)) (filter p es))) → (b : Bool) → option_map (λ (e : Link × Text). e.0.1) (cond b (Some e) (first (λ e. p e && q e.1) es))
        ≡ option_map (λ (e : Text × Text). e.0) (cond b (Some (e.0.1, e.1)) (first (λ e. q e.1) (map {B = Text × Text} (λ (e : Link × Text). (e.0.1, e.1)) (filter p es))))
    by_value rest true = refl
    by_value rest false = rest

    by_key : option_map (λ (e : Link × Text). e.0.1) (first (λ e. p e && q e.1) es) ≡ option_map (λ (e : Text × Text). e.0) (first (λ e. q e.1) (map {B = Text × Text} (λ (e : Link × Text). (e.0.1, e.1)) (filter p es))) → (a : Bool) → option_map (λ (e : Link × Text). e.0.1) (cond (a && q e.1) (Some e) (first (λ e. p e && q e.1) es))
        ≡ option_map (λ (e : Text × Text). e.0) (first (λ e. q e.1) (map {B = Text × Text} (λ (e : Link × Text). (e.0.1, e.1)) (cond a (e ∷ filter p es) (filter p es))))
    by_key rest true = by_value rest (q e.1)
    by_key rest false = rest

pub referrer-ungrouped : (g : Groups Text) (r d : Text) → referrer_on (ungrouped g) r d ≡ referrer_in (group g r) d
referrer-ungrouped g r d =
    first-both (λ e. same_text e.0.0 r) (λ bytes. refers bytes d) (entries (ungrouped g))
    ∙ ap (λ es. option_map (λ (e : Text × Text). e.0) (first (λ e. refers e.1 d) es)) (on-ungrouped g r)

-- ---- to put a manifest

module _ (g : Groups Text) (r : Text) where
  put_as : (n : ℕ) (bytes : Text) → put_on n (ungrouped g) r bytes ≡
      cond (contains_key (group g r) (sha256_text bytes)) (done (ungrouped g)) (cond (nat_le n (len (group g r))) (failed LimitReached) (done (insert (ungrouped g) (r, sha256_text bytes) bytes)))
  put_as n bytes = λ i. cond (is_some (get-ungrouped g r (sha256_text bytes) i)) (done (ungrouped g)) (cond (nat_le n (count-ungrouped g r i)) (failed LimitReached) (done (insert (ungrouped g) (r, sha256_text bytes) bytes)))

  accepted : (n : ℕ) (bytes : Text) (w : RepoManifestBytes) → put_in n (group g r) bytes ≡ done w → put_on n (ungrouped g) r bytes ≡ done (ungrouped (insert g r w))
  accepted n bytes w h = put_as n bytes ∙ by_tests (contains_key (group g r) (sha256_text bytes)) (nat_le n (len (group g r))) h
    where
      by_tests : (a b : Bool) → cond a (done (group g r)) (cond b (failed LimitReached) (done (insert (group g r) (sha256_text bytes) bytes))) ≡ done w →
          cond a (done (ungrouped g)) (cond b (failed LimitReached) (done (insert (ungrouped g) (r, sha256_text bytes) bytes))) ≡ done (ungrouped (insert g r w))
      by_tests true b is = ap (λ m. done m) (sym (ungrouped-same g r) ∙ ap (λ m. ungrouped (insert g r m)) (done_same is))
      by_tests false true is = failed_done is
      by_tests false false is = ap (λ m. done m) (sym (ungrouped-insert g r (sha256_text bytes) bytes) ∙ ap (λ m. ungrouped (insert g r m)) (done_same is))

  refused : (n : ℕ) (bytes : Text) (e : Refusal) → put_in n (group g r) bytes ≡ Err e → put_on n (ungrouped g) r bytes ≡ Err e
  refused n bytes e h = put_as n bytes ∙ by_tests (contains_key (group g r) (sha256_text bytes)) (nat_le n (len (group g r))) h
    where
      by_tests : (a b : Bool) → cond a (done (group g r)) (cond b (failed LimitReached) (done (insert (group g r) (sha256_text bytes) bytes))) ≡ failed {S = RepoManifestBytes} e →
          cond a (done (ungrouped g)) (cond b (failed LimitReached) (done (insert (ungrouped g) (r, sha256_text bytes) bytes))) ≡ failed {S = ManifestBytes} e
      by_tests true b is = failed_done (sym is)
      by_tests false true is = failed_same is
      by_tests false false is = failed_done (sym is)

  -- a manifest is put in its repository's
  pub put-ungrouped : (n : ℕ) (result : Result (Unit {0}) Refusal) (w : RepoManifestBytes) (bytes : Text) → Does (λ u. u) result (group g r) w (put_in n (group g r) bytes) → Does (λ u. u) result (ungrouped g) (ungrouped (insert g r w)) (put_on n (ungrouped g) r bytes)
  put-ungrouped n (Ok u) w bytes h = accepted n bytes w h
  put-ungrouped n (Err e) w bytes h = (λ other. refused n bytes e (h.0 other), ap (λ m. ungrouped (insert g r m)) h.1 ∙ ungrouped-same g r)

-- ---- the tree of the repositories

module _ (rows : tree.BTreeMap Text RepoManifestBytes) (r : Text) where
  pub put_there : (limit : ℕ) (n : tree.BTreeMap Text RepoManifestBytes) (m w : RepoManifestBytes) (bytes : Text) (result : Result (Unit {0}) Refusal) → group (map_of rows) r ≡ m → map_of n ≡ insert (map_of rows) r w →
      Does (λ u. u) result m w (put_in limit m bytes) → Does (λ u. u) result (manifest_bytes rows) (manifest_bytes n) (put_on limit (manifest_bytes rows) r bytes)
  put_there limit n m w bytes result found new h =
      subst (λ (x : Groups Text). Does (λ u. u) result (manifest_bytes rows) (ungrouped x) (put_on limit (manifest_bytes rows) r bytes)) (sym new)
      (put-ungrouped (map_of rows) r limit result w bytes (subst (λ (x : RepoManifestBytes). Does (λ u. u) result x w (put_in limit x bytes)) (sym found) h))

  pub put_refused : (limit : ℕ) (m w : RepoManifestBytes) (bytes : Text) (e : Refusal) → group (map_of rows) r ≡ m → Does {A = Unit {0}} (λ u. u) (Err e) m w (put_in limit m bytes) → Does {A = Unit {0}} (λ u. u) (Err e) (manifest_bytes rows) (manifest_bytes rows) (put_on limit (manifest_bytes rows) r bytes)
  put_refused limit m w bytes e found h = (λ other. refused (map_of rows) r limit bytes e (ap (λ x. put_in limit x bytes) found ∙ h.0 other), refl)

  pub referrer_there : (m : RepoManifestBytes) (d : Text) → group (map_of rows) r ≡ m → referrer_in m d ≡ referrer_on (manifest_bytes rows) r d
  referrer_there m d found = ap (λ x. referrer_in x d) (sym found) ∙ sym (referrer-ungrouped (map_of rows) r d)

  pub referrer_none : (d : Text) → None ≡ tree.get text_cmp rows r → None ≡ referrer_on (manifest_bytes rows) r d
  referrer_none d is = sym (referrer-ungrouped (map_of rows) r d ∙ ap (λ x. referrer_in (given x) d) (no_group rows r is) ∙ ap (λ es. option_map (λ (e : Text × Text). e.0) (first (λ e. refers e.1 d) es)) (entries-empty text_cmp Text))

-- if nothing was found, the repository has no manifests
pub none_same : (rows n : tree.BTreeMap Text RepoManifestBytes) (r d : Text) → None ≡ tree.get text_cmp rows r → n ≡ rows → get (manifest_bytes n) (r, d) ≡ None
none_same rows n r d none is = ap (λ x. get (manifest_bytes x) (r, d)) is ∙ sym (get_none rows r d none)

-- an iterator that returned nothing had nothing left
pub none_next : {S A B : Type 0} (view : A → B) (rest : S → List B) (s t : S) (r : Option A) → YieldsFirstBy view rest s r t → is_some r ≡ false → rest s ≡ []
none_next view rest s t None ran nothing = ran.0
none_next view rest s t (Some x) ran nothing = cc
