-- The invariant of a table's stored sums, through each call.
use Rattle.std.proofs.Common.{◌≡◌, ℕ, ◌+◌, ◌-◌, ◌<◌, ◌≤◌, ◌^◌, Bool, true, false, cond, not, List, [], ◌∷◌, length, get_or, set, Option, Some, None, is_some, Ok, refl, sym, ap, ◌∙◌, arith, inl, inr, get_or-set_same, get_or-set_other, length-set}
use Rattle.std.specs.Prelude.{if◌then◌else◌, slice_index, nat_eq, replicate, ◌&&◌, ◌||◌}
use Rattle.std.specs.Option.{option_eq}
use Rattle.std.specs.List.{list_any}
use Rattle.std.specs.Ordering.{eq_by_cmp}
use Rattle.std.specs.Cmp.{eq_by_cmp_equiv}
use Rattle.std.specs.Cmp.Lexicographic.{nat_list_cmp_total, texts_ties}
use Rattle.std.specs.FinMap.{FinMap, find, get, insert, remove, entries, empty, get-empty, get-from_entries}
use Rattle.std.proofs.lemmas.Bool.{cases_eq, ne_eqb, true≢false}
use Rattle.std.proofs.lemmas.List.{length-replicate, get_or-replicate}
use Rattle.std.proofs.lemmas.Option.{slice_get_read, get_or_from_slice_get}
use Rattle.spec_lib.specs.Texts.{Text, text_cmp, same_text}
use Rattle.blob_digest.specs.Keys.{Link, link_cmp}
use Rattle.blob_digest.proofs.KeyOrders.{link_cmp_total, exact_link}
use Rattle.spec_lib.proofs.Rows.{entries-empty}
use Rattle.spec_lib.proofs.Sums.{insert_back}
use Rattle.link_table.specs.Linked.{Tenant, Linked, digest_sizes, blobs, total_size, is_repo_of_tenant, tenant_of, IsSizeOf, link}
use Rattle.link_table.specs.Tenancy.{AreTenants}
use Rattle.link_table.specs.Usage.{KeepsUsage}
use Rattle.link_table.specs.Holders.{is_link_of}
use Rattle.spec_lib.proofs.Options.{option_eq_some}
use Rattle.link_table.proofs.Weights.{HasOneSize-insert, HasOneSize-remove, total-insert, total-other, total-remove, total-remove_other}
use Rattle.std.proofs.Math.Bool.{and-false, and-true}

-- a repository has one tenant
others : (tenants : List Tenant) (t u : ℕ) (repo : Text) → is_repo_of_tenant tenants t repo ≡ true → (u ≡ t → ⊥) → is_repo_of_tenant tenants u repo ≡ false
others tenants t u repo own differ = ap (λ o. option_eq nat_eq o (Some u)) (option_eq_some (tenant_of tenants repo) t own) ∙ ne_eqb t u (λ e. differ (sym e))

-- a number that is read from a list
pub read_at : (xs : List ℕ) (i x : ℕ) → i < length xs → x ≡ get_or xs i x → x ≡ slice_index xs i
read_at xs i x lt is = sym (get_or_from_slice_get xs i x 0 (slice_get_read xs (length xs) i x refl lt is))

at_most : (held : Bool) (w x size : ℕ) → w ≡ x + (if held then 0 else size) → w ≤ x + size
at_most true w x size is = omega arith
at_most false w x size is = omega arith

-- ---- the digests of some repositories

split : {X : Type 0} (b : Bool) (v : X) (x : Option X) → is_some (cond b (Some v) x) ≡ (b || is_some x)
split true v x = refl
split false v x = refl

text_tie : (q r : Text) → eq_by_cmp text_cmp q r ≡ same_text r q
text_tie q r = (eq_by_cmp_equiv nat_list_cmp_total).symm q r ∙ sym (texts_ties r q)

module _ (tenants : List Tenant) (t : ℕ) (d : Text) where
  found_size : (es : List (Link × ℕ)) → is_some (find text_cmp d (digest_sizes (is_repo_of_tenant tenants t) es)) ≡ list_any (is_link_of tenants t d) es
  found_size [] = refl
  found_size (e ∷ es) =
      elim (is_repo_of_tenant tenants t e.0.0) as (λ b. is_some (find text_cmp d (cond b ((e.0.1, e.1) ∷ digest_sizes (is_repo_of_tenant tenants t) es) (digest_sizes (is_repo_of_tenant tenants t) es))) ≡ ((same_text e.0.1 d && b) || list_any (is_link_of tenants t d) es)) [
        | true ↦ split (eq_by_cmp text_cmp d e.0.1) e.1 (find text_cmp d (digest_sizes (is_repo_of_tenant tenants t) es)) ∙ (λ i. (text_tie d e.0.1 ∙ sym (and-true (same_text e.0.1 d))) i || found_size es i)
        | false ↦ found_size es ∙ (λ i. sym (and-false (same_text e.0.1 d)) i || list_any (is_link_of tenants t d) es)
      ]

  -- a tenant contains a digest if and only if a link of its repositories has it
  pub contains-blob : (links : FinMap link_cmp ℕ) → is_some (get (blobs (is_repo_of_tenant tenants t) links) d) ≡ list_any (is_link_of tenants t d) (entries links)
  contains-blob links = ap is_some (get-from_entries nat_list_cmp_total (digest_sizes (is_repo_of_tenant tenants t) (entries links)) d) ∙ found_size (entries links)

module _ (tenants : List Tenant) (links : FinMap link_cmp ℕ) (blob_bytes charges : List ℕ) (sound : KeepsUsage tenants links blob_bytes charges) (t : ℕ) (lt : t < length tenants) (r d : Text) (size : ℕ) (own : is_repo_of_tenant tenants t r ≡ true) where
  within : t < length blob_bytes
  within = omega (arith, sound.one_each.0)

  abbrev holds : FinMap link_cmp ℕ → Bool
  holds m = is_some (get (blobs (is_repo_of_tenant tenants t) m) d)

  pub KeepsUsage-link : IsSizeOf links d size → total_size (blobs (is_repo_of_tenant tenants t) links) + slice_index charges t + size < 2 ^ 64 →
      (held : Bool) → held ≡ holds links → (x w : ℕ) → x ≡ get_or blob_bytes t x → w ≡ x + (if held then 0 else size) → KeepsUsage tenants (insert links (r, d) size) (set blob_bytes t w) charges
  KeepsUsage-link fits room held is_held x w read is =
      let at : x ≡ slice_index blob_bytes t = read_at blob_bytes t x within read in
      let summed : slice_index blob_bytes t ≡ total_size (blobs (is_repo_of_tenant tenants t) links) = sound.summed t lt in
      let most : w ≤ x + size = at_most held w x size is in
      let is_w : w ≡ slice_index blob_bytes t + (if held then 0 else size) = is ∙ ap (λ n. n + (if held then 0 else size)) at in
      let fits_now : w + slice_index charges t < 2 ^ 64 = omega arith in record {
        accepted = sound.accepted;
        one_each = (length-set blob_bytes t w ∙ sound.one_each.0, sound.one_each.1);
        one_size = HasOneSize-insert links r d size sound.one_size fits;
        summed = λ u below. elim (cases_eq u t) [
          | inl e ↦ rw e (get_or-set_same blob_bytes t w 0 within ∙ is_w ∙ (λ i. sound.summed t lt i + (if is_held i then 0 else size))
              ∙ sym (total-insert links r d size sound.one_size fits (is_repo_of_tenant tenants t) own))
          | inr other ↦ get_or-set_other blob_bytes t u w 0 other ∙ sound.summed u below
              ∙ sym (total-other links r d size sound.one_size fits (is_repo_of_tenant tenants u) (others tenants t u r own other))
        ];
        small = λ u below. elim (cases_eq u t) [
          | inl e ↦ rw (e, get_or-set_same blob_bytes t w 0 within) fits_now
          | inr other ↦ rw (get_or-set_other blob_bytes t u w 0 other) (sound.small u below)
        ];
      }

  module _ (there : get links (r, d) ≡ Some size) (held : Bool) (is_held : held ≡ holds (remove links (r, d))) (x : ℕ) (read : x ≡ get_or blob_bytes t x) where
    before : slice_index blob_bytes t ≡ total_size (blobs (is_repo_of_tenant tenants t) (remove links (r, d))) + (if held then 0 else size)
    before =
        sound.summed t lt ∙ total-remove links r d size sound.one_size there (is_repo_of_tenant tenants t) own
        ∙ (λ j. total_size (blobs (is_repo_of_tenant tenants t) (remove links (r, d))) + (if sym is_held j then 0 else size))

    at : x ≡ slice_index blob_bytes t
    at = read_at blob_bytes t x within read

    pub light_enough : (if held then 0 else size) ≤ x
    light_enough = omega (arith, before, at)

    pub KeepsUsage-unlink : (w : ℕ) → w ≡ x - (if held then 0 else size) → KeepsUsage tenants (remove links (r, d)) (set blob_bytes t w) charges
    KeepsUsage-unlink w is =
        let lighter : w ≡ total_size (blobs (is_repo_of_tenant tenants t) (remove links (r, d))) = omega (arith, before, at) in
        let small_now : w + slice_index charges t < 2 ^ 64 = (let s = sound.small t lt in omega (arith, before, at)) in record {
          accepted = sound.accepted;
          one_each = (length-set blob_bytes t w ∙ sound.one_each.0, sound.one_each.1);
          one_size = HasOneSize-remove links sound.one_size (r, d);
          summed = λ u below. elim (cases_eq u t) [
            | inl e ↦ rw (e, get_or-set_same blob_bytes t w 0 within) lighter
            | inr other ↦ get_or-set_other blob_bytes t u w 0 other ∙ sound.summed u below
                ∙ total-remove_other links r d size sound.one_size there (is_repo_of_tenant tenants u) (others tenants t u r own other)
          ];
          small = λ u below. elim (cases_eq u t) [
            | inl e ↦ rw (e, get_or-set_same blob_bytes t w 0 within) small_now
            | inr other ↦ rw (get_or-set_other blob_bytes t u w 0 other) (sound.small u below)
          ];
        }

-- ---- the result of `link`

-- the call on the repository returns whether the repository lacked the digest
pub was_there : (b held : Bool) → b ≡ not held → b ≡ false → held ≡ true
was_there b true is old = refl
was_there b false is old = absurd (true≢false (sym is ∙ old))

pub was_new : (b held : Bool) → b ≡ not held → b ≡ true → held ≡ false
was_new b true is new = absurd (true≢false (sym new ∙ is))
was_new b false is new = refl

-- a link that is there, with the one size of its digest
pub linked_again : (links : FinMap link_cmp ℕ) (r d : Text) (n m : ℕ) → get links (r, d) ≡ Some m → IsSizeOf links d n → insert links (r, d) n ≡ links
linked_again links r d n m there fits = insert_back link_cmp_total exact_link links (r, d) n (there ∙ ap Some (fits r m there))

pub link_there : (l : Linked) (r d : Text) (n m : ℕ) → get l.links (r, d) ≡ Some m → IsSizeOf l.links d n → link l r d n ≡ Ok (false, l)
link_there l r d n m there fits =
    let same : insert l.links (r, d) n ≡ l.links = linked_again l.links r d n m there fits in
    rw there (λ i. Ok (false, record { tenants = l.tenants; repos = l.repos; links = same i; manifests = l.manifests; charges = l.charges }))

pub link_new : (l : Linked) (r d : Text) (n : ℕ) (m : FinMap link_cmp ℕ) → get l.links (r, d) ≡ None → m ≡ insert l.links (r, d) n →
    link l r d n ≡ Ok (true, record { tenants = l.tenants; repos = l.repos; links = m; manifests = l.manifests; charges = l.charges })
link_new l r d n m none is = rw none (λ i. Ok (true, record { tenants = l.tenants; repos = l.repos; links = sym is i; manifests = l.manifests; charges = l.charges }))

-- ---- a table with nothing in it

none_total : (passes : Text → Bool) → total_size (blobs passes empty) ≡ 0
none_total passes = rw (entries-empty link_cmp ℕ) (rw (entries-empty text_cmp ℕ) refl)

nothing_linked : {B : Type 0} (k : Link) (n : ℕ) → get (empty {X = ℕ} {R = link_cmp}) k ≡ Some n → B
nothing_linked k n h = (let e : None ≡ Some n = sym (get-empty link_cmp k) ∙ h in cc)

pub KeepsUsage-initial : (tenants : List Tenant) (links : FinMap link_cmp ℕ) (blob_bytes charges : List ℕ) → AreTenants tenants → links ≡ empty →
    blob_bytes ≡ replicate (length tenants) 0 → charges ≡ replicate (length tenants) 0 → KeepsUsage tenants links blob_bytes charges
KeepsUsage-initial tenants links blob_bytes charges are no_links ws cs = rw (no_links, ws, cs) (record {
  accepted = are;
  one_each = (length-replicate {A = ℕ} (length tenants) 0, length-replicate {A = ℕ} (length tenants) 0);
  one_size = λ r s d m n f g. nothing_linked (r, d) m f;
  summed = λ t lt. get_or-replicate {A = ℕ} (length tenants) t 0 0 lt ∙ sym (none_total (is_repo_of_tenant tenants t));
  small = λ t lt. let a = get_or-replicate {A = ℕ} (length tenants) t 0 0 lt in omega arith;
})
