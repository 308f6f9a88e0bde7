-- `Book::start`, by the clauses of its calls of the layers.
use Rattle.std.proofs.Common.{◌≡◌, ℕ, ◌≤◌, Bool, true, false, List, length, Ok, Err, is_some, refl, sym, ap, ◌∙◌, subst, arith}
use Rattle.std.specs.Prelude.{if◌then◌else◌}
use Rattle.std.specs.Cmp.Lexicographic.{nat_list_cmp_total}
use Rattle.std.specs.FinMap.{get}
use Rattle.std.specs.Option.{option_map}
use Rattle.std.proofs.lemmas.Bool.{not-true, not-false, true≢false}
use Rattle.std.proofs.lemmas.Map.Lookups.{exact_bytes}
use Rattle.spec_lib.proofs.Options.{not_some}
use Rattle.blob_digest.specs.declared.refusal.Refusal.{Refusal}
use Rattle.spec_lib.specs.Sets as set
use Rattle.spec_lib.proofs.Sets.{insert_there, remove-insert}
use Rattle.slot_table.specs.Slots.{Slot}
use Rattle.link_table.specs.Linked.{Linked, HasNoLinks, known_tenant, limits_in, appear, vanish}
use Rattle.upload_table.specs.Uploaded.{Uploaded, start_upload, with_new_session}
use Rattle.spec_lib.specs.Texts.{Text}
use Rattle.store_model.specs.Catalog.{Catalog, session_charges_of}
use Rattle.store_model.specs.Commands.{start}
use Rattle.store_model.specs.Invariant.{Sound}
use Rattle.store_book.specs.Layers.{Layers, book_catalog, IsBook}
use Rattle.store_book.proofs.Layers.Sums.{get-links_of, mark}
use Rattle.store_model.proofs.Invariant.Counts.{link_count-appear}
use Rattle.store_model.proofs.Invariant.Repos.{holds_none}
use Rattle.store_model.proofs.Invariant.Sessions.{used_bytes-open}
use Rattle.store_model.proofs.Commands.Start.{Sound-after_start}

module _ {A E : Type 0} where
  pub ok_of_if : (b : Bool) (d : E) (x y : A) → (if b then Err d else Ok x) ≡ Ok y → (b ≡ false) × (x ≡ y)
  ok_of_if true d x y h = absurd cc
  ok_of_if false d x y h = (refl, cc)

  pub err_of_if : (b : Bool) (d e : E) (x : A) → (if b then Err d else Ok x) ≡ Err e → (b ≡ true) × (d ≡ e)
  err_of_if true d e x h = (refl, cc)
  err_of_if false d e x h = absurd cc

-- unchanged layers
module _ (L : Layers) (l' : Linked) (u' : Uploaded) (slots' : List Slot) (links : l' ≡ L.links) (uploads : u' ≡ L.uploads) (slots_are : slots' ≡ L.slots) where
  abbrev same_layers : record L { links = l'; uploads = u'; slots = slots' } ≡ L
  same_layers = λ i. record L { links = links i; uploads = uploads i; slots = slots_are i }

  pub same_catalog : book_catalog (record L { links = l'; uploads = u'; slots = slots' }) ≡ book_catalog L
  same_catalog = ap book_catalog same_layers

  pub same_book : IsBook L → IsBook (record L { links = l'; uploads = u'; slots = slots' })
  same_book book = subst (λ (x : Layers). IsBook x) (sym same_layers) book

module _ (l l' : Linked) (t : ℕ) (repo : Text) (b : Bool) (appeared : appear l t repo ≡ Ok (b, l')) where
  -- a new repository is removed again
  pub undone : b ≡ true → vanish l' repo ≡ l
  undone new =
      let a = ok_of_if _ _ _ _ appeared in
      let absent : set.contains l.repos repo ≡ false = not-true _ ((λ i. (a.1 i).0) ∙ new) in
      sym (ap (λ x. vanish x repo) (λ i. (a.1 i).1)) ∙ (λ i. record l { repos = remove-insert nat_list_cmp_total exact_bytes l.repos repo absent i })

  pub unneeded : b ≡ false → l' ≡ l
  unneeded old =
      let a = ok_of_if _ _ _ _ appeared in
      let there : set.contains l.repos repo ≡ true = not-false _ ((λ i. (a.1 i).0) ∙ old) in
      sym (λ i. (a.1 i).1) ∙ (λ i. record l { repos = insert_there nat_list_cmp_total exact_bytes l.repos repo there i })

module _ (L : Layers) (l' : Linked) (t : ℕ) (repo : Text) (b : Bool) where
  abbrev C : Catalog
  C = book_catalog L

  -- the tenant's limit
  abbrev IsLimit : ℕ → Type 0
  IsLimit limit = limit ≡ (limits_in L.links.tenants t).sessions

  pub start_ok : (limit : ℕ) → IsLimit limit → (u' : Uploaded) (n : ℕ) → known_tenant L.links repo ≡ Ok t → appear L.links t repo ≡ Ok (b, l') → start_upload limit L.uploads t repo ≡ Ok (n, u') →
      start C repo ≡ Ok (n, book_catalog (record L { links = l'; uploads = u' }))
  start_ok limit is u' n known appeared opened =
      let a = ok_of_if _ _ _ _ appeared in
      let s = ok_of_if _ _ _ _ (subst (λ k. start_upload k L.uploads t repo ≡ Ok (n, u')) is opened) in
      rw (known, a.0, s.0) (λ i. Ok ((s.1 i).0, book_catalog (record L { links = (a.1 i).1; uploads = (s.1 i).1 })))

  pub start_refused_first : (e : Refusal) → known_tenant L.links repo ≡ Ok t → appear L.links t repo ≡ Err e → start C repo ≡ Err e
  start_refused_first e known refused =
      let a = err_of_if _ _ _ _ refused in
      rw (known, a.0) (ap Err a.1)

  pub start_refused : (limit : ℕ) → IsLimit limit → (e : Refusal) → known_tenant L.links repo ≡ Ok t → appear L.links t repo ≡ Ok (b, l') → start_upload limit L.uploads t repo ≡ Err e → start C repo ≡ Err e
  start_refused limit is e known appeared refused =
      let a = ok_of_if _ _ _ _ appeared in
      let s = err_of_if _ _ _ _ (subst (λ k. start_upload k L.uploads t repo ≡ Err e) is refused) in
      rw (known, a.0, s.0) (ap Err s.1)

  module _ (book : IsBook L) where
    abbrev l1 : Linked
    l1 = record L.links { repos = set.insert L.links.repos repo }

    abbrev u1 : Uploaded
    u1 = with_new_session L.uploads t repo

    abbrev C1 : Catalog
    C1 = book_catalog (record L { links = l1; uploads = u1 })

    same_sessions : (v : ℕ) → session_charges_of C1 v ≡ session_charges_of C v
    same_sessions v = let same = used_bytes-open C t repo book.sound.lawful v in omega arith

    opened_book : Sound C1 → IsBook (record L { links = l1; uploads = u1 })
    opened_book sound = record {
      sound = sound;
      tied = record {
        marks = book.tied.marks;
        distinct = book.tied.distinct;
        sizes = book.tied.sizes;
        counts = λ k h at. book.tied.counts k h at ∙ sym (link_count-appear C repo h.digest book.sound.lawful);
      };
      charges = record { one_each = book.charges.one_each; sums = λ v lt. book.charges.sums v lt ∙ sym (same_sessions v) };
    }

    -- after a session was opened, the layers make a book
    pub IsBook-start : (limit : ℕ) → IsLimit limit → (u' : Uploaded) (n : ℕ) → length repo ≤ 255 → known_tenant L.links repo ≡ Ok t → appear L.links t repo ≡ Ok (b, l') → start_upload limit L.uploads t repo ≡ Ok (n, u') → IsBook (record L { links = l'; uploads = u' })
    IsBook-start limit is u' n short known appeared opened =
        let a = ok_of_if _ _ _ _ appeared in
        let s = ok_of_if _ _ _ _ (subst (λ k. start_upload k L.uploads t repo ≡ Ok (n, u')) is opened) in
        let links : l1 ≡ l' = λ i. (a.1 i).1 in
        let uploads : u1 ≡ u' = λ i. (s.1 i).1 in
        let step : start C repo ≡ Ok (n, C1) = start_ok limit is u' n known appeared opened ∙ (λ i. Ok (n, book_catalog (record L { links = sym links i; uploads = sym uploads i }))) in
        let sound = Sound-after_start C C1 repo n step short book.sound in
        subst (λ (x : Layers). IsBook x) (λ i. record L { links = links i; uploads = uploads i }) (opened_book sound)

-- a repository that is absent has no links
pub absent_unlinked : (L : Layers) (repo : Text) → IsBook L → set.contains L.links.repos repo ≡ false → HasNoLinks L.links.links repo
absent_unlinked L repo book absent d =
    let unheld = holds_none (book_catalog L) repo book.sound.lawful absent d in
    not_some (get L.links.links (repo, d)) (λ n at. true≢false (sym (ap is_some (get-links_of L.links.links (repo, d) ∙ ap (option_map mark) at)) ∙ unheld))

pub appeared_unlinked : (L : Layers) (l' : Linked) (t : ℕ) (repo : Text) (b : Bool) → IsBook L → appear L.links t repo ≡ Ok (b, l') → b ≡ true → HasNoLinks l'.links repo
appeared_unlinked L l' t repo b book appeared new d =
    let a = ok_of_if _ _ _ _ appeared in
    let absent : set.contains L.links.repos repo ≡ false = not-true _ ((λ i. (a.1 i).0) ∙ new) in
    ap (λ (x : Linked). get x.links (repo, d)) (sym (λ i. (a.1 i).1)) ∙ absent_unlinked L repo book absent d
