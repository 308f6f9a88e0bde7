-- The calls of the book on manifests, by the clauses of their calls of the layers.
use Rattle.std.proofs.Common.{◌≡◌, ℕ, ◌≤◌, Bool, true, false, cond, List, [], ◌∷◌, length, not, Option, Some, None, Result, Ok, Err, is_some, refl, sym, ap, ◌∙◌, subst, arith}
use Prim.Native.Nat.{zero, suc}
use Rattle.std.specs.Prelude.{nat_le, nat_lt}
use Rattle.std.specs.Option.{option_map, option_map_or}
use Rattle.std.specs.FinMap.{get, insert, contains_key}
use Rattle.std.proofs.lemmas.Bool.{le-ltb}
use Rattle.blob_digest.specs.Digests.{sha256_text}
use Rattle.blob_digest.specs.Outcomes.{OutcomeIn}
use Rattle.spec_lib.specs.Sets as set
use Rattle.blob_digest.specs.declared.refusal.Refusal.{Refusal}
use Rattle.blob_digest.specs.declared.refusal.Refusal.TheVariants.{LimitReached, ManifestBlobUnknown}
use Rattle.spec_lib.proofs.Options.{no_value}
use Rattle.oci_manifest.specs.Manifests.{IsManifest, refs_of, max_manifest}
use Rattle.link_table.specs.ManifestTable.{manifests_in}
use Rattle.link_table.specs.Linked.{Linked, known_tenant, appear, cannot_appear, first_unlinked, limits_in, drop_manifest, put_manifest as put_manifest_on}
use Rattle.spec_lib.specs.Texts.{Text}
use Rattle.store_model.specs.Catalog.{Catalog}
use Rattle.store_model.specs.Commands.{put_manifest, delete_manifest, check_all_links}
use Rattle.store_book.specs.Internal.Storing.{check_held, add_manifest_outcome}
use Rattle.store_model.specs.Invariant.{Sound}
use Rattle.store_book.specs.Layers.{Layers, book_catalog, IsBook}
use Rattle.store_model.proofs.Invariant.Counts.{link_count-appear}
use Rattle.store_book.proofs.Layers.LinkedSlots.{holds_linked}
use Rattle.store_model.proofs.Commands.Manifests.{Sound-after_put_manifest, Sound-after_delete_manifest}

module _ (L : Layers) (t : ℕ) (repo digest : Text) (known : known_tenant L.links repo ≡ Ok t) where
  abbrev C : Catalog
  C = book_catalog L

  abbrev after : Catalog
  after = book_catalog (record L { links = drop_manifest L.links repo digest })

  pub delete_there : (bytes : Text) → get L.links.manifests (repo, digest) ≡ Some bytes → delete_manifest C repo digest ≡ Ok (tt, after)
  delete_there bytes is = rw (known, is) refl

  -- after a manifest was deleted, the layers make a book
  pub IsBook-delete_manifest : (bytes : Text) → get L.links.manifests (repo, digest) ≡ Some bytes → IsBook L → IsBook (record L { links = drop_manifest L.links repo digest })
  IsBook-delete_manifest bytes is book = record {
    sound = Sound-after_delete_manifest C after repo digest (delete_there bytes is) book.sound;
    tied = record { marks = book.tied.marks; distinct = book.tied.distinct; sizes = book.tied.sizes; counts = book.tied.counts };
    charges = record { one_each = book.charges.one_each; sums = book.charges.sums };
  }

-- ---- putting a manifest

same_state : {x y : Linked} → ◌≡◌ {A = OutcomeIn Linked (Unit {0})} (Ok (tt, x)) (Ok (tt, y)) → x ≡ y
same_state {x} {y} h = let p : ◌≡◌ {A = Unit {0} × Linked} (tt, x) (tt, y) = cc in λ i. (p i).1

-- an option and its image are both `Some` or both `None`
pub is_some-of : {A : Type 0} (f : A → Text) (o : Option A) (x : Option Text) (b : Bool) → option_map f o ≡ x → is_some o ≡ b → is_some x ≡ b
is_some-of f None x b e h = sym (ap is_some e) ∙ h
is_some-of f (Some a) x b e h = sym (ap is_some e) ∙ h

-- a manifest from its parts
pub read_from : (bytes kept : Text) (refs : List Text) (name : Text) → kept ≡ bytes → length kept ≤ max_manifest → refs_of bytes ≡ Some refs → name ≡ sha256_text bytes → IsManifest bytes refs name
read_from bytes kept refs name shown fits named agrees = record { named = named; agrees = agrees; fits = subst (λ (x : Text). length x ≤ max_manifest) shown fits }

module _ (l : Linked) (t : ℕ) (repo bytes : Text) where
  -- the manifest is put into a new repository
  pub appeared_put : (l' : Linked) (b : Bool) → appear l t repo ≡ Ok (b, l') → add_manifest_outcome l t repo bytes ≡ put_manifest_on l' t repo bytes
  appeared_put l' b shown = rw shown refl

module _ (L : Layers) (t : ℕ) (repo bytes : Text) (refs : List Text) (name : Text) (book : IsBook L) (known : known_tenant L.links repo ≡ Ok t) (read : IsManifest bytes refs name) where
  abbrev B : Catalog
  B = book_catalog L

  -- the tenant's limit
  abbrev limit : ℕ
  limit = (limits_in L.links.tenants t).manifests

  abbrev refused_for : Option Text → Result (Unit {0}) Refusal
  refused_for unlinked = option_map_or (λ d. Err (ManifestBlobUnknown d)) unlinked (Ok tt)

  by_test : (b : Bool) (d : Text) (rest : Option Text) → cond b (refused_for rest) (Err (ManifestBlobUnknown d)) ≡ refused_for (cond (not b) (Some d) rest)
  by_test true d rest = refl
  by_test false d rest = refl

  linked_is : (digests : List Text) → check_all_links B repo digests ≡ check_held L.links repo digests
  linked_is [] = refl
  linked_is (d ∷ digests) =
      (λ i. cond (holds_linked L book repo d i) (linked_is digests i) (Err (ManifestBlobUnknown d)))
      ∙ by_test (contains_key L.links.links (repo, d)) d (first_unlinked L.links.links repo digests)

  fits : nat_lt max_manifest (length bytes) ≡ false
  fits = le-ltb max_manifest (length bytes) read.fits

  pub put_unlinked : (e : Refusal) → check_held L.links repo refs ≡ Err e → put_manifest B repo bytes ≡ Err e
  put_unlinked e is = rw (known, fits, read.named, linked_is refs, is) refl

  module _ (held : check_held L.links repo refs ≡ Ok tt) where
    pub put_there : is_some (get L.links.manifests (repo, name)) ≡ true → put_manifest B repo bytes ≡ Ok (name, B)
    put_there is =
        let there : is_some (get L.links.manifests (repo, sha256_text bytes)) ≡ true = ap (λ d. is_some (get L.links.manifests (repo, d))) (sym read.agrees) ∙ is in
        rw (known, fits, read.named, linked_is refs, held, there, read.agrees) refl

    module _ (absent : is_some (get L.links.manifests (repo, name)) ≡ false) where
      new : get L.links.manifests (repo, sha256_text bytes) ≡ None
      new = no_value (get L.links.manifests (repo, sha256_text bytes)) (ap (λ d. is_some (get L.links.manifests (repo, d))) (sym read.agrees) ∙ absent)

      pub put_refused : (e : Refusal) → add_manifest_outcome L.links t repo bytes ≡ Err e → put_manifest B repo bytes ≡ Err e
      put_refused e refused = by_room (cannot_appear L.links t repo) refl
        where
          by_count : (full : Bool) → cannot_appear L.links t repo ≡ false → nat_le limit (manifests_in L.links.manifests repo) ≡ full → put_manifest B repo bytes ≡ Err e
          by_count true room is = rw (known, fits, read.named, linked_is refs, held, new, room, is) (let h = rw (room, new, is) at refused in let same : LimitReached ≡ e = cc in ap Err same)
          by_count false room is = absurd (let h = rw (room, new, is) at refused in cc)

          by_room : (full : Bool) → cannot_appear L.links t repo ≡ full → put_manifest B repo bytes ≡ Err e
          by_room true is = rw (known, fits, read.named, linked_is refs, held, new, is) (let h = rw is at refused in let same : LimitReached ≡ e = cc in ap Err same)
          by_room false is = by_count (nat_le limit (manifests_in L.links.manifests repo)) is refl

      -- the new catalog has the repository, and the manifest in it
      abbrev l1 : Linked
      l1 = record L.links { repos = set.insert L.links.repos repo; manifests = insert L.links.manifests (repo, sha256_text bytes) bytes }

      added : (l' : Linked) → add_manifest_outcome L.links t repo bytes ≡ Ok (tt, l') → (cannot_appear L.links t repo ≡ false) × (nat_le limit (manifests_in L.links.manifests repo) ≡ false) × (l1 ≡ l')
      added l' done = by_room (cannot_appear L.links t repo) refl
        where
          by_count : (full : Bool) → cannot_appear L.links t repo ≡ false → nat_le limit (manifests_in L.links.manifests repo) ≡ full → (cannot_appear L.links t repo ≡ false) × (nat_le limit (manifests_in L.links.manifests repo) ≡ false) × (l1 ≡ l')
          by_count true room is = absurd (let h = rw (room, new, is) at done in cc)
          by_count false room is = (room, is, (let h = rw (room, new, is) at done in same_state h))

          by_room : (full : Bool) → cannot_appear L.links t repo ≡ full → (cannot_appear L.links t repo ≡ false) × (nat_le limit (manifests_in L.links.manifests repo) ≡ false) × (l1 ≡ l')
          by_room true is = absurd (let h = rw is at done in cc)
          by_room false is = by_count (nat_le limit (manifests_in L.links.manifests repo)) is refl

      pub put_ok : (l' : Linked) → add_manifest_outcome L.links t repo bytes ≡ Ok (tt, l') → put_manifest B repo bytes ≡ Ok (name, book_catalog (record L { links = l' }))
      put_ok l' done =
          let a = added l' done in
          rw (known, fits, read.named, linked_is refs, held, new, a.0, a.1, read.agrees) (λ i. Ok (sha256_text bytes, book_catalog (record L { links = a.2 i })))

      -- after a manifest was put, the layers make a book
      pub IsBook-put_manifest : (l' : Linked) → add_manifest_outcome L.links t repo bytes ≡ Ok (tt, l') → length repo ≤ 255 → IsBook (record L { links = l' })
      IsBook-put_manifest l' done short =
          let step = put_ok l' done in
          let is = (added l' done).2 in
          let sound = Sound-after_put_manifest B (book_catalog (record L { links = l' })) repo bytes name step short book.sound in
          subst (λ (x : Linked). IsBook (record L { links = x })) is (record {
            sound = subst (λ (x : Linked). Sound (book_catalog (record L { links = x }))) (sym is) sound;
            tied = record {
              marks = book.tied.marks;
              distinct = book.tied.distinct;
              sizes = book.tied.sizes;
              counts = λ k h at. book.tied.counts k h at ∙ sym (link_count-appear B repo h.digest book.sound.lawful);
            };
            charges = record { one_each = book.charges.one_each; sums = book.charges.sums };
          })
