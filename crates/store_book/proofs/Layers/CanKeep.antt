-- In a book, a blob within the size limit can be linked.
use Rattle.std.proofs.Common.{◌≡◌, ℕ, ◌^◌, ◌<◌, ◌≤◌, true, length, Some, None, Ok, sym, ap, ◌∙◌, arith}
use Rattle.std.specs.FinMap.{get}
use Rattle.spec_lib.proofs.Options.{not_some, some_same}
use Rattle.blob_digest.specs.declared.refusal.Refusal.TheVariants.{NameUnknown}
use Rattle.spec_lib.specs.Sets as set
use Rattle.link_table.specs.Linked.{known_tenant}
use Rattle.spec_lib.specs.Texts.{Text}
use Rattle.store_model.specs.Catalog.{Resident, Catalog, tenant_of}
use Rattle.store_book.specs.Layers.{Layers, lent_marks, book_catalog, IsBook}
use Rattle.store_book.specs.Internal.Storing.{CanStore}
use Rattle.store_book.proofs.Refine.Take.{use_is}
use Rattle.store_model.proofs.Invariant.Bounds.{count_small, used_small}
use Rattle.store_book.proofs.Slots.LeaseMarks.{length-marks}
use Rattle.store_model.proofs.Invariant.Repos.{is_own}
use Rattle.spec_lib.proofs.Outcomes.{some_of_ok}
use Rattle.store_model.proofs.Commands.Accepted.{tenant_there}
use Rattle.store_book.proofs.Layers.Ties.{not_resident, slot_is_resident}

module _ (L : Layers) (t : ℕ) (repo : Text) (blob : Text × Text) (book : IsBook L)
    (known : known_tenant L.links repo ≡ Ok t) (there : set.contains L.links.repos repo ≡ true) (small : length blob.1 ≤ 2 ^ 50) where
  abbrev C : Catalog
  C = book_catalog L

  pub CanStore-book : CanStore L.links L.slots t repo blob
  CanStore-book =
      let name : tenant_of L.links.tenants repo ≡ Some t = some_of_ok (tenant_of L.links.tenants repo) NameUnknown t known in
      let in_tenants : t < length L.links.tenants = tenant_there L.links.tenants repo t name in
      record {
        tenant = in_tenants;
        own = is_own C t repo name;
        there = there;
        held = λ d none r. not_some (get L.links.links (r, d)) (λ n at. let b = book.tied.sizes (r, d) n at in let absent = not_resident L.slots (lent_marks L.slots) d none in let clash : None ≡ Some b.0 = sym absent ∙ b.1 in cc);
        sizes = λ k h r n at linked.
            (let b = book.tied.sizes (r, h.digest) n linked in
            let x = slot_is_resident L.slots (lent_marks L.slots) (length-marks L.slots) book.tied.distinct k h at in
            let same : b.0 ≡ x.0 = some_same (sym b.1 ∙ x.1) in
            b.2 ∙ ap (λ (y : Resident). length y.bytes) same ∙ ap length x.2);
        room =
            (let used = use_is L t book in_tenants in
            let few = used_small C book.sound t in_tenants in
            omega arith);
        counts = λ k h at. (let n = book.tied.counts k h at in let few = count_small C book.sound.lawful h.digest in omega arith);
      }
