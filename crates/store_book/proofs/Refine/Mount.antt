-- `Book::mount`, by the clauses of its calls of the layers.
use Rattle.std.proofs.Common.{◌≡◌, ℕ, ◌^◌, ◌<◌, ◌≤◌, Bool, true, false, List, length, Option, Some, None, Ok, Err, refl, sym, ap, ◌∙◌, subst, arith}
use Rattle.std.specs.Prelude.{slice_index, if◌then◌else◌}
use Rattle.std.specs.Cmp.Lexicographic.{nat_list_cmp_total}
use Rattle.std.specs.FinMap.{get}
use Rattle.std.proofs.lemmas.Map.Lookups.{exact_bytes}
use Rattle.blob_digest.specs.declared.refusal.Refusal.{Refusal}
use Rattle.blob_digest.specs.declared.refusal.Refusal.TheVariants.{NameUnknown}
use Rattle.spec_lib.specs.Sets as set
use Rattle.slot_table.specs.declared.phase.Phase.TheVariants as phase
use Rattle.slot_table.specs.Slots.{Slot, StoredBlob, slot_of, stored_blob_at, phase_at}
use Rattle.link_table.specs.Linked.{Linked, known_tenant, appear}
use Rattle.store_model.specs.declared.mount.Mount.TheVariants as mounting
use Rattle.spec_lib.specs.Texts.{Text}
use Rattle.store_model.specs.Catalog.{Resident, Catalog, tenant_of, is_repo_of, holds}
use Rattle.store_model.specs.Commands.{mount, has_source, start, started_outcome, mounted_outcome, with_link, lacks_room_for}
use Rattle.store_book.specs.Internal.Storing.{bytes_at, source_slot, CanStore, IsStored}
use Rattle.store_book.specs.Layers.{Layers, lent_marks, book_catalog, IsBook}
use Rattle.store_model.proofs.Invariant.Bounds.{held_within, used_small}
use Rattle.store_model.proofs.Invariant.Counts.{link_count-appear}
use Rattle.store_book.proofs.Layers.KeepCalls.{bytes_there}
use Rattle.store_book.proofs.Layers.CanKeep.{CanStore-book}
use Rattle.store_book.proofs.Layers.Keep.{Keeps, IsStored-Keeps, same_residents}
use Rattle.store_book.proofs.Slots.LeaseMarks.{length-marks}
use Rattle.store_model.proofs.Invariant.Repos.{WellFormed-appear, used_bytes-appear}
use Rattle.store_model.proofs.Invariant.Links.{is_held}
use Rattle.store_model.proofs.Commands.Mount.{source_of, Sound-after_mount}
use Rattle.store_book.proofs.Layers.LinkedSlots.{linked_live, source_some, source_none}
use Rattle.store_book.proofs.Slots.Writes.{phase_live}
use Rattle.spec_lib.proofs.Outcomes.{some_of_ok}
use Rattle.store_model.proofs.Commands.Accepted.{tenant_there}
use Rattle.spec_lib.proofs.Sets.{now}
use Rattle.store_book.proofs.Refine.Start.{ok_of_if, err_of_if}
use Rattle.slot_table.proofs.Finding.{held_of}
use Rattle.store_book.proofs.Layers.Ties.{slot_is_resident}

module _ (L : Layers) (t : ℕ) (repo : Text) (book : IsBook L) (known : known_tenant L.links repo ≡ Ok t) where
  abbrev C : Catalog
  C = book_catalog L

  name : tenant_of L.links.tenants repo ≡ Some t
  name = some_of_ok (tenant_of L.links.tenants repo) NameUnknown t known

  in_tenants : t < length L.links.tenants
  in_tenants = tenant_there L.links.tenants repo t name

  abbrev l0 : Linked
  l0 = record L.links { repos = set.insert L.links.repos repo }

  module _ (short : length repo ≤ 255) (room : lacks_room_for C t repo ≡ false) where
    -- after a repository was created, the layers make a book
    IsBook-appear : IsBook (record L { links = l0 })
    IsBook-appear = record {
      sound = record {
        lawful = WellFormed-appear C t repo book.sound.lawful name short room;
        quotas = λ v lt. (let same = used_bytes-appear C t repo book.sound.lawful name v in let k = book.sound.quotas v lt in omega arith);
        shares = book.sound.shares;
        slots = record { some = book.sound.slots.some; few = book.sound.slots.few; fit = book.sound.slots.fit };
      };
      tied = record {
        marks = book.tied.marks;
        distinct = book.tied.distinct;
        sizes = book.tied.sizes;
        counts = λ k h at. book.tied.counts k h at ∙ sym (link_count-appear C repo h.digest book.sound.lawful);
      };
      charges = record { one_each = book.charges.one_each; sums = book.charges.sums };
    }

  module _ (digest : Text) (from : Option Text) where
    by_source : (b : Bool) → has_source C t digest from ≡ b → mount C repo digest from ≡ (if b then mounted_outcome C t repo digest else started_outcome C repo)
    by_source b is = rw (known, is) refl

    module _ (none : source_slot L.links L.slots t from digest ≡ None) where
      instead : mount C repo digest from ≡ started_outcome C repo
      instead = by_source false (source_none L book t from digest none)

      -- a session is opened if there is no source
      pub session_ok : (n : ℕ) (D : Catalog) → start C repo ≡ Ok (n, D) → mount C repo digest from ≡ Ok (mounting.Session n, D)
      session_ok n D started = instead ∙ rw started refl

      pub session_refused : (e : Refusal) → start C repo ≡ Err e → mount C repo digest from ≡ Err e
      session_refused e refused = instead ∙ rw refused refl

    module _ (k : ℕ) (found : source_slot L.links L.slots t from digest ≡ Some k) where
      abbrev source : (has_source C t digest from ≡ true) × (slot_of L.slots digest ≡ Some k)
      source = source_some L book t from digest k found

      -- a repository of the tenant that contains the blob
      abbrev holder : (q : Text) × (is_repo_of C t q ≡ true) × (holds C q digest ≡ true)
      holder = source_of C t digest from source.0

      links_it : mount C repo digest from ≡ mounted_outcome C t repo digest
      links_it = by_source true source.0

      -- a repository that cannot be created
      pub mount_refused_first : (e : Refusal) → appear L.links t repo ≡ Err e → mount C repo digest from ≡ Err e
      mount_refused_first e refused = let a = err_of_if _ _ _ _ refused in links_it ∙ rw a.0 (ap Err a.1)

      abbrev blob : Text × Text
      blob = (digest, bytes_at L.slots k)

      abbrev held : (h : StoredBlob) × (stored_blob_at L.slots k ≡ Some h) × (h.digest ≡ digest)
      held = held_of L.slots digest k source.1

      same_bytes_there : held.0.bytes ≡ blob.1
      same_bytes_there = sym (bytes_there L.slots k digest source.1)

      abbrev resident : (b : Resident) × (get C.residents held.0.digest ≡ Some b) × (b.bytes ≡ held.0.bytes) × (b.condemned ≡ held.0.condemned)
      resident = slot_is_resident L.slots (lent_marks L.slots) (length-marks L.slots) book.tied.distinct k held.0 held.1

      -- its slot is live
      source_live : held.0.condemned ≡ false
      source_live = linked_live L book holder.0 digest k held.0 held.1 held.2 holder.2

      pub live_source : phase_at L.slots k ≡ phase.Live
      live_source = phase_live L.slots k held.0 held.1 source_live

      -- the tenant has the blob, so its use includes it
      small : length blob.1 ≤ 2 ^ 50
      small =
          let kept : get C.residents digest ≡ Some resident.0 = ap (get C.residents) (sym held.2) ∙ resident.1 in
          let holds_it = is_held C t holder.0 digest (book.sound.lawful.links (holder.0, digest) holder.2).repo holder.1 holder.2 in
          let within = held_within C t digest resident.0 kept holds_it in
          let long : length resident.0.bytes ≡ length blob.1 = ap length (resident.2 ∙ same_bytes_there) in
          let few = used_small C book.sound t in_tenants in
          omega arith

      module _ (short : length repo ≤ 255) (room : lacks_room_for C t repo ≡ false) where
        abbrev book0 : IsBook (record L { links = l0 })
        book0 = IsBook-appear short room

        there0 : set.contains l0.repos repo ≡ true
        there0 = now nat_list_cmp_total exact_bytes L.links.repos repo

        can0 : CanStore l0 L.slots t repo blob
        can0 = CanStore-book (record L { links = l0 }) t repo blob book0 known there0 small

        module _ (l' : Linked) (slots' : List Slot) (kept : IsStored L.contents.on_disk l0 L.slots repo blob l' slots') where
          keeps : Keeps (record L { links = l0 }) repo blob l' slots'
          keeps = IsStored-Keeps (record L { links = l0 }) repo blob book0.tied book0.sound.lawful there0 l' slots' kept

          abbrev C' : Catalog
          C' = book_catalog (record L { links = l'; slots = slots' })

          left : C' ≡ with_link C repo digest
          left = keeps.catalog ∙ (λ i. record (with_link C repo digest) { residents = same_residents (record L { links = l0 }) repo blob book0.tied there0 (λ l is. (book0.sound.lawful.links l is).repo) k held.0 held.1 held.2 same_bytes_there source_live i })

          mounted : mount C repo digest from ≡ Ok (mounting.Mounted, C')
          mounted = links_it ∙ rw room (λ i. Ok (mounting.Mounted, sym left i))

          same_charges : l'.charges ≡ L.links.charges
          same_charges = ap (λ (x : Linked). x.charges) keeps.links

          same_tenants : length l'.tenants ≡ length L.links.tenants
          same_tenants = ap (λ (x : Linked). length x.tenants) keeps.links

          mounted_book : IsBook (record L { links = l'; slots = slots' })
          mounted_book = record {
            sound = Sound-after_mount C C' repo digest from mounting.Mounted mounted short book.sound;
            tied = keeps.tied;
            charges = record {
              one_each = ap length same_charges ∙ book.charges.one_each ∙ sym same_tenants;
              sums = λ v lt. (λ i. slice_index (same_charges i) v) ∙ book.charges.sums v (let same = same_tenants in omega arith);
            };
          }

      -- after the repository was created
      module _ (l1 : Linked) (is_new : Bool) (appeared : appear L.links t repo ≡ Ok (is_new, l1)) (short : length repo ≤ 255) where
        room1 : lacks_room_for C t repo ≡ false
        room1 = (ok_of_if _ _ _ _ appeared).0

        appeared_is : l0 ≡ l1
        appeared_is = let a = ok_of_if _ _ _ _ appeared in λ i. (a.1 i).1

        -- the blob can be linked
        pub can_link : CanStore l1 L.slots t repo blob
        can_link = subst (λ (x : Linked). CanStore x L.slots t repo blob) appeared_is (can0 short room1)

        module _ (l' : Linked) (slots' : List Slot) (kept : IsStored L.contents.on_disk l1 L.slots repo blob l' slots') where
          kept0 : IsStored L.contents.on_disk l0 L.slots repo blob l' slots'
          kept0 = subst (λ (x : Linked). IsStored L.contents.on_disk x L.slots repo blob l' slots') (sym appeared_is) kept

          pub mount_ok : mount C repo digest from ≡ Ok (mounting.Mounted, book_catalog (record L { links = l'; slots = slots' }))
          mount_ok = mounted short room1 l' slots' kept0

          -- after a blob was mounted, the layers make a book
          pub IsBook-mount : IsBook (record L { links = l'; slots = slots' })
          IsBook-mount = mounted_book short room1 l' slots' kept0
