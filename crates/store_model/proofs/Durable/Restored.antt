-- The restored catalog is sound, agrees with the durable state, and no tenant uses more than before.
use Rattle.std.specs.Prelude.{if◌then◌else◌}
use Rattle.blob_digest.specs.Digests.{is_digest_of}
use Rattle.blob_digest.specs.Vouched.{has_digest}
use Rattle.store_model.specs.Commands.{is_named}
use Rattle.std.proofs.Common.{◌≡◌, ℕ, ◌≤◌, ◌^◌, Bool, true, false, cond, map, Option, Some, None, refl, sym, ap, ◌∙◌, subst, arith}
use Rattle.std.specs.Option.{option_map}
use Rattle.std.specs.Ordering.{eq_by_cmp}
use Rattle.std.specs.Cmp.Lexicographic.{nat_list_cmp_total}
use Rattle.std.specs.List.{sum_by}
use Rattle.std.specs.FinMap.{contains_key-keys, empty, entries, get, get-entries, get-from_entries, get-retain_keys, len, len-entries}
use Rattle.std.proofs.lemmas.Map.Lookups.{exact_bytes}
use Rattle.blob_digest.specs.Slots.{greatest_slots}
use Rattle.spec_lib.specs.Sets as set
use Rattle.spec_lib.specs.Texts.{Text, text_cmp}
use Rattle.spec_lib.proofs.Lists.{list_any_weaker, sum_by-ones, witness}
use Rattle.spec_lib.proofs.Mapped.{find-over, map_none}
use Rattle.spec_lib.proofs.Maps.{term}
use Rattle.spec_lib.proofs.Options.{nothing, some_same}
use Rattle.spec_lib.proofs.Texts.{tied_text}
use Rattle.store_model.specs.Catalog.{Catalog, Link, Resident, Session, SessionNumber, charged_length, session_number_cmp, used_bytes, ContentRules}
use Rattle.store_model.specs.Durable.{Agrees, AgreesOnSession, DurableState, TakenSessions}
use Rattle.store_model.specs.Invariant.{Sound, WellFormed, WellFormedSession}
use Rattle.store_model.proofs.Durable.Uses.{open_less, sum_within, used_within, was_open}
use Rattle.store_model.specs.Recovery.{StoresRestart, is_linked, linked_contents, restored_blob, restored_blobs, restored_catalog}

-- ---- linked contents

-- a digest that an existing repository links is linked
pub linked_here : (D : DurableState) (r d : Text) → set.contains D.repos r ≡ true → set.contains D.links (r, d) ≡ true → is_linked D d ≡ true
linked_here D r d there has =
    list_any_weaker (eq_by_cmp text_cmp r) (λ q. set.contains D.links (q, d)) (λ q tie. subst (λ (x : Text). set.contains D.links (x, d) ≡ true) (tied_text r q tie) has)
    (set.items D.repos) (sym (contains_key-keys D.repos r) ∙ there)

pub get-linked : (D : DurableState) (d : Text) → get (linked_contents D) d ≡ cond (is_linked D d) (get D.contents d) None
get-linked D d = get-retain_keys D.contents (is_linked D) d (λ x tie. ap (is_linked D) (sym (exact_bytes d x tie)))

get-blobs : (D : DurableState) (d : Text) → get (restored_blobs D) d ≡ cond (is_linked D d) (option_map restored_blob (get D.contents d)) None
get-blobs D d =
    get-from_entries nat_list_cmp_total (map {B = Text × Resident} (λ e. (e.0, restored_blob e.1)) (entries (linked_contents D))) d
    ∙ find-over text_cmp restored_blob d (entries (linked_contents D))
    ∙ ap (option_map restored_blob) (sym (get-entries (linked_contents D) d) ∙ get-linked D d)
    ∙ map_none restored_blob (is_linked D d) (get D.contents d)

-- ---- the restored catalog

module _ (taken : TakenSessions) (D : DurableState) (C : Catalog) (a : Agrees taken D C) where
  -- a linked blob is stored, durable and restored
  pub kept_blob : (l : Link) → set.contains C.links l ≡ true → (b : Resident) × (get C.residents l.1 ≡ Some b) × (get D.contents l.1 ≡ Some b.bytes) × (get (restored_blobs D) l.1 ≡ Some (restored_blob b.bytes))
  kept_blob l h =
      let has = a.contents l h in
      let is : is_linked D l.1 ≡ true = linked_here D l.0 l.1 (ap (λ x. set.contains x l.0) a.repos ∙ a.linked_in l h) (ap (λ x. set.contains x l) a.links ∙ h) in
      (has.0, has.1, has.2, get-blobs D l.1 ∙ (λ i. cond (is i) (option_map restored_blob (has.2 i)) None))

  -- a restored blob was stored with the same bytes
  was_kept : (d : Text) (x : Resident) → get (restored_blobs D) d ≡ Some x → (r : Text) × (b : Resident) × (set.contains C.links (r, d) ≡ true) × (get C.residents d ≡ Some b) × (restored_blob b.bytes ≡ x)
  was_kept d x found = by (is_linked D d) refl
    where
      by : (b : Bool) → is_linked D d ≡ b → (r : Text) × (b : Resident) × (set.contains C.links (r, d) ≡ true) × (get C.residents d ≡ Some b) × (restored_blob b.bytes ≡ x)
      by true is =
          let w = witness (λ r. set.contains D.links (r, d)) (set.items D.repos) is in
          let here : set.contains C.links (w.0, d) ≡ true = ap (λ y. set.contains y (w.0, d)) (sym a.links) ∙ w.1 in
          let k = kept_blob (w.0, d) here in
          (w.0, k.0, here, k.1, some_same (sym k.3 ∙ found))
      by false is = nothing (get-blobs D d ∙ ap (λ b. cond b (option_map restored_blob (get D.contents d)) None) is) found

  module _ (slots : ℕ) (contents : ContentRules) where
    -- the original catalog with the restored settings, sessions and blobs
    abbrev R : Catalog
    R = record C { slots = slots; contents = contents; sessions = D.sessions; residents = restored_blobs D; retired = 0 }

    is_restored : R ≡ restored_catalog D slots contents
    is_restored = λ i. record {
      tenants = sym a.tenants i;
      slots = slots;
      contents = contents;
      repos = sym a.repos i;
      links = sym a.links i;
      manifests = sym a.manifests i;
      sessions = D.sessions;
      next = sym a.next i;
      residents = restored_blobs D;
      retired = 0;
    }

    pub agrees : Agrees empty D R
    agrees = record {
      tenants = a.tenants;
      repos = a.repos;
      links = a.links;
      manifests = a.manifests;
      next = a.next;
      sessions = λ key. itself key (get D.sessions key) refl;
      contents = λ l h. let k = kept_blob l h in (restored_blob k.0.bytes, k.3, k.2);
      linked_in = a.linked_in;
      uploaded_to = λ key s h. let was = was_open taken D C a key s h in subst (λ (x : Session). set.contains C.repos x.repo ≡ true) (sym was.3) (a.uploaded_to key was.0 was.2);
    }
      where
        itself : (key : SessionNumber) (o : Option Session) → get D.sessions key ≡ o → AgreesOnSession (get {R = session_number_cmp} empty key) o o
        itself key None found = refl
        itself key (Some s) found =
            let was = was_open taken D C a key s found in
            subst (λ (x : Session). AgreesOnSession (get {R = session_number_cmp} empty key) (Some x) (Some x)) (sym was.3) (was.1, refl, was.4, refl)

    -- ---- uses

    used_less : (t : ℕ) → used_bytes R t ≤ used_bytes C t
    used_less t = used_within taken D C a R agrees t

    len_less : len (restored_blobs D) ≤ len C.residents
    len_less =
        let less = sum_within nat_list_cmp_total exact_bytes (λ (_ : Text × Resident). 1) (λ (_ : Text × Resident). 1) (restored_blobs D) C.residents (λ d. by d (get (restored_blobs D) d) refl) in
        let one : len (restored_blobs D) ≡ sum_by (λ _. 1) (entries (restored_blobs D)) = len-entries (restored_blobs D) ∙ sym (sum_by-ones (entries (restored_blobs D))) in
        let two : len C.residents ≡ sum_by (λ _. 1) (entries C.residents) = len-entries C.residents ∙ sym (sum_by-ones (entries C.residents)) in
        omega arith
      where
        by : (d : Text) (o : Option Resident) → get (restored_blobs D) d ≡ o → term (λ (_ : Text × Resident). 1) d o ≤ term (λ (_ : Text × Resident). 1) d (get C.residents d)
        by d None found = omega arith
        by d (Some x) found = let was = was_kept d x found in subst (λ o. 1 ≤ term (λ (_ : Text × Resident). 1) d o) (sym was.3) (omega arith)

    -- ---- soundness

    pub content : WellFormed C → contents.on_disk ≡ C.contents.on_disk → (d : Text) (x : Resident) → get (restored_blobs D) d ≡ Some x → is_named contents d x.bytes ≡ true
    content lawful place d x found =
        let was = was_kept d x found in
        ap (λ b. if b then has_digest d x.bytes else is_digest_of d x.bytes) place ∙ subst (λ (y : Resident). is_named C.contents d y.bytes ≡ true) was.4 (lawful.content d was.1 was.3)

    module _ (sound : Sound C) (more_slots : C.slots ≤ slots) (few_slots : slots ≤ greatest_slots) (more_bytes : C.contents.max_blob ≤ contents.max_blob) (few_bytes : contents.max_blob ≤ 2 ^ 40) (place : contents.on_disk ≡ C.contents.on_disk) where
      abbrev lawful : WellFormed C
      lawful = sound.lawful

      session : (key : SessionNumber) (s : Session) → get D.sessions key ≡ Some s → WellFormedSession R key s
      session key s found =
          let was = was_open taken D C a key s found in
          let old = lawful.sessions key was.0 was.2 in
          let less : charged_length s ≤ charged_length was.0 = was.5 in
          let small = old.small in
          subst (λ (x : Session). WellFormedSession R key x) (sym was.3) (record {
            repo = old.repo;
            tenant = old.tenant;
            chunks = was.4;
            small = subst (λ (x : Session). charged_length x ≤ contents.max_blob) was.3 (omega arith);
            positive = old.positive;
            number = old.number;
          })

      is_lawful : WellFormed R
      is_lawful = record {
        content = content lawful place;
        links = λ l h. let k = kept_blob l h in record { repo = a.linked_in l h; kept = (restored_blob k.0.bytes, k.3, refl) };
        manifests = lawful.manifests;
        sessions = session;
        repositories = lawful.repositories;
        numbering = lawful.numbering;
        limits = record { tenants = lawful.limits.tenants; names_apart = lawful.limits.names_apart; max_blob = few_bytes; quotas = lawful.limits.quotas; limits = lawful.limits.limits };
        few_sessions = λ t. let less = open_less taken D C a t in let few = lawful.few_sessions t in omega arith;
        few_manifests = lawful.few_manifests;
      }

      is_sound : Sound R
      is_sound = record {
        lawful = is_lawful;
        quotas = λ t there. let less = used_less t in let keeps = sound.quotas t there in omega arith;
        shares = sound.shares;
        slots = (let less = len_less in let fit = sound.slots.fit in let some = sound.slots.some in record { some = omega arith; few = few_slots; fit = omega arith });
      }

pub stores_restart : StoresRestart
stores_restart taken D C a sound slots contents more_slots few_slots more_bytes few_bytes place =
    let is = is_restored taken D C a slots contents in
    record {
      sound = subst (λ X. Sound X) is (is_sound taken D C a slots contents sound more_slots few_slots more_bytes few_bytes place);
      agrees = subst (λ X. Agrees empty D X) is (agrees taken D C a slots contents);
      uses = λ t. subst (λ X. used_bytes X t ≤ used_bytes C t) is (used_less taken D C a slots contents t);
    }
