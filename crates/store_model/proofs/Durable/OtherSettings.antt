-- A store that restarts with other settings is sound if its durable state fits them.
use Rattle.std.proofs.Common.{◌≡◌, ℕ, ◌<◌, ◌≤◌, ◌^◌, List, map, Some, refl, sym, ap, ◌∙◌, subst, arith}
use Rattle.std.specs.Prelude.{IsSome, cond, count_by, sum_by}
use Rattle.std.specs.List.{AllByRecursion}
use Rattle.std.specs.FinMap.{empty, get}
use Rattle.spec_lib.specs.Sets as set
use Rattle.spec_lib.specs.Texts.{Text, same_text, text_cmp}
use Rattle.spec_lib.proofs.Rows.{sum_by-map}
use Rattle.store_model.specs.Catalog.{Catalog, Session, SessionNumber, Tenant, charged_length, ContentRules}
use Rattle.store_model.specs.Durable.{Agrees, DurableState, TakenSessions}
use Rattle.store_model.specs.Invariant.{AreWellFormedNumbers, AreWellFormedRepositories, AreWithinLimits, Sound, WellFormed, WellFormedSession}
use Rattle.store_model.specs.Recovery.{CanRestore, StoresRestartWithOtherSettings, restored_blob, restored_blobs, restored_catalog, with_tenants}
use Rattle.store_model.proofs.Durable.Restored.{agrees as agrees_there, content, kept_blob}
use Rattle.store_model.proofs.Durable.Uses.{open_less, was_open}
use Rattle.store_model.proofs.Invariant.TenantNames.{same_length, same_owner, same_repo_count, same_tenant}
use Rattle.blob_digest.specs.Tenants.{AreSupported, greatest_limits}

-- ---- tenants with the same names

module _ (ts us : List Tenant) (names : map (λ t. t.name) ts ≡ map (λ t. t.name) us) where
  -- how many tenants have a name is how many names are this one
  same_count : (name : Text) → count_by (λ t. same_text t.name name) ts ≡ count_by (λ t. same_text t.name name) us
  same_count name =
      let named : Text → ℕ = λ n. cond (same_text n name) 1 0 in
      sym (sum_by-map named (λ (t : Tenant). t.name) ts) ∙ ap (sum_by named) names ∙ sum_by-map named (λ (t : Tenant). t.name) us

  repositories : (present : set.Set text_cmp) → AreWellFormedRepositories us present → AreWellFormedRepositories ts present
  repositories present all = record {
    owned = λ r there. subst (λ o. IsSome o) (sym (same_tenant ts us names r)) (all.owned r there);
    few = λ t. subst (λ n. n ≤ greatest_limits.repos) (sym (same_repo_count ts us names present t)) (all.few t);
    short_names = all.short_names;
  }

  numbers : (next : List ℕ) → AreWellFormedNumbers us next → AreWellFormedNumbers ts next
  numbers next all = record {
    one_each = all.one_each ∙ sym (same_length ts us names);
    from_one = λ t there. all.from_one t (subst (λ n. t < n) (same_length ts us names) there);
    few = all.few;
  }

  limits : (longest longer : ℕ) → longer ≤ 2 ^ 40 → AllByRecursion (λ t. t.quota ≤ 2 ^ 50) ts → AllByRecursion (λ t. AreSupported t.limits) ts → AreWithinLimits us longest → AreWithinLimits ts longer
  limits longest longer small quotas supported all = record {
    tenants = subst (λ n. (0 < n) × (n ≤ 4096)) (sym (same_length ts us names)) all.tenants;
    names_apart = λ name. subst (λ n. n ≤ 1) (sym (same_count name)) (all.names_apart name);
    max_blob = small;
    quotas = quotas;
    limits = supported;
  }

-- ---- the restored catalog

module _ (taken : TakenSessions) (D : DurableState) (C : Catalog) (a : Agrees taken D C) (lawful : WellFormed C) (tenants : List Tenant) (slots : ℕ) (contents : ContentRules) (can : CanRestore D tenants slots contents) (place : contents.on_disk ≡ C.contents.on_disk) where
  abbrev R : Catalog
  R = record C { tenants = tenants; slots = slots; contents = contents; sessions = D.sessions; residents = restored_blobs D; retired = 0 }

  is_restored : R ≡ restored_catalog (with_tenants D tenants) slots contents
  is_restored = λ i. record {
    tenants = tenants;
    slots = slots;
    contents = contents;
    repos = sym a.repos i;
    links = sym a.links i;
    manifests = sym a.manifests i;
    sessions = D.sessions;
    next = sym a.next i;
    residents = restored_blobs D;
    retired = 0;
  }

  names : map (λ t. t.name) tenants ≡ map (λ t. t.name) C.tenants
  names = can.names ∙ ap (λ ts. map (λ (t : Tenant). t.name) ts) a.tenants

  agrees : Agrees empty (with_tenants D tenants) R
  agrees = let there = agrees_there taken D C a slots contents in record {
    tenants = refl;
    repos = there.repos;
    links = there.links;
    manifests = there.manifests;
    next = there.next;
    sessions = there.sessions;
    contents = there.contents;
    linked_in = there.linked_in;
    uploaded_to = there.uploaded_to;
  }

  session : (key : SessionNumber) (s : Session) → get D.sessions key ≡ Some s → WellFormedSession R key s
  session key s found =
      let was = was_open taken D C a key s found in
      let old = lawful.sessions key was.0 was.2 in
      subst (λ (x : Session). WellFormedSession R key x) (sym was.3) (record {
        repo = old.repo;
        tenant = same_owner tenants C.tenants names key.0 was.0.repo ∙ old.tenant;
        chunks = was.4;
        small = subst (λ (x : Session). charged_length x ≤ contents.max_blob) was.3 (can.small key s found);
        positive = old.positive;
        number = old.number;
      })

  is_lawful : WellFormed R
  is_lawful = record {
    content = content taken D C a slots contents lawful place;
    links = λ l h. let k = kept_blob taken D C a l h in record { repo = a.linked_in l h; kept = (restored_blob k.0.bytes, k.3, refl) };
    manifests = lawful.manifests;
    sessions = session;
    repositories = repositories tenants C.tenants names C.repos lawful.repositories;
    numbering = numbers tenants C.tenants names C.next lawful.numbering;
    limits = limits tenants C.tenants names C.contents.max_blob contents.max_blob can.limit can.quotas can.limits lawful.limits;
    few_sessions = λ t. let less = open_less taken D C a t in let few = lawful.few_sessions t in omega arith;
    few_manifests = lawful.few_manifests;
  }

  is_sound : Sound (restored_catalog (with_tenants D tenants) slots contents)
  is_sound = record {
    lawful = subst (λ X. WellFormed X) is_restored is_lawful;
    quotas = can.uses;
    shares = can.shares;
    slots = (let fit = can.fit in record { some = can.some.0; few = can.some.1; fit = omega arith });
  }

pub stores_restart_with_other_settings : StoresRestartWithOtherSettings
stores_restart_with_other_settings taken D C a lawful tenants slots contents can place =
    (is_sound taken D C a lawful tenants slots contents can place, subst (λ X. Agrees empty (with_tenants D tenants) X) (is_restored taken D C a lawful tenants slots contents can place) (agrees taken D C a lawful tenants slots contents can place))
