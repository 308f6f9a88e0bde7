-- Two catalogs that are equivalent for a tenant, and the facts that are equal in both.
use Rattle.std.proofs.Common.{T, ◌≡◌, ℕ, ◌+◌, Bool, true, false, cond, not, List, [], ◌∷◌, ◌++◌, length, map, Option, Some, None, is_some, refl, sym, ap, ◌∙◌, subst, arith}
use Rattle.std.specs.Prelude.{◌==◌, ◌&&◌, ◌||◌, nat_le, slice_index}
use Rattle.std.specs.Option.{option_map, option_map_or}
use Rattle.std.specs.Cmp.Lexicographic.{nat_list_cmp_total, same_text as text_is}
use Rattle.std.specs.Ordering.{eq_by_cmp}
use Rattle.std.specs.List.{sum_by, filter, concat, list_any}
use Rattle.std.specs.FinMap.{FinMap, entries, get, get-entries, entries_sorted}
use Rattle.std.specs.FinMap.Entries.{where_key, is_sorted, is_sorted-where_key, find-where_key, same_entries, find as find_key}
use Rattle.std.proofs.lemmas.Bool.{true≢false, false≢true, eq-eqb, and_left, and_parts}
use Rattle.std.proofs.lemmas.List.Sums.{sum_by-cons}
use Rattle.std.proofs.lemmas.Map.Lookups.{exact_bytes}
use Rattle.blob_digest.specs.declared.range.ByteRange.{ByteRange}
use Rattle.spec_lib.specs.Sets as set
use Rattle.spec_lib.specs.Texts.{Text, text_cmp, same_text}
use Rattle.store_model.specs.Catalog.{Link, SessionNumber, Session, Resident, Catalog, tenant_of, is_repo_of_tenant, is_repo_of, quota_of, share_of, holds, tenant_holds, held_digests, session_charge, session_charges_of, blob_share, used_bytes, open_sessions, repos_of, manifests_of, received_length, Tenant, link_cmp, session_number_cmp, limits_of, no_tenant, ContentRules}
use Rattle.store_model.specs.Sessions.{at_home}
use Rattle.spec_lib.specs.Outcomes.{◌>>=◌, refuse}
use Rattle.store_model.specs.Commands.{check_share, content_in, session, session_in, not_busy, chunk_length_check, length_after, has_links, has_manifests, has_sessions, is_in_use, lacks_room_for, referrer, refers}
use Rattle.store_model.specs.Noninterference.{AreTenantsAlike, blobs_of}
use Rattle.blob_digest.proofs.KeyOrders.{number_cmp_total, exact_number, link_cmp_total, exact_link}
use Rattle.blob_digest.specs.declared.refusal.Refusal.TheVariants.{LimitReached}
use Rattle.store_model.proofs.Invariant.DistinctUse.{held_digests-by_links}
use Rattle.store_model.proofs.Invariant.Shares.{same_set}
use Rattle.store_model.proofs.Invariant.TenantNames.{same_owner, same_repo_count}
use Rattle.store_model.proofs.Invariant.Unused.{no_session, no_sessions, same_test}
use Rattle.spec_lib.proofs.Options.{option_eq_some, some_same}
use Rattle.spec_lib.proofs.Lists.{list_any_same, witness}
use Rattle.spec_lib.proofs.Mapped.{find-over, sorted-over, map_none}
use Rattle.spec_lib.proofs.Agreement.{AgreeOn, sum_agree, find_agree, any_agree, count_agree}

-- the fields that a tenant's view depends on: all but the blobs and the slots
pub record Visible : Type 0 where
  pub tenants : List Tenant
  pub contents : ContentRules
  pub next : List ℕ
  pub repos : set.Set text_cmp
  pub links : set.Set link_cmp
  pub manifests : FinMap link_cmp Text
  pub sessions : FinMap session_number_cmp Session

abbrev pub visible : Catalog → Visible
visible C = record { tenants = C.tenants; contents = C.contents; next = C.next; repos = C.repos; links = C.links; manifests = C.manifests; sessions = C.sessions }

-- Catalogs are equivalent for a tenant: all that belongs to it is equal, and so are the names of all tenants.
pub record AreAlike (t : ℕ) (C D : Visible) : Type 0 where
  pub tenants : AreTenantsAlike t C.tenants D.tenants
  pub contents : C.contents ≡ D.contents
  pub numbers : length C.next ≡ length D.next
  pub next : slice_index C.next t ≡ slice_index D.next t
  pub repos : AgreeOn (is_repo_of_tenant C.tenants t) C.repos D.repos
  pub links : AgreeOn (λ l. is_repo_of_tenant C.tenants t l.0) C.links D.links
  pub manifests : AgreeOn (λ l. is_repo_of_tenant C.tenants t l.0) C.manifests D.manifests
  pub sessions : AgreeOn (λ n. n.0 == t) C.sessions D.sessions

-- Two catalogs are equivalent for a tenant; stored blobs are not compared.
abbrev pub Alike : ℕ → Catalog → Catalog → Type 0
Alike t C D = AreAlike t (visible C) (visible D)

-- ---- a field that changes in both catalogs

module _ (t : ℕ) (C D : Visible) (alike : AreAlike t C D) where
  pub with_repos : (r s : set.Set text_cmp) → AgreeOn (is_repo_of_tenant C.tenants t) r s → AreAlike t (record C { repos = r }) (record D { repos = s })
  with_repos r s agree = record { tenants = alike.tenants; contents = alike.contents; numbers = alike.numbers; next = alike.next; repos = agree; links = alike.links; manifests = alike.manifests; sessions = alike.sessions }

  pub with_links : (r s : set.Set link_cmp) → AgreeOn (λ l. is_repo_of_tenant C.tenants t l.0) r s → AreAlike t (record C { links = r }) (record D { links = s })
  with_links r s agree = record { tenants = alike.tenants; contents = alike.contents; numbers = alike.numbers; next = alike.next; repos = alike.repos; links = agree; manifests = alike.manifests; sessions = alike.sessions }

  pub with_manifests : (r s : FinMap link_cmp Text) → AgreeOn (λ l. is_repo_of_tenant C.tenants t l.0) r s → AreAlike t (record C { manifests = r }) (record D { manifests = s })
  with_manifests r s agree = record { tenants = alike.tenants; contents = alike.contents; numbers = alike.numbers; next = alike.next; repos = alike.repos; links = alike.links; manifests = agree; sessions = alike.sessions }

  pub with_sessions : (r s : FinMap session_number_cmp Session) → AgreeOn (λ n. n.0 == t) r s → AreAlike t (record C { sessions = r }) (record D { sessions = s })
  with_sessions r s agree = record { tenants = alike.tenants; contents = alike.contents; numbers = alike.numbers; next = alike.next; repos = alike.repos; links = alike.links; manifests = alike.manifests; sessions = agree }

-- The invariant of each catalog of a run, if `content` is the content that was uploaded with a digest.
pub record AreConsistent (content : Text → Text) (ts : List Tenant) (rs : set.Set text_cmp) (ls : set.Set link_cmp) (blobs : FinMap text_cmp Resident) (ms : FinMap link_cmp Text) (ss : FinMap session_number_cmp Session) : Type 0 where
  pub repos : (r : Text) → set.contains rs r ≡ true → is_some (tenant_of ts r) ≡ true
  pub links : (l : Link) → set.contains ls l ≡ true → set.contains rs l.0 ≡ true
  pub kept : (l : Link) → set.contains ls l ≡ true → is_some (get blobs l.1) ≡ true
  pub manifests : (l : Link) (b : Text) → get ms l ≡ Some b → set.contains rs l.0 ≡ true
  pub sessions : (k : SessionNumber) (s : Session) → get ss k ≡ Some s → set.contains rs s.repo ≡ true
  pub owners : (k : SessionNumber) (s : Session) → get ss k ≡ Some s → tenant_of ts s.repo ≡ Some k.0
  pub bytes : (d : Text) (b : Resident) → get blobs d ≡ Some b → b.bytes ≡ content d

abbrev pub Consistent : (Text → Text) → Catalog → Type 0
Consistent content C = AreConsistent content C.tenants C.repos C.links C.residents C.manifests C.sessions

-- ---- lists of blobs

-- the bytes of a tenant's blob
pub find-blobs : (C : Catalog) (t : ℕ) (q : Text) → find_key text_cmp q (blobs_of C t) ≡ cond (tenant_holds C t q) (option_map (λ b. b.bytes) (get C.residents q)) None
find-blobs C t q =
    find-over text_cmp (λ (b : Resident). b.bytes) q (where_key text_cmp (tenant_holds C t) (entries C.residents))
    ∙ ap (option_map (λ b. b.bytes)) (find-where_key text_cmp (tenant_holds C t) q (λ x tie. ap (tenant_holds C t) (sym (exact_bytes q x tie))) (entries C.residents)
    ∙ ap (λ y. cond (tenant_holds C t q) y None) (sym (get-entries C.residents q)))
    ∙ map_none (λ b. b.bytes) (tenant_holds C t q) (get C.residents q)

sum-blobs : (C : Catalog) (t : ℕ) (es : List (Text × Resident)) →
    sum_by (λ (e : Text × Text). length e.1) (map (λ (e : Text × Resident). (e.0, e.1.bytes)) (filter (λ e. tenant_holds C t e.0) es)) ≡ sum_by (blob_share C t) es
sum-blobs C t [] = refl
sum-blobs C t (e ∷ es) =
    elim (tenant_holds C t e.0) as (λ b. tenant_holds C t e.0 ≡ b →
    sum_by (λ (e : Text × Text). length e.1) (map (λ (e : Text × Resident). (e.0, e.1.bytes)) (cond b (e ∷ filter (λ e. tenant_holds C t e.0) es) (filter (λ e. tenant_holds C t e.0) es))) ≡ sum_by (blob_share C t) (e ∷ es)) [
      | true ↦ λ h.
          sum_by-cons (λ (e : Text × Text). length e.1) (e.0, e.1.bytes) (map (λ (e : Text × Resident). (e.0, e.1.bytes)) (filter (λ e. tenant_holds C t e.0) es))
          ∙ (let term : blob_share C t e ≡ length e.1.bytes = rw h refl in let all = sum_by-cons (blob_share C t) e es in let rest = sum-blobs C t es in omega arith)
      | false ↦ λ h. (let term : blob_share C t e ≡ 0 = rw h refl in let all = sum_by-cons (blob_share C t) e es in let rest = sum-blobs C t es in omega arith)
    ] refl

-- a tenant's use is the sum over its blobs and its sessions
pub used_bytes-blobs : (C : Catalog) (t : ℕ) → used_bytes C t ≡ sum_by (λ (e : Text × Text). length e.1) (blobs_of C t) + session_charges_of C t
used_bytes-blobs C t = ap (λ n. n + session_charges_of C t) (sym (sum-blobs C t (entries C.residents)))

module _ (content : Text → Text) (C : Catalog) (consistent : Consistent content C) where
  -- a tenant's blob is stored with the bytes that were uploaded
  pub held_kept : (t : ℕ) (q : Text) → tenant_holds C t q ≡ true → is_some (get C.residents q) ≡ true
  held_kept t q h = let w = witness (λ r. is_repo_of C t r && holds C r q) (set.items C.repos) h in consistent.kept (w.0, q) (and_parts (is_repo_of C t w.0) (holds C w.0 q) w.1).1

  bytes_at : (t : ℕ) (q : Text) (x : Option Resident) (b : Bool) → get C.residents q ≡ x → (b ≡ true → is_some x ≡ true) → cond b (option_map (λ b. b.bytes) x) None ≡ cond b (Some (content q)) None
  bytes_at t q x false found there = refl
  bytes_at t q None true found there = absurd (false≢true (there refl))
  bytes_at t q (Some y) true found there = ap Some (consistent.bytes q y found)

  pub blobs_are : (t : ℕ) (q : Text) → find_key text_cmp q (blobs_of C t) ≡ cond (tenant_holds C t q) (Some (content q)) None
  blobs_are t q = find-blobs C t q ∙ bytes_at t q (get C.residents q) (tenant_holds C t q) refl (held_kept t q)

-- a repository of a tenant without sessions has none in a catalog whose sessions of the tenant are the same
sessions_none : (content : Text → Text) (t : ℕ) (X Y : Catalog) → Consistent content Y → AgreeOn (λ n. n.0 == t) X.sessions Y.sessions → (r : Text) → is_repo_of Y t r ≡ true → has_sessions X r ≡ false → has_sessions Y r ≡ false
sessions_none content t X Y consistent agree r own none = no_sessions Y.sessions r (λ k s found is.
    let owner : tenant_of Y.tenants r ≡ Some k.0 = subst (λ (q : Text). tenant_of Y.tenants q ≡ Some k.0) is (consistent.owners k s found) in
    let own_key : k.0 ≡ t = some_same (sym owner ∙ option_eq_some (tenant_of Y.tenants r) t own) in
    no_session X.sessions r none k s (agree k (eq-eqb k.0 t own_key) ∙ found) is)

-- ---- facts that are equal in equivalent catalogs

module _ (t : ℕ) (C D : Catalog) (alike : Alike t C D) where
  pub of_same : (r : Text) → is_repo_of C t r ≡ is_repo_of D t r
  of_same r = same_owner C.tenants D.tenants alike.tenants.names t r

  pub holds_same : (r d : Text) → is_repo_of C t r ≡ true → holds C r d ≡ holds D r d
  holds_same r d own = ap is_some (alike.links (r, d) own)

  both_hold : (r d : Text) (b : Bool) → is_repo_of C t r ≡ b → (b && holds C r d) ≡ (b && holds D r d)
  both_hold r d true own = holds_same r d own
  both_hold r d false other = refl

  pub own_holds_same : (r d : Text) → (is_repo_of C t r && holds C r d) ≡ (is_repo_of D t r && holds D r d)
  own_holds_same r d = both_hold r d (is_repo_of C t r) refl ∙ ap (λ b. b && holds D r d) (of_same r)

  pub tenant_holds_same : (d : Text) → tenant_holds C t d ≡ tenant_holds D t d
  tenant_holds_same d =
      any_agree nat_list_cmp_total exact_bytes (is_repo_of C t) (λ r. is_repo_of C t r && holds C r d) C.repos D.repos alike.repos (λ r off. and_left (is_repo_of C t r) (holds C r d) off)
      ∙ list_any_same (λ r. is_repo_of C t r && holds C r d) (λ r. is_repo_of D t r && holds D r d) (λ r. own_holds_same r d) (set.items D.repos)

  pub repos_same : repos_of C t ≡ repos_of D t
  repos_same =
      count_agree nat_list_cmp_total exact_bytes (is_repo_of C t) (is_repo_of C t) C.repos D.repos alike.repos (λ r off. off)
      ∙ same_repo_count C.tenants D.tenants alike.tenants.names D.repos t

  pub limits_same : limits_of C t ≡ limits_of D t
  limits_same = ap (λ o. option_map_or (λ x. x.limits) o no_tenant.limits) alike.tenants.settings

  pub room_same : (r : Text) → is_repo_of C t r ≡ true → lacks_room_for C t r ≡ lacks_room_for D t r
  room_same r own = λ i. not (is_some (alike.repos r own i)) && nat_le (limits_same i).repos (repos_same i)

  pub open_same : open_sessions C t ≡ open_sessions D t
  open_same = sum_agree number_cmp_total exact_number (λ n. n.0 == t) (λ e. cond (e.0.0 == t) 1 0) C.sessions D.sessions alike.sessions (λ e off. ap (λ b. cond b 1 0) off)

  pub in_sessions_same : session_charges_of C t ≡ session_charges_of D t
  in_sessions_same = sum_agree number_cmp_total exact_number (λ n. n.0 == t) (session_charge t) C.sessions D.sessions alike.sessions (λ e off. rw off refl)

  pub session_found : (n : ℕ) → get C.sessions (t, n) ≡ get D.sessions (t, n)
  session_found n = alike.sessions (t, n) (eq-eqb t t refl)

  pub session_same : (r : Text) (n : ℕ) → session C t r n ≡ session D t r n
  session_same r n = ap (λ s. session_in s r) (session_found n)

  pub check_same : (r : Text) (n : ℕ) (g : Option ByteRange) (len : ℕ) → chunk_length_check C t r n g len ≡ chunk_length_check D t r n g len
  check_same r n g len = λ i. (session_in (session_found n i) r >>= λ s. not_busy s.chunks >>= λ _. length_after (alike.contents i).max_blob (received_length s) g len)

  pub whole_same : (n : ℕ) (last : Text) → content_in C.sessions (t, n) last ≡ content_in D.sessions (t, n) last
  whole_same n last = ap (λ o. concat (option_map_or (λ s. at_home s.chunks) o []) ++ last) (session_found n)

  pub quota_same : quota_of C t ≡ quota_of D t
  quota_same = ap (λ o. option_map_or (λ x. x.quota) o 0) alike.tenants.settings

  share_same : share_of C t ≡ share_of D t
  share_same = ap (λ o. option_map_or (λ x. x.share) o 0) alike.tenants.settings

  digests_same : held_digests C t ≡ held_digests D t
  digests_same = same_set nat_list_cmp_total exact_bytes (held_digests C t) (held_digests D t) (λ d.
      held_digests-by_links C t d
      ∙ any_agree link_cmp_total exact_link (λ l. is_repo_of C t l.0) (λ l. is_repo_of C t l.0 && eq_by_cmp text_cmp d l.1) C.links D.links alike.links (λ l off. and_left (is_repo_of C t l.0) (eq_by_cmp text_cmp d l.1) off)
      ∙ (λ i. list_any (λ l. of_same l.0 i && eq_by_cmp text_cmp d l.1) (set.items D.links))
      ∙ sym (held_digests-by_links D t d))

  pub share_check_same : (d : Text) → check_share C t d ≡ check_share D t d
  share_check_same d = λ i. refuse (not (tenant_holds_same d i) && nat_le (share_same i) (length (set.items (digests_same i)))) LimitReached

  other_repo : (r q : Text) → is_repo_of C t r ≡ true → (b : Bool) → same_text q r ≡ b → is_repo_of C t q ≡ false → b ≡ false
  other_repo r q own true is off = absurd (true≢false (sym own ∙ ap (is_repo_of C t) (sym (text_is q r (sym is))) ∙ off))
  other_repo r q own false is off = refl

  pub manifests_same : (r : Text) → is_repo_of C t r ≡ true → manifests_of C r ≡ manifests_of D r
  manifests_same r own =
      sum_agree link_cmp_total exact_link (λ l. is_repo_of C t l.0) (λ e. cond (same_text e.0.0 r) 1 0) C.manifests D.manifests alike.manifests
      (λ e off. ap (λ b. cond b 1 0) (other_repo r e.0.0 own (same_text e.0.0 r) refl off))

  pub referrer_same : (r d : Text) → is_repo_of C t r ≡ true → referrer C r d ≡ referrer D r d
  referrer_same r d own =
      ap (option_map (λ e. e.0.1)) (find_agree link_cmp_total exact_link (λ l. is_repo_of C t l.0) (λ e. same_text e.0.0 r && refers e.1 d) C.manifests D.manifests alike.manifests
      (λ e off. and_left (same_text e.0.0 r) (refers e.1 d) (other_repo r e.0.0 own (same_text e.0.0 r) refl off)))

  module _ (content : Text → Text) (consistent_C : Consistent content C) (consistent_D : Consistent content D) where
    pub blobs_same : blobs_of C t ≡ blobs_of D t
    blobs_same =
        same_entries text_cmp nat_list_cmp_total exact_bytes (blobs_of C t) (blobs_of D t) (sorted C) (sorted D)
        (λ q. blobs_are content C consistent_C t q ∙ ap (λ b. cond b (Some (content q)) None) (tenant_holds_same q) ∙ sym (blobs_are content D consistent_D t q))
      where
        sorted : (X : Catalog) → T (is_sorted text_cmp (blobs_of X t))
        sorted X =
            subst T (sym (sorted-over text_cmp (λ (b : Resident). b.bytes) (where_key text_cmp (tenant_holds X t) (entries X.residents))))
            (is_sorted-where_key text_cmp (tenant_holds X t) (entries X.residents) (entries_sorted X.residents))

    pub in_use_same : (r : Text) → is_repo_of C t r ≡ true → is_in_use C r ≡ is_in_use D r
    in_use_same r own = λ i. links i || described i || opened i
      where
        off_key : (l : Link) → is_repo_of C t l.0 ≡ false → same_text l.0 r ≡ false
        off_key l off = other_repo r l.0 own (same_text l.0 r) refl off

        links : has_links C r ≡ has_links D r
        links = any_agree link_cmp_total exact_link (λ l. is_repo_of C t l.0) (λ l. same_text l.0 r) C.links D.links alike.links off_key

        described : has_manifests C r ≡ has_manifests D r
        described = any_agree link_cmp_total exact_link (λ l. is_repo_of C t l.0) (λ l. same_text l.0 r) C.manifests D.manifests alike.manifests off_key

        opened : has_sessions C r ≡ has_sessions D r
        opened = same_test (has_sessions C r) (has_sessions D r)
            (sessions_none content t C D consistent_D alike.sessions r (sym (of_same r) ∙ own))
            (sessions_none content t D C consistent_C (λ k is. sym (alike.sessions k is)) r own)

    pub used_same : used_bytes C t ≡ used_bytes D t
    used_same = used_bytes-blobs C t ∙ (λ i. sum_by (λ (e : Text × Text). length e.1) (blobs_same i) + in_sessions_same i) ∙ sym (used_bytes-blobs D t)
