-- A change of the catalog and its change of the durable state keep their agreement.
use Rattle.std.proofs.Common.{◌≡◌, ◌≢◌, ℕ, false, true, List, [], ◌∷◌, ◌++◌, length, Option, Some, refl, sym, ap, ◌∙◌, subst, inl, inr, ⊎_elim}
use Rattle.std.specs.Option.{option_map_or}
use Rattle.std.specs.Cmp.Lexicographic.{nat_list_cmp_total}
use Rattle.std.specs.FinMap.{FinMap, get, insert, remove}
use Rattle.std.specs.List.{AllByRecursion, concat}
use Rattle.std.proofs.lemmas.Map.Lookups.{exact_bytes}
use Rattle.blob_digest.proofs.KeyOrders.{number_cmp_total, exact_number, link_cmp_total, exact_link}
use Rattle.spec_lib.specs.Sets as set
use Rattle.spec_lib.specs.Texts.{Text, text_cmp}
use Rattle.spec_lib.proofs.Maps.{cases_key, get-insert_at, get-insert_other, get-remove_other, got-insert, got-remove}
use Rattle.spec_lib.proofs.Options.{some_same}
use Rattle.spec_lib.proofs.Sets.{member, now, still, was_member}
use Rattle.spec_lib.proofs.Sums.{get-remove_same}
use Rattle.store_model.specs.Catalog.{Catalog, CheckedIn, Link, Resident, Session, SessionNumber, link_cmp}
use Rattle.store_model.specs.Commands.{is_in_use}
use Rattle.store_model.specs.Durable.{Agrees, AgreesOnContent, AgreesOnSession, Change, DurableState, TakenSessions, after_change, after_seal, chunk_change}
use Rattle.store_model.proofs.Commands.Hands.{all_chunks}
use Rattle.store_model.proofs.Invariant.Unused.{no_link, no_open, stays}
use Rattle.store_model.specs.Sessions.{Sessions, at_home, content_in, with_chunk, with_chunks}

-- the durable state after an optional change
abbrev pub after_record : DurableState → Option Change → DurableState
after_record D change = option_map_or (after_change D) change D

as_found : {taken taken' : Option (Text × List Text)} {kept kept' here here' : Option Session} → taken' ≡ taken → kept' ≡ kept → here' ≡ here → AgreesOnSession taken kept here → AgreesOnSession taken' kept' here'
as_found {taken} {taken'} {kept} {kept'} {here} {here'} a b c is = subst (λ x. AgreesOnSession x kept' here') (sym a) (subst (λ x. AgreesOnSession taken x here') (sym b) (subst (λ x. AgreesOnSession taken kept x) (sym c) is))

more_pieces : (chunks : List Text) (bytes : Text) → AllByRecursion (λ c. c ≢ []) chunks → AllByRecursion (λ c. c ≢ []) (with_chunk chunks bytes)
more_pieces chunks bytes pieces = all_chunks (record { repo = []; key = (0, 0); chunks = chunks; reserved = length bytes; last = Some bytes }) (record { pieces = pieces; last = refl })

module _ (taken : TakenSessions) (D : DurableState) (C : Catalog) (a : Agrees taken D C) where
  -- ---- repositories and numbers

  pub Agrees-add_repo : (repo : Text) → Agrees taken (record D { repos = set.insert D.repos repo }) (record C { repos = set.insert C.repos repo })
  Agrees-add_repo repo = record {
    tenants = a.tenants;
    repos = ap (λ x. set.insert x repo) a.repos;
    links = a.links;
    manifests = a.manifests;
    next = a.next;
    sessions = a.sessions;
    contents = a.contents;
    linked_in = λ l h. still nat_list_cmp_total exact_bytes C.repos repo l.0 (a.linked_in l h);
    uploaded_to = λ k s h. still nat_list_cmp_total exact_bytes C.repos repo s.repo (a.uploaded_to k s h);
  }

  pub Agrees-remove_repo : (repo : Text) → is_in_use C repo ≡ false → Agrees taken (record D { repos = set.remove D.repos repo }) (record C { repos = set.remove C.repos repo })
  Agrees-remove_repo repo unused = record {
    tenants = a.tenants;
    repos = ap (λ x. set.remove x repo) a.repos;
    links = a.links;
    manifests = a.manifests;
    next = a.next;
    sessions = a.sessions;
    contents = a.contents;
    linked_in = λ l h. stays C repo unused l.0 (no_link C repo unused l h) (a.linked_in l h);
    uploaded_to = λ k s h. stays C repo unused s.repo (no_open C repo unused k s h) (a.uploaded_to k s h);
  }

  pub Agrees-set_next : (f : List ℕ → List ℕ) → Agrees taken (record D { next = f D.next }) (record C { next = f C.next })
  Agrees-set_next f = record {
    tenants = a.tenants;
    repos = a.repos;
    links = a.links;
    manifests = a.manifests;
    next = ap f a.next;
    sessions = a.sessions;
    contents = a.contents;
    linked_in = a.linked_in;
    uploaded_to = a.uploaded_to;
  }

  -- ---- sessions

  with_sessions : (taken' : TakenSessions) (kept m : Sessions) → ((k : SessionNumber) → AgreesOnSession (get taken' k) (get kept k) (get m k)) → ((k : SessionNumber) (s : Session) → get m k ≡ Some s → set.contains C.repos s.repo ≡ true) →
      Agrees taken' (record D { sessions = kept }) (record C { sessions = m })
  with_sessions taken' kept m each there = record {
    tenants = a.tenants;
    repos = a.repos;
    links = a.links;
    manifests = a.manifests;
    next = a.next;
    sessions = each;
    contents = a.contents;
    linked_in = a.linked_in;
    uploaded_to = there;
  }

  at_key : (key : SessionNumber) (taken' : TakenSessions) (kept m : Sessions) → ((q : SessionNumber) → q ≢ key → (get taken' q ≡ get taken q) × (get kept q ≡ get D.sessions q) × (get m q ≡ get C.sessions q)) →
      AgreesOnSession (get taken' key) (get kept key) (get m key) → (q : SessionNumber) → AgreesOnSession (get taken' q) (get kept q) (get m q)
  at_key key taken' kept m elsewhere here q = elim (cases_key number_cmp_total exact_number q key) [
    | inl e ↦ subst (λ (x : SessionNumber). AgreesOnSession (get taken' x) (get kept x) (get m x)) (sym e) here
    | inr other ↦ let same = elsewhere q other in as_found same.0 same.1 same.2 (a.sessions q)
  ]

  -- a session of an existing repository is inserted
  put_session : (key : SessionNumber) (kept now : Session) (taken' : TakenSessions) → ((q : SessionNumber) → q ≢ key → get taken' q ≡ get taken q) → set.contains C.repos now.repo ≡ true → AgreesOnSession (get taken' key) (Some kept) (Some now) →
      Agrees taken' (record D { sessions = insert D.sessions key kept }) (record C { sessions = insert C.sessions key now })
  put_session key kept now taken' others there is = with_sessions taken' (insert D.sessions key kept) (insert C.sessions key now)
      (at_key key taken' (insert D.sessions key kept) (insert C.sessions key now)
      (λ q other. (others q other, get-insert_other number_cmp_total exact_number D.sessions key kept q other, get-insert_other number_cmp_total exact_number C.sessions key now q other))
      (as_found refl (get-insert_at number_cmp_total exact_number D.sessions key kept) (get-insert_at number_cmp_total exact_number C.sessions key now) is))
      (λ k s h. ⊎_elim (λ e. subst (λ (x : Session). set.contains C.repos x.repo ≡ true) e.1 there) (a.uploaded_to k s) (got-insert number_cmp_total exact_number C.sessions key now k s h))

  -- only the chunks of a session change, and the durable session is as before
  pub Agrees-same_session : (key : SessionNumber) (now : Session) (taken' : TakenSessions) → ((q : SessionNumber) → q ≢ key → get taken' q ≡ get taken q) → set.contains C.repos now.repo ≡ true → AgreesOnSession (get taken' key) (get D.sessions key) (Some now) →
      Agrees taken' D (record C { sessions = insert C.sessions key now })
  Agrees-same_session key now taken' others there is = with_sessions taken' D.sessions (insert C.sessions key now)
      (at_key key taken' D.sessions (insert C.sessions key now)
      (λ q other. (others q other, refl, get-insert_other number_cmp_total exact_number C.sessions key now q other))
      (as_found refl refl (get-insert_at number_cmp_total exact_number C.sessions key now) is))
      (λ k s h. ⊎_elim (λ e. subst (λ (x : Session). set.contains C.repos x.repo ≡ true) e.1 there) (a.uploaded_to k s) (got-insert number_cmp_total exact_number C.sessions key now k s h))

  pub Agrees-open : (key : SessionNumber) (repo : Text) → set.contains C.repos repo ≡ true →
      Agrees taken (record D { sessions = insert D.sessions key (record { repo = repo; chunks = CheckedIn [] }) }) (record C { sessions = insert C.sessions key (record { repo = repo; chunks = CheckedIn [] }) })
  Agrees-open key repo there = put_session key (record { repo = repo; chunks = CheckedIn [] }) (record { repo = repo; chunks = CheckedIn [] }) taken (λ q other. refl) there ([], refl, tt, refl)

  pub Agrees-drop : (key : SessionNumber) → Agrees taken (record D { sessions = remove D.sessions key }) (record C { sessions = remove C.sessions key })
  Agrees-drop key = with_sessions taken (remove D.sessions key) (remove C.sessions key)
      (at_key key taken (remove D.sessions key) (remove C.sessions key)
      (λ q other. (refl, get-remove_other number_cmp_total exact_number D.sessions key q other, get-remove_other number_cmp_total exact_number C.sessions key q other))
      (as_found refl refl (get-remove_same number_cmp_total exact_number C.sessions key) (get-remove_same number_cmp_total exact_number D.sessions key)))
      (λ k s h. a.uploaded_to k s (got-remove number_cmp_total exact_number C.sessions key k s h))

  -- the durable session of an open session
  pub durable_session : (key : SessionNumber) (s : Session) → get C.sessions key ≡ Some s → AgreesOnSession (get taken key) (get D.sessions key) (Some s)
  durable_session key s found = as_found refl refl (sym found) (a.sessions key)

  -- a session is checked in with one more chunk, which is recorded if it is not empty
  pub Agrees-receive : (key : SessionNumber) (s : Session) (chunks : List Text) (bytes : Text) → get C.sessions key ≡ Some s → get D.sessions key ≡ Some (record { repo = s.repo; chunks = CheckedIn chunks }) → AllByRecursion (λ c. c ≢ []) chunks →
      Agrees taken (after_record D (chunk_change key bytes)) (record C { sessions = with_chunks C.sessions key s (CheckedIn (with_chunk chunks bytes)) })
  Agrees-receive key s chunks [] found kept pieces = Agrees-same_session key (record s { chunks = CheckedIn chunks }) taken (λ q other. refl) (a.uploaded_to key s found) (chunks, kept, pieces, refl)
  Agrees-receive key s chunks (b ∷ bytes) found kept pieces =
      let longer : Session = record { repo = s.repo; chunks = CheckedIn (with_chunk chunks (b ∷ bytes)) } in
      subst (λ (m : Sessions). Agrees taken (record D { sessions = m }) (record C { sessions = with_chunks C.sessions key s (CheckedIn (with_chunk chunks (b ∷ bytes))) }))
      (sym (ap (λ o. option_map_or (λ x. with_chunks D.sessions key x (CheckedIn (with_chunk (at_home x.chunks) (b ∷ bytes)))) o D.sessions) kept))
      (put_session key longer longer taken (λ q other. refl) (a.uploaded_to key s found) (with_chunk chunks (b ∷ bytes), refl, more_pieces chunks (b ∷ bytes) pieces, refl))

  -- ---- links and contents

  with_links : (kept links : set.Set link_cmp) (contents : FinMap text_cmp Text) (residents : FinMap text_cmp Resident) → kept ≡ links →
      ((l : Link) → set.contains links l ≡ true → AgreesOnContent contents residents l.1 × (set.contains C.repos l.0 ≡ true)) → Agrees taken (record D { links = kept; contents = contents }) (record C { links = links; residents = residents })
  with_links kept links contents residents same each = record {
    tenants = a.tenants;
    repos = a.repos;
    links = same;
    manifests = a.manifests;
    next = a.next;
    sessions = a.sessions;
    contents = λ l h. (each l h).0;
    linked_in = λ l h. (each l h).1;
    uploaded_to = a.uploaded_to;
  }

  pub Agrees-unlink : (repo digest : Text) → Agrees taken (record D { links = set.remove D.links (repo, digest) }) (record C { links = set.remove C.links (repo, digest) })
  Agrees-unlink repo digest = with_links (set.remove D.links (repo, digest)) (set.remove C.links (repo, digest)) D.contents C.residents (ap (λ x. set.remove x (repo, digest)) a.links)
      (λ l h. let was = was_member link_cmp_total exact_link C.links (repo, digest) l h in (a.contents l was, a.linked_in l was))

  pub Agrees-link : (repo digest : Text) → set.contains C.repos repo ≡ true → AgreesOnContent D.contents C.residents digest →
      Agrees taken (record D { links = set.insert D.links (repo, digest) }) (record C { links = set.insert C.links (repo, digest) })
  Agrees-link repo digest there has = with_links (set.insert D.links (repo, digest)) (set.insert C.links (repo, digest)) D.contents C.residents (ap (λ x. set.insert x (repo, digest)) a.links)
      (λ l h. ⊎_elim (λ (e : l ≡ (repo, digest)). subst (λ (x : Link). AgreesOnContent D.contents C.residents x.1 × (set.contains C.repos x.0 ≡ true)) (sym e) (has, there)) (λ h. (a.contents l h, a.linked_in l h))
      (member link_cmp_total exact_link C.links (repo, digest) l h))

  -- a blob is stored
  pub Agrees-store : (digest : Text) (b : Resident) → Agrees taken (record D { contents = insert D.contents digest b.bytes }) (record C { residents = insert C.residents digest b })
  Agrees-store digest b = with_links D.links C.links (insert D.contents digest b.bytes) (insert C.residents digest b) a.links (λ l h. (
    elim (cases_key nat_list_cmp_total exact_bytes l.1 digest) [
      | inl e ↦ subst (λ (x : Text). AgreesOnContent (insert D.contents digest b.bytes) (insert C.residents digest b) x) (sym e)
          (b, get-insert_at nat_list_cmp_total exact_bytes C.residents digest b, get-insert_at nat_list_cmp_total exact_bytes D.contents digest b.bytes)
      | inr other ↦ let has = a.contents l h in
          (has.0, get-insert_other nat_list_cmp_total exact_bytes C.residents digest b l.1 other ∙ has.1, get-insert_other nat_list_cmp_total exact_bytes D.contents digest b.bytes l.1 other ∙ has.2)
    ],
    a.linked_in l h,
  ))

  -- a blob's marks change
  pub Agrees-mark : (digest : Text) (old b : Resident) → get C.residents digest ≡ Some old → b.bytes ≡ old.bytes → Agrees taken D (record C { residents = insert C.residents digest b })
  Agrees-mark digest old b found same = with_links D.links C.links D.contents (insert C.residents digest b) a.links (λ l h. (
    elim (cases_key nat_list_cmp_total exact_bytes l.1 digest) [
      | inl e ↦ let has = a.contents l h in
          let is : has.0 ≡ old = some_same (sym has.1 ∙ ap (get C.residents) e ∙ found) in
          (b, ap (get (insert C.residents digest b)) e ∙ get-insert_at nat_list_cmp_total exact_bytes C.residents digest b, has.2 ∙ ap (λ (x : Resident). Some x.bytes) is ∙ ap Some (sym same))
      | inr other ↦ let has = a.contents l h in (has.0, get-insert_other nat_list_cmp_total exact_bytes C.residents digest b l.1 other ∙ has.1, has.2)
    ],
    a.linked_in l h,
  ))

  -- ---- manifests

  pub Agrees-manifests : (f : FinMap link_cmp Text → FinMap link_cmp Text) → Agrees taken (record D { manifests = f D.manifests }) (record C { manifests = f C.manifests })
  Agrees-manifests f = record {
    tenants = a.tenants;
    repos = a.repos;
    links = a.links;
    manifests = ap f a.manifests;
    next = a.next;
    sessions = a.sessions;
    contents = a.contents;
    linked_in = a.linked_in;
    uploaded_to = a.uploaded_to;
  }

-- a session with these durable chunks becomes a blob
pub Agrees-seal : (taken : TakenSessions) (D : DurableState) (C : Catalog) → Agrees taken D C → (key : SessionNumber) (s : Session) (chunks : List Text) (digest last : Text) (b : Resident) → get C.sessions key ≡ Some s →
    get D.sessions key ≡ Some (record { repo = s.repo; chunks = CheckedIn chunks }) → b.bytes ≡ concat chunks ++ last →
    Agrees taken (option_map_or (after_seal D key digest last) (get D.sessions key) D)
    (record C { links = set.insert C.links (s.repo, digest); sessions = remove C.sessions key; residents = insert C.residents digest b })
Agrees-seal taken D C a key s chunks digest last b found kept whole =
    let kept_blob : DurableState = record D { contents = insert D.contents digest b.bytes } in
    let blob : Catalog = record C { residents = insert C.residents digest b } in
    let with_blob : Agrees taken kept_blob blob = Agrees-store taken D C a digest b in
    let with_link = Agrees-link taken kept_blob blob with_blob s.repo digest (a.uploaded_to key s found)
    (b, get-insert_at nat_list_cmp_total exact_bytes C.residents digest b, get-insert_at nat_list_cmp_total exact_bytes D.contents digest b.bytes) in
    let gone = Agrees-drop taken (record kept_blob { links = set.insert D.links (s.repo, digest) }) (record blob { links = set.insert C.links (s.repo, digest) }) with_link key in
    let bytes_is : b.bytes ≡ content_in D.sessions key last = whole ∙ sym (ap (λ o. concat (option_map_or (λ x. at_home x.chunks) o []) ++ last) kept) in
    let after : Catalog = record C { links = set.insert C.links (s.repo, digest); sessions = remove C.sessions key; residents = insert C.residents digest b } in
    subst (λ o. Agrees taken (option_map_or (after_seal D key digest last) o D) after) (sym kept)
    (subst (λ (w : Text). Agrees taken (record D { links = set.insert D.links (s.repo, digest); sessions = remove D.sessions key; contents = insert D.contents digest w }) after) bytes_is gone)
