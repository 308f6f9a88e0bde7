-- The rewritten log rebuilds the durable state except for contents without a link.
use Rattle.std.proofs.Common.{◌≡◌, ◌≢◌, ℕ, ◌+◌, Bool, true, false, cond, List, [], ◌∷◌, ◌++◌, map, length, None, refl, sym, ap, ◌∙◌, subst, append-nil, append_assoc}
use Rattle.std.specs.Prelude.{flat_map, fold, if◌then◌else◌, slice_set}
use Rattle.std.specs.Cmp.Lexicographic.{nat_list_cmp_total}
use Rattle.std.specs.List.{AllByRecursion, enumerate_from}
use Rattle.std.specs.FinMap.{contains_key, entries, get, insert}
use Rattle.std.proofs.lemmas.List.{length-map, length-set}
use Rattle.std.proofs.lemmas.List.Sums.{fold-append}
use Rattle.std.proofs.lemmas.Map.Lookups.{exact_bytes}
use Rattle.blob_digest.specs.Digests.{sha256_text}
use Rattle.blob_digest.proofs.KeyOrders.{number_cmp_total, exact_number, link_cmp_total, exact_link}
use Rattle.spec_lib.specs.Sets as set
use Rattle.spec_lib.specs.Texts.{Text, text_cmp}
use Rattle.spec_lib.proofs.Maps.{get-insert_at}
use Rattle.spec_lib.proofs.Sets.{insert_there}
use Rattle.store_model.specs.Catalog.{Catalog, CheckedIn, Link, Session, SessionNumber, Tenant}
use Rattle.store_model.specs.Durable.{Agrees, BlobLinked, BlobStored, Change, ChunkReceived, DurableState, ManifestPut, NumberSet, RepoAdded, TakenSessions, after_change, after_changes, initial_durable}
use Rattle.store_model.specs.Invariant.{WellFormed}
use Rattle.store_model.specs.Recovery.{RewrittenLogsAgree, linked_contents, rewritten_log, session_changes}
use Rattle.store_model.specs.Sessions.{Sessions, after_append_in, at_home, with_chunk, with_chunks}
use Rattle.store_model.proofs.Commands.ByHand.{insert_twice}
use Rattle.store_model.proofs.Durable.Folds.{all_entries, all_items, fold-entries, fold-items, fold-places, fold_keep-entries, keep, put}
use Rattle.store_model.proofs.Durable.Restored.{get-linked, linked_here}
use Rattle.store_model.proofs.Durable.Uses.{was_open}

-- ---- changes of one kind

repos_appear : (rs : List Text) (D : DurableState) → after_changes D (map RepoAdded rs) ≡ record D { repos = fold set.insert D.repos rs }
repos_appear [] D = refl
repos_appear (r ∷ rs) D = repos_appear rs (after_change D (RepoAdded r))

numbers_counted : (es : List (ℕ × ℕ)) (D : DurableState) → after_changes D (map (λ e. NumberSet e.0 e.1) es) ≡ record D { next = fold (λ (xs : List ℕ) (e : ℕ × ℕ). slice_set xs e.0 e.1) D.next es }
numbers_counted [] D = refl
numbers_counted (e ∷ es) D = numbers_counted es (after_change D (NumberSet e.0 e.1))

contents_stored : (es : List (Text × Text)) (D : DurableState) → after_changes D (map (λ e. BlobStored e.0 e.1) es) ≡ record D { contents = fold put D.contents es }
contents_stored [] D = refl
contents_stored (e ∷ es) D = contents_stored es (after_change D (BlobStored e.0 e.1))

-- inserting an existing repository changes nothing
known : (s : set.Set text_cmp) (r : Text) → set.contains s r ≡ true → set.insert s r ≡ s
known s r there = insert_there nat_list_cmp_total exact_bytes s r there

links_linked : (ls : List Link) (D : DurableState) → AllByRecursion (λ l. set.contains D.repos l.0 ≡ true) ls → after_changes D (map (λ l. BlobLinked l.0 l.1) ls) ≡ record D { links = fold set.insert D.links ls }
links_linked [] D all = refl
links_linked (l ∷ ls) D all =
    ap (λ rs. after_changes (record D { repos = rs; links = set.insert D.links l }) (map (λ l. BlobLinked l.0 l.1) ls)) (known D.repos l.0 all.0)
    ∙ links_linked ls (record D { links = set.insert D.links l }) all.1

abbrev IsManifest : set.Set text_cmp → Link × Text → Type 0
IsManifest repos e = (set.contains repos e.0.0 ≡ true) × (e.0.1 ≡ sha256_text e.1)

one_described : (D : DurableState) (e : Link × Text) → IsManifest D.repos e → after_change D (ManifestPut e.0.0 e.1) ≡ record D { manifests = keep D.manifests e }
one_described D e is = ap (λ d. described (e.0.0, d)) (sym is.1) ∙ by (contains_key D.manifests e.0)
  where
    described : Link → DurableState
    described l = if contains_key D.manifests l then D else record D { repos = set.insert D.repos e.0.0; manifests = insert D.manifests l e.1 }

    by : (b : Bool) → (if b then D else record D { repos = set.insert D.repos e.0.0; manifests = insert D.manifests e.0 e.1 }) ≡ record D { manifests = if b then D.manifests else insert D.manifests e.0 e.1 }
    by true = refl
    by false = ap (λ rs. record D { repos = rs; manifests = insert D.manifests e.0 e.1 }) (known D.repos e.0.0 is.0)

manifests_described : (es : List (Link × Text)) (D : DurableState) → AllByRecursion (IsManifest D.repos) es → after_changes D (map (λ e. ManifestPut e.0.0 e.1) es) ≡ record D { manifests = fold keep D.manifests es }
manifests_described [] D all = refl
manifests_described (e ∷ es) D all =
    ap (λ E. after_changes E (map (λ e. ManifestPut e.0.0 e.1) es)) (one_described D e all.0)
    ∙ manifests_described es (record D { manifests = keep D.manifests e }) all.1

-- ---- sessions

-- a session of an existing repository, checked in with no empty chunk
record IsKept (repos : set.Set text_cmp) (s : Session) : Type 0 where
  there : set.contains repos s.repo ≡ true
  chunks : List Text
  home : s.chunks ≡ CheckedIn chunks
  pieces : AllByRecursion (λ c. c ≢ []) chunks

-- a chunk that is not empty is appended
is_more : (chunks : List Text) (c : Text) → c ≢ [] → with_chunk chunks c ≡ chunks ++ c ∷ []
is_more chunks [] some = absurd (some refl)
is_more chunks (b ∷ c) some = refl

module _ (D : DurableState) (key : SessionNumber) (repo : Text) where
  abbrev with : Sessions → List Text → DurableState
  with m chunks = record D { sessions = insert m key (record { repo = repo; chunks = CheckedIn chunks }) }

  one_received : (m : Sessions) (chunks : List Text) (c : Text) → c ≢ [] → after_change (with m chunks) (ChunkReceived key c) ≡ with m (chunks ++ c ∷ [])
  one_received m chunks c some =
      let s : Session = record { repo = repo; chunks = CheckedIn chunks } in
      let longer : after_append_in (insert m key s) key c ≡ with_chunks (insert m key s) key s (CheckedIn (with_chunk chunks c)) = rw (get-insert_at number_cmp_total exact_number m key s) refl in
      ap (λ ss. record D { sessions = ss }) (longer ∙ insert_twice m key s (record s { chunks = CheckedIn (with_chunk chunks c) })) ∙ ap (with m) (is_more chunks c some)

  chunks_received : (cs : List Text) (m : Sessions) (chunks : List Text) → AllByRecursion (λ c. c ≢ []) cs → after_changes (with m chunks) (map (ChunkReceived key) cs) ≡ with m (chunks ++ cs)
  chunks_received [] m chunks all = ap (with m) (sym (append-nil chunks))
  chunks_received (c ∷ cs) m chunks all =
      ap (λ E. after_changes E (map (ChunkReceived key) cs)) (one_received m chunks c all.0) ∙ chunks_received cs m (chunks ++ c ∷ []) all.1 ∙ ap (with m) (append_assoc chunks (c ∷ []) cs)

-- the next numbers after a session's number was used
abbrev given : List ℕ → SessionNumber × Session → List ℕ
given next e = slice_set next e.0.0 (e.0.1 + 1)

one_session : (D : DurableState) (e : SessionNumber × Session) → IsKept D.repos e.1 → after_changes D (session_changes e) ≡ record D { sessions = put D.sessions e; next = given D.next e }
one_session D e kept =
    ap (λ rs. after_changes (with (record D { repos = rs; next = given D.next e }) e.0 e.1.repo D.sessions []) (map (ChunkReceived e.0) (at_home e.1.chunks))) (known D.repos e.1.repo kept.there)
    ∙ ap (λ cs. after_changes (with (record D { next = given D.next e }) e.0 e.1.repo D.sessions []) (map (ChunkReceived e.0) cs)) (ap at_home kept.home)
    ∙ chunks_received (record D { next = given D.next e }) e.0 e.1.repo kept.chunks D.sessions [] kept.pieces
    ∙ ap (λ x. record D { sessions = insert D.sessions e.0 (record { repo = e.1.repo; chunks = x }); next = given D.next e }) (sym kept.home)

sessions_opened : (es : List (SessionNumber × Session)) (D : DurableState) → AllByRecursion (λ e. IsKept D.repos e.1) es → after_changes D (flat_map session_changes es) ≡ record D { sessions = fold put D.sessions es; next = fold given D.next es }
sessions_opened [] D all = refl
sessions_opened (e ∷ es) D all =
    fold-append after_change D (session_changes e) (flat_map session_changes es)
    ∙ ap (λ E. after_changes E (flat_map session_changes es)) (one_session D e all.0)
    ∙ sessions_opened es (record D { sessions = put D.sessions e; next = given D.next e }) all.1

length-given : (es : List (SessionNumber × Session)) (next : List ℕ) → length (fold given next es) ≡ length next
length-given [] next = refl
length-given (e ∷ es) next = length-given es (given next e) ∙ length-set next e.0.0 (e.0.1 + 1)

-- ---- the whole log

-- changes followed by other changes
both : (D : DurableState) (xs ys : List Change) {Y Z : DurableState} → after_changes D xs ≡ Y → after_changes Y ys ≡ Z → after_changes D (xs ++ ys) ≡ Z
both D xs ys first second = fold-append after_change D xs ys ∙ ap (λ E. after_changes E ys) first ∙ second

module _ (taken : TakenSessions) (D : DurableState) (C : Catalog) (a : Agrees taken D C) (lawful : WellFormed C) where
  repos_known : (r : Text) → set.contains C.repos r ≡ true → set.contains D.repos r ≡ true
  repos_known r there = ap (λ x. set.contains x r) a.repos ∙ there

  all_kept : AllByRecursion (λ (e : SessionNumber × Session). IsKept D.repos e.1) (entries D.sessions)
  all_kept = all_entries number_cmp_total exact_number (λ e. IsKept D.repos e.1) D.sessions (λ key s found.
      let was = was_open taken D C a key s found in
      record {
        there = ap (λ (x : Session). set.contains D.repos x.repo) was.3 ∙ repos_known was.0.repo (a.uploaded_to key was.0 was.2);
        chunks = was.1;
        home = ap (λ (x : Session). x.chunks) was.3;
        pieces = was.4;
      })

  all_linked : AllByRecursion (λ (l : Link). set.contains D.repos l.0 ≡ true) (set.items D.links)
  all_linked = all_items link_cmp_total exact_link (λ l. set.contains D.repos l.0 ≡ true) D.links (λ l has. repos_known l.0 (a.linked_in l (ap (λ x. set.contains x l) (sym a.links) ∙ has)))

  all_described : AllByRecursion (IsManifest D.repos) (entries D.manifests)
  all_described = all_entries link_cmp_total exact_link (IsManifest D.repos) D.manifests (λ l bytes found.
      let m = lawful.manifests l bytes (ap (λ x. get x l) (sym a.manifests) ∙ found) in (repos_known l.0 m.repo, m.name))

  abbrev appear : List Change
  appear = map RepoAdded (set.items D.repos)

  abbrev open_all : List Change
  open_all = flat_map session_changes (entries D.sessions)

  abbrev count_all : List Change
  count_all = map (λ e. NumberSet e.0 e.1) (enumerate_from 0 D.next)

  abbrev store_all : List Change
  store_all = map (λ e. BlobStored e.0 e.1) (entries (linked_contents D))

  abbrev link_all : List Change
  link_all = map (λ l. BlobLinked l.0 l.1) (set.items D.links)

  abbrev describe_all : List Change
  describe_all = map (λ e. ManifestPut e.0.0 e.1) (entries D.manifests)

  abbrev B : DurableState
  B = initial_durable D.tenants

  abbrev D1 : DurableState
  D1 = record B { repos = D.repos }

  abbrev D2 : DurableState
  D2 = record D1 { sessions = D.sessions; next = fold given B.next (entries D.sessions) }

  abbrev D3 : DurableState
  D3 = record D2 { next = D.next }

  abbrev D4 : DurableState
  D4 = record D3 { contents = linked_contents D }

  abbrev D5 : DurableState
  D5 = record D4 { links = D.links }

  one : after_changes B appear ≡ D1
  one = repos_appear (set.items D.repos) B ∙ ap (λ rs. record B { repos = rs }) (fold-items nat_list_cmp_total exact_bytes D.repos)

  two : after_changes D1 open_all ≡ D2
  two = sessions_opened (entries D.sessions) D1 all_kept ∙ ap (λ ss. record D2 { sessions = ss }) (fold-entries number_cmp_total exact_number D.sessions)

  three : after_changes D2 count_all ≡ D3
  three = numbers_counted (enumerate_from 0 D.next) D2 ∙ ap (λ ns. record D2 { next = ns }) (fold-places [] D2.next D.next alike)
    where
      alike : length (fold given B.next (entries D.sessions)) ≡ length D.next
      alike = length-given (entries D.sessions) B.next ∙ length-map D.tenants (λ (_ : Tenant). 1) ∙ ap length a.tenants ∙ sym (ap length a.next ∙ lawful.numbering.one_each)

  four : after_changes D3 store_all ≡ D4
  four = contents_stored (entries (linked_contents D)) D3 ∙ ap (λ cs. record D3 { contents = cs }) (fold-entries nat_list_cmp_total exact_bytes (linked_contents D))

  five : after_changes D4 link_all ≡ D5
  five = links_linked (set.items D.links) D4 all_linked ∙ ap (λ ls. record D4 { links = ls }) (fold-items link_cmp_total exact_link D.links)

  six : after_changes D5 describe_all ≡ record D { contents = linked_contents D }
  six = manifests_described (entries D.manifests) D5 all_described ∙ ap (λ ms. record D5 { manifests = ms }) (fold_keep-entries link_cmp_total exact_link D.manifests)

  pub rewritten : after_changes B (rewritten_log D) ≡ record D { contents = linked_contents D }
  rewritten =
      let a2 = both B appear open_all one two in
      let a3 = both B (appear ++ open_all) count_all a2 three in
      let a4 = both B (appear ++ open_all ++ count_all) store_all a3 four in
      let a5 = both B (appear ++ open_all ++ count_all ++ store_all) link_all a4 five in
      both B (appear ++ open_all ++ count_all ++ store_all ++ link_all) describe_all a5 six

  still_agrees : Agrees taken (record D { contents = linked_contents D }) C
  still_agrees = record {
    tenants = a.tenants;
    repos = a.repos;
    links = a.links;
    manifests = a.manifests;
    next = a.next;
    sessions = a.sessions;
    contents = λ l h.
        let has = a.contents l h in
        let is = linked_here D l.0 l.1 (repos_known l.0 (a.linked_in l h)) (ap (λ x. set.contains x l) a.links ∙ h) in
        (has.0, has.1, get-linked D l.1 ∙ ap (λ b. cond b (get D.contents l.1) None) is ∙ has.2);
    linked_in = a.linked_in;
    uploaded_to = a.uploaded_to;
  }

pub rewritten_logs_agree : RewrittenLogsAgree
rewritten_logs_agree taken D C a lawful =
    let same = rewritten taken D C a lawful in
    record { same = same; agrees = subst (λ E. Agrees taken E C) (sym same) (still_agrees taken D C a lawful) }
