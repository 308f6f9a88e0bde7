-- `Book::remove_repo`, by the clauses of its calls of the layers.
use Rattle.std.proofs.Common.{◌≡◌, ℕ, Bool, true, false, cond, length, Option, Some, None, Ok, Err, is_some, refl, sym, ap, ◌∙◌, subst}
use Rattle.std.specs.Prelude.{◌&&◌, ◌||◌, ◌==◌, nat_lt}
use Rattle.std.specs.Option.{option_map}
use Rattle.std.specs.Cmp.Lexicographic.{nat_list_cmp_total}
use Rattle.std.specs.FinMap.{FinMap, entries, get}
use Rattle.std.proofs.lemmas.Bool.{and_right, eq-eqb, false_from_ne_true, true≢false}
use Rattle.std.proofs.lemmas.Map.Lookups.{exact_bytes}
use Rattle.blob_digest.proofs.KeyOrders.{exact_link, exact_number, link_cmp_total, number_cmp_total}
use Rattle.blob_digest.specs.declared.refusal.Refusal.TheVariants.{NameUnknown, RepoInUse}
use Rattle.spec_lib.specs.Sets as set
use Rattle.spec_lib.specs.Texts.{Text, same_text}
use Rattle.spec_lib.proofs.Lists.{list_any_count}
use Rattle.spec_lib.proofs.Maps.{sum_alike, term}
use Rattle.spec_lib.proofs.Options.{a_unit, not_some, some_same}
use Rattle.spec_lib.proofs.Outcomes.{some_of_ok}
use Rattle.spec_lib.proofs.Sums.{insert-remove, insert_back}
use Rattle.spec_lib.proofs.Texts.{text_is_same}
use Rattle.link_table.specs.Linked.{HasNoLinks, Linked, known_tenant, vanish, has_contents, has_links as has_links_in, has_manifests}
use Rattle.link_table.proofs.LinkKeys.{any_key}
use Rattle.upload_table.specs.Uploaded.{Uploaded, has_sessions as has_sessions_in}
use Rattle.store_model.specs.Catalog.{Catalog, Link, Session, SessionNumber, link_cmp, link_count, tenant_of}
use Rattle.store_model.specs.Commands.{has_links, has_sessions, is_in_use, remove_repo, without_repo}
use Rattle.store_model.specs.Invariant.{Sound}
use Rattle.store_model.specs.Sessions.{is_of_repo}
use Rattle.store_model.proofs.Commands.Repos.{Sound-after_remove_repo}
use Rattle.store_model.proofs.Invariant.Counts.{link_count-appear}
use Rattle.store_model.proofs.Invariant.SessionTenants.{session_owner}
use Rattle.store_model.proofs.Invariant.Unused.{WellFormed-remove_repo, no_link}
use Rattle.store_book.specs.Layers.{IsBook, Layers, book_catalog, links_of}
use Rattle.store_book.proofs.Layers.Sums.{get-links_of, mark}

-- the links of a repository, as terms of a sum
abbrev one : {X : Type 0} → Text → Link × X → ℕ
one repo e = cond (same_text e.0.0 repo) 1 0

links_are : (m : FinMap link_cmp ℕ) (repo : Text) (q : Link) (o : Option ℕ) → term (one {X = Unit {0}} repo) q (option_map mark o) ≡ term (one {X = ℕ} repo) q o
links_are m repo q None = refl
links_are m repo q (Some n) = refl

module _ (L : Layers) (t : ℕ) (repo : Text) (book : IsBook L) (known : known_tenant L.links repo ≡ Ok t) where
  abbrev C : Catalog
  C = book_catalog L

  abbrev m : FinMap link_cmp ℕ
  m = L.links.links

  -- ---- whether the repository is in use

  links_same : has_links C repo ≡ has_links_in L.links repo
  links_same =
      any_key (λ (k : Link). same_text k.0 repo) (links_of m)
      ∙ list_any_count (λ (e : Link × Unit {0}). same_text e.0.0 repo) (entries (links_of m))
      ∙ ap (nat_lt 0) (sum_alike link_cmp_total exact_link (one {X = Unit {0}} repo) (one {X = ℕ} repo) (links_of m) m (λ q. ap (term (one {X = Unit {0}} repo) q) (get-links_of m q) ∙ links_are m repo q (get m q)))
      ∙ sym (list_any_count (λ (e : Link × ℕ). same_text e.0.0 repo) (entries m))
      ∙ sym (any_key (λ (k : Link). same_text k.0 repo) m)

  -- the sessions of the repository, and those of its tenant, as terms of a sum
  abbrev any_tenants : SessionNumber × Session → ℕ
  any_tenants e = cond (same_text e.1.repo repo) 1 0

  abbrev own : SessionNumber × Session → ℕ
  own e = cond (is_of_repo t repo e) 1 0

  session_counts : (q : SessionNumber) (o : Option Session) → get C.sessions q ≡ o → term any_tenants q o ≡ term own q o
  session_counts q None found = refl
  session_counts q (Some s) found = by (same_text s.repo repo) refl
    where
      owner : same_text s.repo repo ≡ true → (q.0 == t) ≡ true
      owner is =
          let of_session = session_owner C book.sound.lawful q s found in
          let of_repo : tenant_of C.tenants repo ≡ Some q.0 = ap (tenant_of C.tenants) (sym (text_is_same s.repo repo is)) ∙ of_session in
          eq-eqb q.0 t (some_same (sym of_repo ∙ some_of_ok (tenant_of C.tenants repo) NameUnknown t known))

      by : (b : Bool) → same_text s.repo repo ≡ b → cond {A = ℕ} (same_text s.repo repo) 1 0 ≡ cond {A = ℕ} (q.0 == t && same_text s.repo repo) 1 0
      by true is = rw (is, owner is) refl
      by false is = ap (λ b. cond {A = ℕ} b 1 0) (is ∙ sym (and_right (q.0 == t) (same_text s.repo repo) is))

  sessions_same : has_sessions C repo ≡ has_sessions_in L.uploads t repo
  sessions_same =
      list_any_count (λ (e : SessionNumber × Session). same_text e.1.repo repo) (entries C.sessions)
      ∙ ap (nat_lt 0) (sum_alike number_cmp_total exact_number any_tenants own C.sessions C.sessions (λ q. session_counts q (get C.sessions q) refl))
      ∙ sym (list_any_count (is_of_repo t repo) (entries C.sessions))

  pub in_use_is : is_in_use C repo ≡ (has_contents L.links repo || has_sessions_in L.uploads t repo)
  in_use_is = λ i. links_same i || has_manifests L.links repo || sessions_same i

  -- ---- the removal

  module _ (there : set.contains L.links.repos repo ≡ true) (unused : is_in_use C repo ≡ false) where
    abbrev after : Catalog
    after = book_catalog (record L { links = vanish L.links repo })

    removed : remove_repo C repo ≡ Ok (tt, after)
    removed = rw (known, there, unused) refl

    pub no_links : HasNoLinks L.links.links repo
    no_links d = not_some (get m (repo, d)) (λ n at. no_link C repo unused (repo, d) (ap is_some (get-links_of m (repo, d) ∙ ap (option_map mark) at)) refl)

    same_count : (d : Text) → link_count after d ≡ link_count C d
    same_count d =
        sym (link_count-appear (without_repo C repo) repo d (WellFormed-remove_repo C repo unused book.sound.lawful))
        ∙ ap (λ s. link_count (record C { repos = s }) d) (insert-remove nat_list_cmp_total exact_bytes C.repos repo tt ∙ insert_back nat_list_cmp_total exact_bytes C.repos repo tt (a_unit (get C.repos repo) there))

    -- after a repository was removed, the layers make a book
    pub IsBook-remove_repo : IsBook (record L { links = vanish L.links repo })
    IsBook-remove_repo = record {
      sound = Sound-after_remove_repo C after repo removed book.sound;
      tied = record { marks = book.tied.marks; distinct = book.tied.distinct; sizes = book.tied.sizes; counts = λ k h at. book.tied.counts k h at ∙ sym (same_count h.digest) };
      charges = record { one_each = book.charges.one_each; sums = book.charges.sums };
    }
