-- A put of a manifest that fails before the manifest is looked up.
use Rattle.std.proofs.Common.{◌≡◌, ℕ, Bool, true, false, Result, Ok, Err, refl, sym, ap, ◌∙◌, inl, inr}
use Rattle.std.specs.Prelude.{if◌then◌else◌, length, nat_lt}
use Rattle.std.specs.Option.{ok_or}
use Rattle.std.proofs.lemmas.Bool.{lt-ltb, le-ltb}
use Rattle.blob_digest.specs.declared.refusal.Refusal.{Refusal}
use Rattle.blob_digest.specs.declared.refusal.Refusal.TheVariants.{LimitReached, Memory, SizeInvalid, ManifestInvalid}
use Rattle.spec_lib.specs.Outcomes.{◌>>=◌, refuse}
use Rattle.oci_manifest.specs.Manifests.{refs_of, max_manifest}
use Rattle.spec_lib.specs.Texts.{Text}
use Rattle.store_model.specs.Catalog.{Catalog}
use Rattle.store_model.specs.Runs.{PutManifest, Bytes, map_outcome}
use Rattle.store_model.specs.Commands as commands
use Rattle.locked_book.specs.Counting.{StoreContent, has_room}
use Rattle.store_model.specs.Histories.{CommandCall, IsStep}
use Rattle.locked_book.specs.History.{state_of, IsUnread}
use Rattle.locked_book.proofs.Counted.{plus_nothing}

bind_err : {A B : Type 0} (x : Result A Refusal) (f : A → Result B Refusal) (e : Refusal) → x ≡ Err e → (x >>= f) ≡ Err e
bind_err x f e h = ap (λ r. r >>= f) h

bind_ok : {A B : Type 0} (x : Result A Refusal) (f : A → Result B Refusal) (a : A) → x ≡ Ok a → (x >>= f) ≡ f a
bind_ok x f a h = ap (λ r. r >>= f) h

abbrev asked : Result ℕ Refusal → Result (Unit {0}) Refusal
asked o = do
  _ ← o
  Ok tt

module _ (k : StoreContent) (repo bytes : Text) where
  abbrev C : Catalog
  C = k.book.catalog

  abbrev Refused : Refusal → Type 0
  Refused e = IsStep (state_of k) (CommandCall (PutManifest repo bytes) (Err e)) (state_of k)

  put_refused : (e : Refusal) → commands.put_manifest C repo bytes ≡ Err e → Refused e
  put_refused e h = record { leaves = inl (inl (false, ap (map_outcome Bytes) h), refl); counts = plus_nothing k.counts.totals }

  no_memory : (e : Refusal) → e ≡ Memory → Refused e
  no_memory e m = record { leaves = inl (inr (m, refl), refl); counts = plus_nothing k.counts.totals }

  denied : (e : Refusal) → has_room k 0 ≡ false → e ≡ LimitReached → Refused e
  denied e full is = record { leaves = inr ((full, is), refl); counts = plus_nothing k.counts.totals }

  tenant_err : (e : Refusal) → commands.check_tenant C repo ≡ Err e → commands.tenant C repo ≡ Err e
  tenant_err e h = by_case (commands.tenant C repo) h
    where
      by_case : (o : Result ℕ Refusal) → asked o ≡ Err e → o ≡ Err e
      by_case (Ok t) h = absurd cc
      by_case (Err f) h = let p : f ≡ e = cc in ap Err p

  tenant_ok : (u : Unit {0}) → commands.check_tenant C repo ≡ Ok u → (t : ℕ) × (commands.tenant C repo ≡ Ok t)
  tenant_ok u h = by_case (commands.tenant C repo) h
    where
      by_case : (o : Result ℕ Refusal) → asked o ≡ Ok u → (t : ℕ) × (o ≡ Ok t)
      by_case (Ok t) h = (t, refl)
      by_case (Err f) h = absurd cc

  -- the common check failed
  pub unkept : (e : Refusal) → Err e ≡ (if has_room k 0 then commands.check_tenant C repo else Err LimitReached) → Refused e
  unkept e h = by_room (has_room k 0) refl h
    where
      by_room : (b : Bool) → has_room k 0 ≡ b → Err e ≡ (if b then commands.check_tenant C repo else Err LimitReached) → Refused e
      by_room true is h = put_refused e (bind_err (commands.tenant C repo) _ e (tenant_err e (sym h)))
      by_room false is h = denied e is cc

  -- the bytes could not be parsed
  pub unread : (e : Refusal) (u : Unit {0}) → ◌≡◌ {A = Result (Unit {0}) Refusal} (Ok u) (if has_room k 0 then commands.check_tenant C repo else Err LimitReached) → IsUnread bytes e → Refused e
  unread e u h why = by_room (has_room k 0) h
    where
      by_why : (t : ℕ) → commands.tenant C repo ≡ Ok t → IsUnread bytes e → Refused e
      by_why t is (inl long) =
          put_refused e (bind_ok (commands.tenant C repo) _ t is ∙ (bind_err (refuse (nat_lt max_manifest (length bytes)) SizeInvalid) _ SizeInvalid (ap (λ b. refuse b SizeInvalid) (lt-ltb max_manifest (length bytes) long.1)) ∙ ap Err (sym long.0)))
      by_why t is (inr (inl none)) =
          put_refused e (bind_ok (commands.tenant C repo) _ t is ∙ (bind_ok (refuse (nat_lt max_manifest (length bytes)) SizeInvalid) _ tt (ap (λ b. refuse b SizeInvalid) (le-ltb max_manifest (length bytes) none.1))
          ∙ (bind_err (ok_or (refs_of bytes) ManifestInvalid) _ ManifestInvalid (ap (λ o. ok_or o ManifestInvalid) none.2) ∙ ap Err (sym none.0))))
      by_why t is (inr (inr m)) = no_memory e m

      by_room : (b : Bool) → ◌≡◌ {A = Result (Unit {0}) Refusal} (Ok u) (if b then commands.check_tenant C repo else Err LimitReached) → Refused e
      by_room true h = let t = tenant_ok u (sym h) in by_why t.0 t.1 why
      by_room false h = absurd cc
