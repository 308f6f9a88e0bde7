-- A row that names a repository, and has no malformed field, has a command.
use Rattle.std.proofs.Common.{◌≡◌, ◌≢◌, ◌∙◌, ◌∷◌, [], ℕ, List, false, true, Option, Some, None, Ok, refl, subst, sym}
use Rattle.std.specs.Prelude.{is_some, option_and_then, map}
use Rattle.std.proofs.lemmas.Bool.{false≢true, and_parts}
use Rattle.spec_lib.specs.Texts.{Text}
use Rattle.blob_digest.specs.declared.range.ByteRange.{ByteRange}
use Rattle.store_api.specs.Commands.{Command, Start, Status, Append, Close, Abandon, Mount, Delete, PutManifest, GetManifest, DeleteManifest, RemoveRepo, Lease, command_of_verb, digest_in, is_lease, repo_in, uses_digest, uses_repo, uses_session, used_field}
use Rattle.script_player.specs.RowCommands.{command_of}
use Rattle.script_player.specs.Rows.{RowView, has_needed_fields, session_number}
use Rattle.store_api.specs.declared.verb.Verb.{Verb}
use Rattle.store_api.specs.declared.verb.Verb.TheVariants as verb
use Rattle.script_player.proofs.Spellings.{lease_spelled, spelled}
use Rattle.blobctl.specs.Records.{Record, head_of, row_of, row_of_head}
use Rattle.spec_lib.proofs.Options.{cond_some}

-- ---- a row fits its command

abbrev pub Fits : RowView → Type 0
Fits line = has_needed_fields line.verb line.repo line.key line.digest line.range line.body ≡ true

fits_with : (fields : Record) (head : Option (ℕ × Verb)) (line : RowView) → option_and_then (row_of_head fields) head ≡ Some line → Fits line
fits_with fields None line h = absurd (let e = h in cc)
fits_with fields (Some head) line h = let p = cond_some _ _ line h in subst Fits p.1 p.0

abbrev pub AllFit : List RowView → Type 0
AllFit [] = Unit {0}
AllFit (line ∷ lines) = Fits line × AllFit lines

pub all_fit : (records : List Record) (rows : List RowView) → map row_of records ≡ map Some rows → AllFit rows
all_fit records [] e = tt
all_fit [] (line ∷ lines) e = absurd (let h = e in cc)
all_fit (fields ∷ records) (line ∷ lines) e =
    let here : row_of fields ≡ Some line = (let h = e in cc) in
    let rest : map row_of records ≡ map Some lines = (let h = e in cc) in
    (fits_with fields (head_of fields) line here, all_fit records lines rest)

some_of : (o : Option ℕ) → is_some o ≡ true → (n : ℕ) × (o ≡ Some n)
some_of None h = absurd (false≢true h)
some_of (Some n) h = (n, refl)

module _ (line : RowView) where
  -- the session of a row that names one
  session : (v : Verb) → uses_session v ≡ true → has_needed_fields v line.repo line.key line.digest line.range line.body ≡ true → (n : ℕ) × (session_number line.key ≡ Some n)
  session verb.Status uses h = some_of (session_number line.key) (and_parts _ _ (and_parts _ _ (and_parts _ _ h).0).0).0
  session verb.Append uses h = some_of (session_number line.key) (and_parts _ _ h).0
  session verb.Close uses h = some_of (session_number line.key) h
  session verb.Abandon uses h = some_of (session_number line.key) (and_parts _ _ (and_parts _ _ (and_parts _ _ h).0).0).0
  session _ uses h = absurd (false≢true uses)

  -- the command of a row that leases nothing
  abbrev pub Commanded : Option Command → Type 0
  Commanded o = (c : Command) × (o ≡ Some c) × (is_lease c ≡ false)

  module _ (repo digest : Text) (from : Option Text) (range : Option ByteRange) where
    commanded : (v : Verb) → uses_repo v ≡ true → v ≢ verb.Lease → has_needed_fields v line.repo line.key line.digest line.range line.body ≡ true → Commanded (command_of_verb v repo from digest range (session_number line.key) line.body)
    commanded verb.Start uses other fit = (Start repo, refl, refl)
    commanded verb.Status uses other fit = let n = session verb.Status refl fit in (Status repo n.0, rw n.1 refl, refl)
    commanded verb.Append uses other fit = let n = session verb.Append refl fit in (Append repo n.0 range line.body, rw n.1 refl, refl)
    commanded verb.Close uses other fit = let n = session verb.Close refl fit in (Close repo n.0 digest range line.body, rw n.1 refl, refl)
    commanded verb.Abandon uses other fit = let n = session verb.Abandon refl fit in (Abandon repo n.0, rw n.1 refl, refl)
    commanded verb.Mount uses other fit = (Mount repo digest from, refl, refl)
    commanded verb.Delete uses other fit = (Delete repo digest, refl, refl)
    commanded verb.PutManifest uses other fit = (PutManifest repo line.body, refl, refl)
    commanded verb.GetManifest uses other fit = (GetManifest repo digest, refl, refl)
    commanded verb.DeleteManifest uses other fit = (DeleteManifest repo digest, refl, refl)
    commanded verb.RemoveRepo uses other fit = (RemoveRepo repo, refl, refl)
    commanded verb.Lease uses other fit = absurd (other refl)
    commanded _ uses other fit = absurd (false≢true uses)

  -- a row that names a repository, and leases nothing
  pub has_command : Fits line → uses_repo line.verb ≡ true → line.verb ≢ verb.Lease → (o : Option Command) → command_of line ≡ Ok o → Commanded o
  has_command fit uses other o spells =
      let s = spelled line o spells in
      let c = commanded s.repo s.digest s.from s.range line.verb uses other fit in
      (c.0, sym s.is ∙ c.1, c.2)

  -- a row that leases
  pub has_lease : line.verb ≡ verb.Lease → (o : Option Command) → command_of line ≡ Ok o → command_of line ≡ Ok (Some (Lease line.repo line.digest))
  has_lease is o spells =
      let s = spelled line o spells in
      lease_spelled line s.repo s.digest is
      (subst (λ (v : Verb). used_field (uses_repo v) [] (repo_in line.repo) ≡ Ok s.repo) is s.named)
      (subst (λ (v : Verb). used_field (uses_digest v) [] (digest_in line.digest) ≡ Ok s.digest) is s.known)
