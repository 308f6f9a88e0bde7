-- The fields of a row, by the command that it spells.
use Rattle.std.proofs.Common.{◌≡◌, ◌∙◌, [], ℕ, Bool, false, true, inl, inr, Option, Some, None, Result, Ok, Err, ap, refl, sym}
use Rattle.std.specs.Option.{option_map}
use Rattle.std.proofs.lemmas.Bool.{cases_Bool, false≢true}
use Rattle.std.proofs.lemmas.Option.{same_Some}
use Rattle.blob_digest.specs.Digests.{is_digest_text}
use Rattle.spec_lib.specs.Texts.{Text}
use Rattle.blob_digest.specs.NameMachine.{is_repo_name}
use Rattle.spec_lib.specs.Outcomes.{◌>>=◌}
use Rattle.blob_digest.specs.declared.range.ByteRange.{ByteRange}
use Rattle.blob_digest.specs.declared.refusal.Refusal.{Refusal}
use Rattle.store_model.specs.Runs.{repo_of}
use Rattle.store_api.specs.Commands.{Command, Lease, command_of_verb, digest_in, repo_in, source_in, uses_digest, uses_range, uses_repo, uses_source, used_field}
use Rattle.script_player.specs.RowCommands.{command_of, range_in}
use Rattle.script_player.specs.Rows.{RowView, session_number}
use Rattle.store_api.specs.declared.verb.Verb.{Verb}
use Rattle.store_api.specs.declared.verb.Verb.TheVariants as verb

-- a sweep and a row about a lease of its lane spell no command
pub spells_none : (row : RowView) (v : Verb) → row.verb ≡ v → uses_repo v ≡ false → command_of row ≡ Ok None
spells_none row verb.Read is none = rw is refl
spells_none row verb.Share is none = rw is refl
spells_none row verb.Verify is none = rw is refl
spells_none row verb.GiveBack is none = rw is refl
spells_none row verb.Sweep is none = rw is refl
spells_none row _ is none = absurd (false≢true (sym none))

-- a row that spells a command names a repository
pub names_repo : (row : RowView) (command : Command) → command_of row ≡ Ok (Some command) → uses_repo row.verb ≡ true
names_repo row command spells = elim (cases_Bool (uses_repo row.verb)) [
  | inl uses ↦ uses
  | inr none ↦ absurd (let h = sym spells ∙ spells_none row row.verb refl none in cc)
]

-- a row that leases a blob spells that command if its repository and its digest are well-formed
pub lease_spelled : (row : RowView) (repo digest : Text) → row.verb ≡ verb.Lease → repo_in row.repo ≡ Ok repo → digest_in row.digest ≡ Ok digest → command_of row ≡ Ok (Some (Lease row.repo row.digest))
lease_spelled row repo digest is found known = by (is_repo_name row.repo) (is_digest_text row.digest) refl refl
  where
    by : (a b : Bool) → is_repo_name row.repo ≡ a → is_digest_text row.digest ≡ b → command_of row ≡ Ok (Some (Lease row.repo row.digest))
    by true true name text = rw (is, name, text) refl
    by true false name text = absurd (let h = rw text at known in cc)
    by false b name text = absurd (let h = rw name at found in cc)

-- if all fields are well-formed, the command is that of the fields
pub record Spelled (row : RowView) (o : Option Command) : Type 0 where
  pub repo : Text
  pub from : Option Text
  pub digest : Text
  pub range : Option ByteRange
  pub named : used_field (uses_repo row.verb) [] (repo_in row.repo) ≡ Ok repo
  pub known : used_field (uses_digest row.verb) [] (digest_in row.digest) ≡ Ok digest
  pub is : command_of_verb row.verb repo from digest range (session_number row.key) row.body ≡ o

pub spelled : (row : RowView) (o : Option Command) → command_of row ≡ Ok o → Spelled row o
spelled row o h = by (used_field (uses_repo row.verb) [] (repo_in row.repo)) (used_field (uses_source row.verb) None (source_in row.key)) (used_field (uses_digest row.verb) [] (digest_in row.digest)) (used_field (uses_range row.verb) None (range_in row.range)) refl refl h
  where
    by : (r : Result Text Refusal) (f : Result (Option Text) Refusal) (d : Result Text Refusal) (g : Result (Option ByteRange) Refusal) → used_field (uses_repo row.verb) [] (repo_in row.repo) ≡ r → used_field (uses_digest row.verb) [] (digest_in row.digest) ≡ d
        → r >>= (λ repo. f >>= (λ from. d >>= (λ digest. g >>= (λ range. Ok (command_of_verb row.verb repo from digest range (session_number row.key) row.body))))) ≡ Ok o → Spelled row o
    by (Ok repo) (Ok from) (Ok digest) (Ok range) named known h = record { repo = repo; from = from; digest = digest; range = range; named = named; known = known; is = let k = h in cc }
    by (Ok repo) (Ok from) (Ok digest) (Err e) named known h = absurd (let k = h in cc)
    by (Ok repo) (Ok from) (Err e) g named known h = absurd (let k = h in cc)
    by (Ok repo) (Err e) d g named known h = absurd (let k = h in cc)
    by (Err e) f d g named known h = absurd (let k = h in cc)

-- the repository of a command is that of its row
module _ (repo digest body : Text) (from : Option Text) (range : Option ByteRange) (c : Command) where
  named_by : (v : Verb) (number : Option ℕ) → command_of_verb v repo from digest range number body ≡ Some c → repo_of c ≡ repo
  named_by verb.Start number e = sym (same_Some _ _ (ap (option_map repo_of) e))
  named_by verb.Status (Some n) e = sym (same_Some _ _ (ap (option_map repo_of) e))
  named_by verb.Append (Some n) e = sym (same_Some _ _ (ap (option_map repo_of) e))
  named_by verb.Close (Some n) e = sym (same_Some _ _ (ap (option_map repo_of) e))
  named_by verb.Abandon (Some n) e = sym (same_Some _ _ (ap (option_map repo_of) e))
  named_by verb.Mount number e = sym (same_Some _ _ (ap (option_map repo_of) e))
  named_by verb.Delete number e = sym (same_Some _ _ (ap (option_map repo_of) e))
  named_by verb.PutManifest number e = sym (same_Some _ _ (ap (option_map repo_of) e))
  named_by verb.GetManifest number e = sym (same_Some _ _ (ap (option_map repo_of) e))
  named_by verb.DeleteManifest number e = sym (same_Some _ _ (ap (option_map repo_of) e))
  named_by verb.RemoveRepo number e = sym (same_Some _ _ (ap (option_map repo_of) e))
  named_by verb.Lease number e = sym (same_Some _ _ (ap (option_map repo_of) e))
  named_by verb.Status None e = absurd (let h = e in cc)
  named_by verb.Append None e = absurd (let h = e in cc)
  named_by verb.Close None e = absurd (let h = e in cc)
  named_by verb.Abandon None e = absurd (let h = e in cc)
  named_by _ number e = absurd (let h = e in cc)

name_read : (text repo : Text) → repo_in text ≡ Ok repo → repo ≡ text
name_read text repo h = by (is_repo_name text) refl
  where
    by : (b : Bool) → is_repo_name text ≡ b → repo ≡ text
    by true is = let k = rw is at h in cc
    by false is = absurd (let k = rw is at h in cc)

pub repo_spelled : (row : RowView) (c : Command) → command_of row ≡ Ok (Some c) → repo_of c ≡ row.repo
repo_spelled row c h =
    let s = spelled row (Some c) h in
    let named = rw (names_repo row c h) at s.named in
    named_by s.repo s.digest row.body s.from s.range c row.verb (session_number row.key) s.is ∙ name_read row.repo s.repo named
