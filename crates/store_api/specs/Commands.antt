-- Requests to a store, and the fields that spell commands.
use Rattle.std.specs.Prelude.{◌≡◌, ◌^◌, ℕ, Bool, true, false, Option, Some, None, [], ◌∷◌, Result, Ok, Err, if◌then◌else◌, nat_le, nat_lt}
use Rattle.std.specs.Option.{option_map}
use Rattle.std.proofs.Common.{refl}
use Rattle.std.proofs.lemmas.Bool.{leb-true, ltb-true}
use Rattle.blob_digest.specs.Digests.{is_digest_text}
use Rattle.spec_lib.specs.Texts.{Text}
use Rattle.blob_digest.specs.NameMachine.{is_repo_name}
use Rattle.spec_lib.specs.Outcomes.{◌>>=◌}
use Rattle.blob_digest.specs.declared.range.ByteRange.{ByteRange}
use Rattle.blob_digest.specs.declared.refusal.Refusal.{Refusal}
use Rattle.blob_digest.specs.declared.refusal.Refusal.TheVariants.{NameInvalid, DigestInvalid, SizeInvalid}
pub use Rattle.store_model.specs.Runs.{Command, Start, Status, Append, Close, Abandon, Mount, Delete, PutManifest, GetManifest, DeleteManifest, RemoveRepo, Lease}
use Rattle.store_api.specs.declared.verb.Verb.{Verb}
use Rattle.store_api.specs.declared.verb.Verb.TheVariants as verb

-- a request: a command, the verification of a lease of a blob of this size, or a sweep, at once or in parts
pub data StoreRequest : Type 0 where
  Calls : Command → StoreRequest
  Verifies : ℕ → StoreRequest
  Sweeps : StoreRequest
  SweepsInParts : StoreRequest

-- whether a command leases a blob
abbrev pub is_lease : Command → Bool
is_lease (Lease repo digest) = true
is_lease _ = false

-- ---- the fields that a verb uses

-- whether a verb's command names a repository
abbrev pub uses_repo : Verb → Bool
uses_repo verb.Read = false
uses_repo verb.Share = false
uses_repo verb.Verify = false
uses_repo verb.GiveBack = false
uses_repo verb.Sweep = false
uses_repo _ = true

-- whether a verb's command returns a reply and no lease
abbrev pub is_command : Verb → Bool
is_command verb.Lease = false
is_command verb = uses_repo verb

-- whether a verb's command may name a source repository
abbrev pub uses_source : Verb → Bool
uses_source verb.Mount = true
uses_source _ = false

-- whether a verb's command names a digest
abbrev pub uses_digest : Verb → Bool
uses_digest verb.Close = true
uses_digest verb.Mount = true
uses_digest verb.Delete = true
uses_digest verb.GetManifest = true
uses_digest verb.DeleteManifest = true
uses_digest verb.Lease = true
uses_digest _ = false

-- whether a verb's command may name the range of a chunk
abbrev pub uses_range : Verb → Bool
uses_range verb.Append = true
uses_range verb.Close = true
uses_range _ = false

-- whether a verb's command names a session
abbrev pub uses_session : Verb → Bool
uses_session verb.Status = true
uses_session verb.Append = true
uses_session verb.Close = true
uses_session verb.Abandon = true
uses_session _ = false

-- ---- the value of a field

-- the repository that a field spells
abbrev pub repo_in : Text → Result Text Refusal
repo_in text = if is_repo_name text then Ok text else Err NameInvalid

-- the source of a mount, or none if the field is empty
abbrev pub source_in : Text → Result (Option Text) Refusal
source_in [] = Ok None
source_in (c ∷ cs) = if is_repo_name (c ∷ cs) then Ok (Some (c ∷ cs)) else Err NameInvalid

-- the digest that a field spells, by either algorithm
abbrev pub digest_in : Text → Result Text Refusal
digest_in text = if is_digest_text text then Ok text else Err DigestInvalid

-- the range of two ends, with the proofs of the tests of their order and size
abbrev pub range_of_tests : (start end : ℕ) (o s : Bool) → nat_le start end ≡ o → nat_lt end (2 ^ 63) ≡ s → Result (Option ByteRange) Refusal
range_of_tests start end true true o s = Ok (Some (record { start = start; end = end; ordered = leb-true start end o; small = ltb-true end (2 ^ 63) s }))
range_of_tests start end true false o s = Err SizeInvalid
range_of_tests start end false s o _ = Err SizeInvalid

-- the range of two ends, or `SizeInvalid` if there are none
abbrev pub range_of_ends : Option (ℕ × ℕ) → Result (Option ByteRange) Refusal
range_of_ends None = Err SizeInvalid
range_of_ends (Some r) = range_of_tests r.0 r.1 (nat_le r.0 r.1) (nat_lt r.1 (2 ^ 63)) refl refl

-- the value of a field that is used, or else another value
abbrev pub used_field : {A : Type 0} → Bool → A → Result A Refusal → Result A Refusal
used_field true other field = field
used_field false other field = Ok other

-- ---- the command

-- the command of a verb with the values of its fields, or none for a verb that is no command
abbrev pub command_of_verb : Verb → Text → Option Text → Text → Option ByteRange → Option ℕ → Text → Option Command
command_of_verb verb.Start repo from digest range number body = Some (Start repo)
command_of_verb verb.Status repo from digest range number body = option_map (λ n. Status repo n) number
command_of_verb verb.Append repo from digest range number body = option_map (λ n. Append repo n range body) number
command_of_verb verb.Close repo from digest range number body = option_map (λ n. Close repo n digest range body) number
command_of_verb verb.Abandon repo from digest range number body = option_map (λ n. Abandon repo n) number
command_of_verb verb.Mount repo from digest range number body = Some (Mount repo digest from)
command_of_verb verb.Delete repo from digest range number body = Some (Delete repo digest)
command_of_verb verb.PutManifest repo from digest range number body = Some (PutManifest repo body)
command_of_verb verb.GetManifest repo from digest range number body = Some (GetManifest repo digest)
command_of_verb verb.DeleteManifest repo from digest range number body = Some (DeleteManifest repo digest)
command_of_verb verb.RemoveRepo repo from digest range number body = Some (RemoveRepo repo)
command_of_verb verb.Lease repo from digest range number body = Some (Lease repo digest)
command_of_verb _ repo from digest range number body = None

-- the command of a verb with these fields, or the refusal of the first malformed one that the verb uses, in this order
abbrev pub command_from : Verb → (repo source digest : Text) → Result (Option ByteRange) Refusal → Option ℕ → Text → Result (Option Command) Refusal
command_from verb repo source digest range number body = do
  repo ← used_field (uses_repo verb) [] (repo_in repo)
  from ← used_field (uses_source verb) None (source_in source)
  digest ← used_field (uses_digest verb) [] (digest_in digest)
  range ← used_field (uses_range verb) None range
  Ok (command_of_verb verb repo from digest range number body)
