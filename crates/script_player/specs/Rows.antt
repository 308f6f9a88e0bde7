-- The row of a script, and the fields that a command needs.
use Rattle.std.specs.Prelude.{ℕ, ◌==◌, ◌&&◌, length, Bool, true, false, nat_le, if◌then◌else◌, Option, Some, None, option_and_then, is_some}
use Rattle.std.specs.List.{list_all}
use Rattle.spec_lib.specs.Texts.{Text}
use Rattle.blob_digest.specs.Names.{is_alnum}
use Rattle.blob_digest.specs.Ranges.{number_of}
use Rattle.store_api.specs.declared.verb.Verb.{Verb}
use Rattle.store_api.specs.declared.verb.Verb.TheVariants.{Start, Status, Append, Close, Abandon, Mount, Delete, PutManifest, GetManifest, DeleteManifest, RemoveRepo, Lease, Read, Share, Verify, GiveBack, Sweep}

-- a row; its key is a session's number, a source or the name of a lease
pub record RowView : Type 0 where
  pub lane : ℕ
  pub verb : Verb
  pub repo : Text
  pub key : Text
  pub digest : Text
  pub range : Text
  pub body : Text

-- the number of a session: one to ten decimal digits of a value from 1 to 4294967295
abbrev pub session_number : Text → Option ℕ
session_number text = option_and_then (λ n. if nat_le (length text) 10 && (nat_le 1 n && nat_le n 4294967295) then Some n else None) (number_of text)

-- whether a text is a lease's name: 1 to 32 lower-case letters and digits
abbrev pub is_lease_name : Text → Bool
is_lease_name text = nat_le 1 (length text) && nat_le (length text) 32 && list_all is_alnum text

-- whether a command's row names a lease by its key
abbrev pub names_lease : Verb → Bool
names_lease Lease = true
names_lease Read = true
names_lease Share = true
names_lease Verify = true
names_lease GiveBack = true
names_lease _ = false

-- whether a text is empty
abbrev pub is_empty : Text → Bool
is_empty text = length text == 0

-- whether a command has the fields that it needs, and no field that it does not use
abbrev pub has_needed_fields : Verb → Text → Text → Text → Text → Text → Bool
has_needed_fields Start repo key digest range body = is_empty key && is_empty digest && is_empty range && is_empty body
has_needed_fields Status repo key digest range body = is_some (session_number key) && is_empty digest && is_empty range && is_empty body
has_needed_fields Append repo key digest range body = is_some (session_number key) && is_empty digest
has_needed_fields Close repo key digest range body = is_some (session_number key)
has_needed_fields Abandon repo key digest range body = is_some (session_number key) && is_empty digest && is_empty range && is_empty body
has_needed_fields Mount repo key digest range body = is_empty range && is_empty body
has_needed_fields Delete repo key digest range body = is_empty key && is_empty range && is_empty body
has_needed_fields PutManifest repo key digest range body = is_empty key && is_empty digest && is_empty range
has_needed_fields GetManifest repo key digest range body = is_empty key && is_empty range && is_empty body
has_needed_fields DeleteManifest repo key digest range body = is_empty key && is_empty range && is_empty body
has_needed_fields RemoveRepo repo key digest range body = is_empty key && is_empty digest && is_empty range && is_empty body
has_needed_fields Lease repo key digest range body = is_lease_name key && is_empty range && is_empty body
has_needed_fields Read repo key digest range body = is_lease_name key && is_empty repo && is_empty digest && is_empty body
has_needed_fields Share repo key digest range body = is_lease_name key && is_lease_name body && is_empty repo && is_empty digest && is_empty range
has_needed_fields Verify repo key digest range body = is_lease_name key && is_empty repo && is_empty digest && is_empty range && is_empty body
has_needed_fields GiveBack repo key digest range body = is_lease_name key && is_empty repo && is_empty digest && is_empty range && is_empty body
has_needed_fields Sweep repo key digest range body = is_empty repo && is_empty key && is_empty digest && is_empty range && is_empty body
