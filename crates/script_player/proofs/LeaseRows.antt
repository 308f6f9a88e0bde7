-- The lease names of a row have at most 32 bytes.
use Rattle.std.proofs.Common.{◌≡◌, ◌&&◌, ◌≤◌, ◌∙◌, Bool, false, true, length, refl, sym}
use Rattle.std.specs.Prelude.{nat_le}
use Rattle.std.specs.List.{list_all}
use Rattle.std.proofs.lemmas.Bool.{and_parts, false≢true, leb-true}
use Rattle.spec_lib.specs.Texts.{Text}
use Rattle.blob_digest.specs.Names.{is_alnum}
use Rattle.script_player.specs.Rows.{has_needed_fields, is_empty, is_lease_name, names_lease}
use Rattle.script_player.specs.declared.row.BorrowedRow.{BorrowedRow}
use Rattle.store_api.specs.declared.verb.Verb.{Verb}
use Rattle.store_api.specs.declared.verb.Verb.TheVariants as verb

name_within : (text : Text) → is_lease_name text ≡ true → length text ≤ 32
name_within text h =
    let sizes = and_parts (nat_le 1 (length text) && nat_le (length text) 32) (list_all is_alnum text) h in
    leb-true (length text) 32 (and_parts (nat_le 1 (length text)) (nat_le (length text) 32) sizes.0).1

-- a conjunct holds if the test of a conjunction does
needed : (b : Bool) (test : Bool → Bool) → test false ≡ false → test b ≡ true → b ≡ true
needed true test needs h = refl
needed false test needs h = absurd (false≢true (sym needs ∙ h))

key_is_name : (v : Verb) (repo key digest range body : Text) → names_lease v ≡ true → has_needed_fields v repo key digest range body ≡ true → is_lease_name key ≡ true
key_is_name verb.Lease repo key digest range body names h = needed (is_lease_name key) (λ b. b && is_empty range && is_empty body) refl h
key_is_name verb.Read repo key digest range body names h = needed (is_lease_name key) (λ b. b && is_empty repo && is_empty digest && is_empty body) refl h
key_is_name verb.Share repo key digest range body names h = needed (is_lease_name key) (λ b. b && is_lease_name body && is_empty repo && is_empty digest && is_empty range) refl h
key_is_name verb.Verify repo key digest range body names h = needed (is_lease_name key) (λ b. b && is_empty repo && is_empty digest && is_empty range && is_empty body) refl h
key_is_name verb.GiveBack repo key digest range body names h = needed (is_lease_name key) (λ b. b && is_empty repo && is_empty digest && is_empty range && is_empty body) refl h
key_is_name _ repo key digest range body names h = absurd (false≢true names)

second_is_name : (repo key digest range body : Text) → has_needed_fields verb.Share repo key digest range body ≡ true → is_lease_name body ≡ true
second_is_name repo key digest range body h =
    let both = needed (is_lease_name key && is_lease_name body) (λ b. b && is_empty repo && is_empty digest && is_empty range) refl h in
    (and_parts (is_lease_name key) (is_lease_name body) both).1

-- the key of a row about a lease has at most 32 bytes
pub key_within : (row : BorrowedRow) → names_lease row.verb ≡ true → length row.key.now ≤ 32
key_within row names = name_within row.key.now (key_is_name row.verb row.repo.now row.key.now row.digest.now row.range.now row.body.now names row.fit)

-- the body of a row that shares a lease has at most 32 bytes
pub body_within : (row : BorrowedRow) → row.verb ≡ verb.Share → length row.body.now ≤ 32
body_within row is = name_within row.body.now (second_is_name row.repo.now row.key.now row.digest.now row.range.now row.body.now (rw is at row.fit))
