-- The records of hands that were filled, and whether they have notes.
use Rattle.std.proofs.Common.{◌≡◌, ◌+◌, ◌∙◌, ℕ, Bool, Option, Some, None, Ok, [], ◌∷◌, ap, length, refl, sym}
use Rattle.std.specs.List.{sum_by}
use Rattle.std.specs.Option.{option_map}
use Rattle.blob_digest.specs.Names.{tenant_name}
use Rattle.content_files.specs.Chunks.{is_in_file}
use Rattle.content_files.specs.declared.home.Home.{Home}
use Rattle.log_records.specs.Records.{record_bytes}
use Rattle.spec_lib.specs.Texts.{Text}
use Rattle.spec_lib.proofs.Outcomes.{bound_ok}
use Rattle.blob_digest.specs.Outcomes.{DoesExactly}
use Rattle.blob_digest.specs.declared.range.ByteRange.{ByteRange}
use Rattle.store_model.specs.Catalog.{HandRecord}
use Rattle.store_model.specs.Commands as commands
use Rattle.store_model.specs.Sessions.{hand_in}
use Rattle.locked_book.specs.Counting.{StoreContent, take_outcome}
use Rattle.locked_book.proofs.Counted.{paired, takes}
use Rattle.locked_book.specs.Logging.{IsHandOf, check_in_bytes, chunk_bytes, finish_bytes, is_beyond, logged_by, logged_chunk, logged_seal, seal_bytes}
use Rattle.locked_book.specs.declared.policy.LogPolicy.{LogPolicy}

-- a content of a length lies in its home's file if it is longer than the longest one in memory
pub in_file : (home : Option Home) (longest : Option ℕ) (len : ℕ) → option_map (λ (h : Home). h.longest) home ≡ longest → is_in_file home len ≡ is_beyond longest len
in_file None longest len is = ap (λ l. is_beyond l len) is
in_file (Some home) longest len is = ap (λ l. is_beyond l len) is

-- a hand that was checked out has its reserve, and no chunk fills it
pub taken_open : (k k' : StoreContent) (repo : Text) (number : ℕ) (range : Option ByteRange) (len : ℕ) (hand : HandRecord) → DoesExactly {A = HandRecord} (λ h. h) (Ok hand) k k' (take_outcome repo number range len k) →
    (hand.reserved ≡ len) × (hand.last ≡ None)
taken_open k k' repo number range len hand does =
    let C = k.book.catalog in
    let C' = k'.book.catalog in
    let step = takes k k' repo number range len (Ok hand) does in
    let known = bound_ok (commands.tenant C repo) _ (hand, C') step.leaves in
    let checked = bound_ok (commands.chunk_length_check C known.0 repo number range len) _ (hand, C') known.2 in
    let paid = bound_ok (commands.check_quota C known.0 len) _ (hand, C') checked.2 in
    let same : hand_in C.sessions (known.0, number) len ≡ hand = (paired (hand_in C.sessions (known.0, number) len) hand (record C { sessions = commands.after_take_in C.sessions (known.0, number) len }) C' paid.2).0 in
    (ap (λ (h : HandRecord). h.reserved) (sym same), ap (λ (h : HandRecord). h.last) (sym same))

-- a hand that was filled and emptied again is the one that was checked out
pub emptied : (taken filled empty : HandRecord) (bytes : Text) → taken.last ≡ None → filled ≡ record taken { last = Some bytes } → empty ≡ record filled { last = None } → empty ≡ taken
emptied taken filled empty bytes unfilled full is = is ∙ ap (λ (h : HandRecord). record h { last = None }) full ∙ (λ i. record taken { last = sym unfilled i })

module _ (p : LogPolicy) (longest : Option ℕ) (h : HandRecord) (repo : Text) (number : ℕ) (noted : Bool) (of : IsHandOf repo number h) where
  -- the record of a chunk is that of the check-in of a hand that it fills
  pub check_in_recorded : (bytes : Text) → noted ≡ is_beyond longest (sum_by length h.chunks + length bytes) →
      chunk_bytes p noted (tenant_name repo) number bytes ≡ check_in_bytes p longest (record h { last = Some bytes })
  check_in_recorded [] is = refl
  check_in_recorded (b ∷ bytes) is = λ i. logged_by p (record_bytes (logged_chunk (is i) (tenant_name (sym of.0 i)) (sym of.1 i) (b ∷ bytes)))

  -- the record of a close is that of the finish of a hand that its last chunk fills
  pub finish_recorded : (digest bytes : Text) → noted ≡ is_beyond longest (sum_by length h.chunks + length bytes) →
      seal_bytes p noted (tenant_name repo) number digest bytes ≡ finish_bytes p longest (record h { last = Some bytes }) digest
  finish_recorded digest bytes is = λ i. logged_by p (record_bytes (logged_seal (is i) (tenant_name (sym of.0 i)) (sym of.1 i) digest bytes))
