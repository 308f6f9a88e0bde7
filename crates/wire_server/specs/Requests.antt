-- The commands and ranges that requests spell.
use Rattle.std.specs.Prelude.{ℕ, ◌%◌, ◌==◌, ◌^◌, ◌-◌, if◌then◌else◌, Bool, true, false, Option, Some, None, Result, Ok}
use Rattle.blob_digest.specs.declared.range.ByteRange.{ByteRange}
use Rattle.blob_digest.specs.declared.refusal.Refusal.{Refusal}
use Rattle.wire_format.specs.Frames.{body_of, digest_of, repo_of, source_of}
use Rattle.wire_format.specs.declared.request.Head.{Head}
use Rattle.wire_format.specs.declared.request.RequestFrame.{RequestFrame}
use Rattle.spec_lib.specs.Texts.{Text}
use Rattle.store_api.specs.Commands.{Command, command_from, range_of_ends}
use Rattle.store_api.specs.declared.verb.Verb.{Verb}
use Rattle.store_api.specs.declared.verb.Verb.TheVariants as verb

-- the verb that a request's first byte names, if any
abbrev pub verb_of : ℕ → Option Verb
verb_of n =
    if n == 1 then Some verb.Start
    else if n == 2 then Some verb.Status
    else if n == 3 then Some verb.Append
    else if n == 4 then Some verb.Close
    else if n == 5 then Some verb.Abandon
    else if n == 6 then Some verb.Mount
    else if n == 7 then Some verb.Delete
    else if n == 8 then Some verb.PutManifest
    else if n == 9 then Some verb.GetManifest
    else if n == 10 then Some verb.DeleteManifest
    else if n == 11 then Some verb.Lease
    else if n == 12 then Some verb.Read
    else if n == 13 then Some verb.GiveBack
    else if n == 14 then Some verb.Sweep
    else if n == 22 then Some verb.RemoveRepo
    else None

-- whether a request for the verb has a field to spell
abbrev pub verb_has_fields : Option Verb → Bool
verb_has_fields None = false
verb_has_fields (Some verb.GiveBack) = false
verb_has_fields (Some verb.Sweep) = false
verb_has_fields (Some verb) = true

-- the range that a head names, or none if its flag is not set
abbrev pub range_of : Head → Result (Option ByteRange) Refusal
range_of h = if h.flags % 2 == 1 then range_of_ends (Some (h.start, h.end)) else Ok None

-- the command that a head and its payload spell, by the rules of a script's row
abbrev pub request_command : Verb → Head → Text → Result (Option Command) Refusal
request_command verb h payload = command_from verb (repo_of h payload) (source_of h payload) (digest_of h payload) (range_of h) (Some h.number) (body_of h payload)

-- the command that a request frame spells
abbrev pub command_in : Verb → RequestFrame → Result (Option Command) Refusal
command_in verb request = request_command verb request.head request.payload.now

-- the number of a fetch
abbrev pub fetch_number : ℕ
fetch_number = 21

-- the number of a request for the place of a leased blob's bytes
abbrev pub locate_number : ℕ
locate_number = 26

-- the length of the longest piece that a fetch replies
abbrev pub max_fetched : ℕ
max_fetched = 2 ^ 20

-- the first and the last place that a read names: those of the range, or those of every blob
abbrev pub ends_of : Option ByteRange → ℕ × ℕ
ends_of None = (0, 2 ^ 63 - 1)
ends_of (Some range) = (range.start, range.end)
