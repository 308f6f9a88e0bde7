-- The row of a record of a script.
use Rattle.std.specs.Prelude.{ℕ, ◌==◌, ◌&&◌, List, [], length, nat_le, if◌then◌else◌, Option, Some, None, option_map, option_and_then, unwrap_or, codes}
use Rattle.std.specs.Str.{bytes_eq}
use Rattle.csv.specs.Records.{field_at}
use Rattle.spec_lib.specs.Texts.{Text}
use Rattle.blob_digest.specs.Ranges.{number_of}
use Rattle.script_player.specs.Rows.{RowView, has_needed_fields}
use Rattle.store_api.specs.declared.verb.Verb.{Verb}
use Rattle.store_api.specs.declared.verb.Verb.TheVariants.{Start, Status, Append, Close, Abandon, Mount, Delete, PutManifest, GetManifest, DeleteManifest, Lease, Read, Share, Verify, GiveBack, Sweep}

-- a record: the bytes of its fields
abbrev pub Record : Type 0
Record = List Text

-- the field at a place, counted from 0
abbrev pub field_or_empty : Record → ℕ → Text
field_or_empty fields i = unwrap_or (field_at fields i) []

-- the command of a name
abbrev pub verb_of : Text → Option Verb
verb_of name =
    if bytes_eq name (codes "start") then Some Start
    else if bytes_eq name (codes "status") then Some Status
    else if bytes_eq name (codes "append") then Some Append
    else if bytes_eq name (codes "close") then Some Close
    else if bytes_eq name (codes "abandon") then Some Abandon
    else if bytes_eq name (codes "mount") then Some Mount
    else if bytes_eq name (codes "delete") then Some Delete
    else if bytes_eq name (codes "put_manifest") then Some PutManifest
    else if bytes_eq name (codes "get_manifest") then Some GetManifest
    else if bytes_eq name (codes "delete_manifest") then Some DeleteManifest
    else if bytes_eq name (codes "lease") then Some Lease
    else if bytes_eq name (codes "read") then Some Read
    else if bytes_eq name (codes "share") then Some Share
    else if bytes_eq name (codes "verify") then Some Verify
    else if bytes_eq name (codes "give_back") then Some GiveBack
    else if bytes_eq name (codes "sweep") then Some Sweep
    else None

-- a lane: one to three decimal digits of a value up to 255
abbrev pub lane_of : Text → Option ℕ
lane_of text = option_and_then (λ n. if nat_le (length text) 3 && nat_le n 255 then Some n else None) (number_of text)

-- the lane and the command of a record of seven fields
abbrev pub head_of : Record → Option (ℕ × Verb)
head_of fields = if length fields == 7 then option_and_then (λ lane. option_map (λ verb. (lane, verb)) (verb_of (field_or_empty fields 1))) (lane_of (field_or_empty fields 0)) else None

abbrev pub row_of_head : Record → ℕ × Verb → Option RowView
row_of_head fields head =
    if has_needed_fields head.1 (field_or_empty fields 2) (field_or_empty fields 3) (field_or_empty fields 4) (field_or_empty fields 5) (field_or_empty fields 6)
    then Some (record { lane = head.0; verb = head.1; repo = field_or_empty fields 2; key = field_or_empty fields 3; digest = field_or_empty fields 4; range = field_or_empty fields 5; body = field_or_empty fields 6 })
    else None

-- the row of a record, or `None` if the record is bad
abbrev pub row_of : Record → Option RowView
row_of fields = option_and_then (row_of_head fields) (head_of fields)
