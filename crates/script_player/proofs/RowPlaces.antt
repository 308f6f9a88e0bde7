-- Rows whose fields are stored in one text, when the text grows.
use Rattle.std.proofs.Common.{◌≡◌, ◌≤◌, ◌-◌, ◌∙◌, ◌++◌, ◌∷◌, [], ℕ, List, true, ap, append_assoc, arith, drop, length, length-append, map, refl, sym, take}
use Rattle.std.specs.Prelude.{slice_range}
use Rattle.std.specs.List.{All}
use Rattle.std.proofs.lemmas.List.{append-nil, drop-append-le, take-append-le, length-drop}
use Rattle.std.proofs.lemmas.List.Elements.{All-head, All-tail, All-weaker}
use Rattle.std.proofs.Math.Seq.{drop-append_seam, take-append_seam}
use Rattle.spec_lib.specs.Texts.{Text}
use Rattle.script_player.specs.RowPlaces.{IsExtendedTo, ArePlacesWithin, row_at_places}
use Rattle.script_player.specs.Rows.{RowView, has_needed_fields}
use Rattle.script_player.specs.declared.places.Places.{Places}

pub begins_same : (text : Text) → IsExtendedTo text text
begins_same text = ([], sym (append-nil text))

pub begins_through : (a b c : Text) → IsExtendedTo a b → IsExtendedTo b c → IsExtendedTo a c
begins_through a b c first second = (first.0 ++ second.0, second.1 ∙ ap (λ t. t ++ second.0) first.1 ∙ append_assoc a first.0 second.0)

-- a field of a text is the same in a longer text
slice_kept : (a b : Text) → IsExtendedTo a b → (from to : ℕ) → from ≤ to → to ≤ length a → slice_range b from to ≡ slice_range a from to
slice_kept a b begins from to rises within =
    let from_within : from ≤ length a = omega (arith, rises, within) in
    let size = length-drop from a in
    let enough : to - from ≤ length (drop from a) = omega (arith, size, within) in
    ap (λ t. slice_range t from to) begins.1 ∙ ap (take (to - from)) (drop-append-le from a begins.0 from_within) ∙ take-append-le (to - from) (drop from a) begins.0 enough

-- a row of a text is the same in a longer text
pub row_kept : (a b : Text) → IsExtendedTo a b → (at : Places) → ArePlacesWithin a at → row_at_places b at ≡ row_at_places a at
row_kept a b begins at within =
    let repo = slice_kept a b begins at.start at.repo within.repo (omega (arith, within.key, within.digest, within.range, within.body, within.all)) in
    let key = slice_kept a b begins at.repo at.key within.key (omega (arith, within.digest, within.range, within.body, within.all)) in
    let digest = slice_kept a b begins at.key at.digest within.digest (omega (arith, within.range, within.body, within.all)) in
    let range = slice_kept a b begins at.digest at.range within.range (omega (arith, within.body, within.all)) in
    let body = slice_kept a b begins at.range at.body within.body within.all in
    rw (repo, key, digest, range, body) refl

pub within_kept : (a b : Text) → IsExtendedTo a b → (at : Places) → ArePlacesWithin a at → ArePlacesWithin b at
within_kept a b begins at within =
    let size = ap length begins.1 ∙ length-append a begins.0 in
    record {
      repo = within.repo;
      key = within.key;
      digest = within.digest;
      range = within.range;
      body = within.body;
      all = omega (arith, size, within.all);
      fit = ap (λ (r : RowView). has_needed_fields r.verb r.repo r.key r.digest r.range r.body) (row_kept a b begins at within) ∙ within.fit;
    }

-- all rows of a text are the same in a longer text
pub rows_kept : (a b : Text) → IsExtendedTo a b → (all : List Places) → All (ArePlacesWithin a) all → map (row_at_places b) all ≡ map (row_at_places a) all
rows_kept a b begins [] within = refl
rows_kept a b begins (at ∷ all) within =
    let first = row_kept a b begins at (All-head (ArePlacesWithin a) at all within) in
    let rest = rows_kept a b begins all (All-tail (ArePlacesWithin a) at all within) in
    ap (λ r. r ∷ map (row_at_places b) all) first ∙ ap (λ rs. row_at_places a at ∷ rs) rest

pub all_kept : (a b : Text) → IsExtendedTo a b → (all : List Places) → All (ArePlacesWithin a) all → All (ArePlacesWithin b) all
all_kept a b begins all within = All-weaker (ArePlacesWithin a) (ArePlacesWithin b) (within_kept a b begins) all within

-- an appended field is between the end of the text without it and the end of the text with it
field_added : (old field : Text) → slice_range (old ++ field) (length old) (length (old ++ field)) ≡ field
field_added old field =
    let size = length-append old field in
    let rest : length (old ++ field) - length old ≡ length field = omega (arith, size) in
    ap (take (length (old ++ field) - length old)) (drop-append_seam old field) ∙ ap (λ n. take n field) rest ∙ ap (take (length field)) (sym (append-nil field)) ∙ take-append_seam field []

-- an appended field is the same in a longer text
field_lies : (before after all field : Text) (from to : ℕ) → after ≡ before ++ field → from ≡ length before → to ≡ length after → IsExtendedTo after all → slice_range all from to ≡ field
field_lies before after all field from to added begin end begins =
    let size = ap length added ∙ length-append before field in
    let rises : length before ≤ length after = omega (arith, size) in
    let here : slice_range after (length before) (length after) ≡ field = rw added (field_added before field) in
    rw (begin, end) (slice_kept after all begins (length before) (length after) rises (omega arith) ∙ here)

-- a row's fields were appended, one after another
pub row_added : (at : Places) (row : RowView) (none repo key digest range body : Text) → at.lane ≡ row.lane → at.verb ≡ row.verb → has_needed_fields row.verb row.repo row.key row.digest row.range row.body ≡ true
    → repo ≡ none ++ row.repo → key ≡ repo ++ row.key → digest ≡ key ++ row.digest → range ≡ digest ++ row.range → body ≡ range ++ row.body
    → at.start ≡ length none → at.repo ≡ length repo → at.key ≡ length key → at.digest ≡ length digest → at.range ≡ length range → at.body ≡ length body → ArePlacesWithin body at × (row_at_places body at ≡ row)
row_added at row none repo key digest range body lane verb fit repo_is key_is digest_is range_is body_is start repo_end key_end digest_end range_end body_end =
    let last : IsExtendedTo range body = (row.body, body_is) in
    let from_digest : IsExtendedTo digest body = begins_through digest range body (row.range, range_is) last in
    let from_key : IsExtendedTo key body = begins_through key digest body (row.digest, digest_is) from_digest in
    let from_repo : IsExtendedTo repo body = begins_through repo key body (row.key, key_is) from_key in
    let repo_lies = field_lies none repo body row.repo at.start at.repo repo_is start repo_end from_repo in
    let key_lies = field_lies repo key body row.key at.repo at.key key_is repo_end key_end from_key in
    let digest_lies = field_lies key digest body row.digest at.key at.digest digest_is key_end digest_end from_digest in
    let range_lies = field_lies digest range body row.range at.digest at.range range_is digest_end range_end last in
    let body_lies = field_lies range body body row.body at.range at.body body_is range_end body_end (begins_same body) in
    let same : row_at_places body at ≡ row = rw (lane, verb, repo_lies, key_lies, digest_lies, range_lies, body_lies) refl in
    let repo_size = ap length repo_is ∙ length-append none row.repo in
    let key_size = ap length key_is ∙ length-append repo row.key in
    let digest_size = ap length digest_is ∙ length-append key row.digest in
    let range_size = ap length range_is ∙ length-append digest row.range in
    let body_size = ap length body_is ∙ length-append range row.body in (
      record {
        repo = omega (arith, start, repo_end, repo_size);
        key = omega (arith, repo_end, key_end, key_size);
        digest = omega (arith, key_end, digest_end, digest_size);
        range = omega (arith, digest_end, range_end, range_size);
        body = omega (arith, range_end, body_end, body_size);
        all = omega (arith, body_end);
        fit = ap (λ (r : RowView). has_needed_fields r.verb r.repo r.key r.digest r.range r.body) same ∙ fit;
      },
      same,
    )
