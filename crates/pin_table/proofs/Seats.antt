-- Facts about the keeper's seat and rows that follow from a call's preconditions.
use Rattle.std.proofs.Common.{◌≡◌, ℕ, ◌<◌, List, length, get_or, set, refl, sym, ap, ◌∙◌, subst, arith}
use Rattle.std.proofs.lemmas.Option.{get_or_from_slice_get, slice_get_read}
use Rattle.atomic_table.specs.Seated.{TableId}
use Rattle.pin_core.specs.declared.world.PinRow.{PinRow}
use Rattle.pin_core.specs.declared.world.PinRecord.{PinRecord}
use Rattle.pin_core.specs.World.{no_row, row}
use Rattle.pin_table.specs.Rule.{with_added}
use Rattle.pin_table.specs.Calls.{KeeperValue, VerifiesPin, after_look}

-- the keeper's table is t, and its rows are those that contracts see, the slot k among them
pub record Sits (z t : TableId) (rs : List PinRow) (s : KeeperValue) (k : ℕ) : Type 0 where
  pub table : z ≡ t
  pub word : k < t.words
  pub within : k < length rs
  pub phase : (row rs k).phase ≡ (row s.rows k).phase
  pub rows : rs ≡ s.rows

pub sits : (z t : TableId) (rs : List PinRow) (bs ls ts : List ℕ) (s : KeeperValue) (k : ℕ) → record { table = z; rows = rs; bounds = bs; looks = ls; lent = ts } ≡ s → s.table ≡ t → z.words ≡ length rs → k < length s.rows → Sits z t rs s k
sits z t rs bs ls ts s k is named words l =
    let same : z ≡ t = ap (λ (x : KeeperValue). x.table) is ∙ named in
    let rows : rs ≡ s.rows = ap (λ (x : KeeperValue). x.rows) is in
    let len : length rs ≡ length s.rows = ap (λ r. length r) rows in
    let w : t.words ≡ length rs = ap (λ (x : TableId). x.words) (sym same) ∙ words in
    record { table = same; word = omega arith; within = omega arith; phase = ap (λ r. (row r k).phase) rows; rows = rows }

-- a row that was read
pub read_row : (rs : List PinRow) (k : ℕ) (r : PinRow) → k < length rs → r ≡ get_or rs k r → row rs k ≡ r
read_row rs k r l is = get_or_from_slice_get rs k r no_row (slice_get_read rs (length rs) k r refl l is)

-- the keeper, after its table and lists were named anew
pub keeper_is : (z y : TableId) (rs : List PinRow) (bs cs ls ms ts us : List ℕ) (s : KeeperValue) (k b : ℕ) → record { table = z; rows = rs; bounds = bs; looks = ls; lent = ts } ≡ s → y ≡ z → cs ≡ set bs k b → ms ≡ with_added k 1 ls → us ≡ ts
    → record { table = y; rows = rs; bounds = cs; looks = ms; lent = us } ≡ after_look k b s
keeper_is z y rs bs cs ls ms ts us s k b is same to counts out =
    let start : KeeperValue = record { table = z; rows = rs; bounds = bs; looks = ls; lent = ts } in
    let first : record { table = y; rows = rs; bounds = cs; looks = ms; lent = us } ≡ after_look k b start = λ i. record { table = same i; rows = rs; bounds = to i; looks = counts i; lent = out i } in
    first ∙ ap (λ x. after_look k b x) is

pub verified : (h g : PinRecord) (s t : KeeperValue) → h ≡ g → VerifiesPin h s t → VerifiesPin g s t
verified h g s t e v = subst (λ x. VerifiesPin x s t) e v
