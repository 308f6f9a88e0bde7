-- An event that can happen keeps each pin's slot used and its own.
use Rattle.std.proofs.Common.{◌≡◌, ◌≢◌, ◌⊎◌, ℕ, ◌+◌, ◌≤◌, ◌<◌, List, [], ◌∷◌, map, length, set, Bool, true, false, cond, not, Option, Some, None, refl, sym, ap, ◌∙◌, subst, inl, inr, ⊎_elim, get_or, zero, suc, arith}
use Rattle.std.specs.Prelude.{◌==◌}
use Rattle.std.specs.List.{All}
use Rattle.std.proofs.lemmas.List.{length-set, get_or-set_other}
use Rattle.std.proofs.lemmas.Grind.{get_or-set_at}
use Rattle.std.proofs.lemmas.List.Elements.{All-nil, All-cons, All-head, All-tail, All-set, All-replicate, All-get_or}
use mathlib.Core.Logic.{dite}
use native.Mathlib.Decide.{ℕ_discrete}
use Rattle.pin_core.specs.declared.world.Phase.{Phase}
use Rattle.pin_core.specs.declared.world.Phase.TheVariants.{Free, Live, Condemned, Retired}
use Rattle.pin_core.specs.declared.world.PinRow.{PinRow}
use Rattle.pin_core.specs.declared.world.PinRecord.{PinRecord}
use Rattle.pin_core.specs.declared.world.PinEntry.{PinEntry}
use Rattle.pin_core.specs.declared.event.Event.{Event}
use Rattle.pin_core.specs.declared.event.Event.TheVariants.{Give, Lend, Share, Leave, Condemn, Revive, Reclaim, Look, Verify}
use Rattle.spec_lib.specs.Texts.{Text}
use Rattle.pin_core.specs.World.{PinWorld, IsValidPin, HasDigest, IsState, IsUsed, IsWeight, max_weight, hold_named, holds_of, initial_world, row, no_row}
use Rattle.pin_core.specs.Events.{Can, after, with_row, half, half_if_named, second, named_entry, lent_hold, digest_or, given_row, in_phase, reclaimed_row}
use Rattle.pin_core.proofs.Names.{hold_in, all_named, all_map, all_filter, all_push, clear_holds, named_push, named_filter, named_shared}
use Rattle.pin_core.proofs.Weights.{lent_fits, filter_fits}
use Rattle.pin_core.proofs.Shares.{shared_weights, shared_sum}

module _ {X : Type 0} (P : X → Type 0) where
  pub all_each : (Q : X → Type 0) → ((x : X) → P x → Q x) → (xs : List X) → All P xs → All Q xs
  all_each Q f [] a = All-nil Q
  all_each Q f (x ∷ xs) a = All-cons Q x xs (f x (All-head P x xs a)) (all_each Q f xs (All-tail P x xs a))

  pub all_both : (Q R : X → Type 0) → ((x : X) → P x → Q x → R x) → (xs : List X) → All P xs → All Q xs → All R xs
  all_both Q R f [] a b = All-nil R
  all_both Q R f (x ∷ xs) a b = All-cons R x xs (f x (All-head P x xs a) (All-head Q x xs b)) (all_both Q R f xs (All-tail P x xs a) (All-tail Q x xs b))

-- of a slot, what a row has to keep for the pins on it
pub record Same (p r : PinRow) : Type 0 where
  pub used : IsUsed p.phase → IsUsed r.phase
  pub generation : r.generation ≡ p.generation
  pub digest : r.digest ≡ p.digest

keeps_at : (rs rs' : List PinRow) (h : PinRecord) → length rs' ≡ length rs → IsValidPin rs h → Same (row rs h.slot) (row rs' h.slot) → IsValidPin rs' h
keeps_at rs rs' h len keeps same =
    let t : h.slot < length rs = keeps.there in
    record { there = omega arith; used = same.used keeps.used; generation = same.generation ∙ keeps.generation; digest = same.digest ∙ keeps.digest }

as_it_was : (p r : PinRow) → r ≡ p → Same p r
as_it_was p r e = record { used = λ u. subst (λ (x : PinRow). IsUsed x.phase) (sym e) u; generation = ap (λ (x : PinRow). x.generation) e; digest = ap (λ (x : PinRow). x.digest) e }

pub keeps_same : (rs : List PinRow) (k : ℕ) (r : PinRow) (hs : List PinRecord) → k < length rs → Same (row rs k) r → All (IsValidPin rs) hs → All (IsValidPin (set rs k r)) hs
keeps_same rs k r hs l same = all_each (IsValidPin rs) (IsValidPin (set rs k r)) (λ h keeps. keeps_at rs (set rs k r) h (length-set rs k r) keeps (dite (ℕ_discrete h.slot k)
    (λ e. let here = get_or-set_at rs k h.slot r no_row e l in
    subst (λ x. Same (row rs h.slot) x) (sym here) (subst (λ j. Same (row rs j) r) (sym e) same))
    (λ ne. as_it_was (row rs h.slot) (row (set rs k r) h.slot) (get_or-set_other rs k h.slot r no_row ne)))) hs

pub keeps_else : (rs : List PinRow) (k : ℕ) (r : PinRow) (hs : List PinRecord) → All (λ h. h.slot ≢ k) hs → All (IsValidPin rs) hs → All (IsValidPin (set rs k r)) hs
keeps_else rs k r hs none all = all_both (λ h. h.slot ≢ k) (IsValidPin rs) (IsValidPin (set rs k r))
    (λ h ne keeps. keeps_at rs (set rs k r) h (length-set rs k r) keeps (as_it_was (row rs h.slot) (row (set rs k r) h.slot) (get_or-set_other rs k h.slot r no_row ne))) hs none all

pub unused : (rs : List PinRow) (k : ℕ) (hs : List PinRecord) → (IsUsed (row rs k).phase → ⊥) → All (IsValidPin rs) hs → All (λ h. h.slot ≢ k) hs
unused rs k hs never = all_each (IsValidPin rs) (λ h. h.slot ≢ k) (λ h keeps e. never (subst (λ j. IsUsed (row rs j).phase) e keeps.used)) hs

half_keeps : (rs : List PinRow) (h : PinRecord) → IsValidPin rs h → IsValidPin rs (half h)
half_keeps rs h k = record { there = k.there; used = k.used; generation = k.generation; digest = k.digest }

halve_keeps : (rs : List PinRow) (n : ℕ) (e : PinEntry) → IsValidPin rs e.hold → IsValidPin rs (half_if_named n e).hold
halve_keeps rs n e k = by_name (e.name == n)
  where
    by_name : (b : Bool) → IsValidPin rs (cond b (named_entry e.name (half e.hold)) e).hold
    by_name true = half_keeps rs e.hold k
    by_name false = k

second_keeps : (rs : List PinRow) (n m : ℕ) (es : List PinEntry) → All (IsValidPin rs) (map hold_in es) → (o : Option PinRecord) → hold_named n es ≡ o → All (IsValidPin rs) (map hold_in (second m o))
second_keeps rs n m es a None e = All-nil (IsValidPin rs)
second_keeps rs n m es a (Some h) e = All-cons (IsValidPin rs) (half h) [] (half_keeps rs h (all_named (IsValidPin rs) es n h e a)) (All-nil (IsValidPin rs))

-- a free slot isn't used
pub free_unused : (p : Phase) → p ≡ Free → IsUsed p → ⊥
free_unused p e u = subst (λ (x : Phase). IsUsed x) e u

live_used : (p : Phase) → p ≡ Live → IsUsed p
live_used p e = subst (λ (x : Phase). IsUsed x) (sym e) tt

dead_used : (p : Phase) → p ≡ Condemned → IsUsed p
dead_used p e = subst (λ (x : Phase). IsUsed x) (sym e) tt

new_keeps : (rs : List PinRow) (k : ℕ) → k < length rs → (row rs k).phase ≡ Live → All HasDigest rs → IsValidPin rs (lent_hold k (row rs k))
new_keeps rs k l live all =
    let u = live_used (row rs k).phase live in
    let d = (All-get_or HasDigest rs k no_row l all).0 u in
    record { there = l; used = u; generation = refl; digest = d.1 ∙ ap (λ o. Some (digest_or o)) (sym d.1) }

reclaimed_unused : (r : PinRow) → HasDigest (reclaimed_row r)
reclaimed_unused r = by_test (r.generation == 4294967295)
  where
    by_test : (b : Bool) → HasDigest (cond b (record { generation = r.generation; phase = Retired; digest = None }) (record { generation = r.generation + 1; phase = Free; digest = None }))
    by_test true = ((λ u. absurd u), (λ _. refl))
    by_test false = ((λ u. absurd u), (λ _. refl))

phased : (rs : List PinRow) (k : ℕ) (p : Phase) → k < length rs → IsUsed p → IsUsed (row rs k).phase → All HasDigest rs → HasDigest (in_phase p (row rs k))
phased rs k p l used u all = ((λ _. (All-get_or HasDigest rs k no_row l all).0 u), (λ never. absurd (never used)))

pub state_after : (p : PinWorld) (e : Event) → Can p e → IsState p → IsState (after p e)
state_after p (Give k d) can g = let r = given_row d (row p.rows k) in
    record { held = keeps_else p.rows k r (holds_of p) (unused p.rows k (holds_of p) (free_unused (row p.rows k).phase can.0.1) g.held) g.held; named = g.named; weights = g.weights; fits = g.fits; digests = All-set HasDigest p.rows k r ((λ _. (d, refl)), (λ never. absurd (never tt))) g.digests }
state_after p (Lend k n) can g = let h = lent_hold k (row p.rows k) in
    record { held = all_push (IsValidPin p.rows) p.pins (named_entry n h ∷ []) g.held (All-cons (IsValidPin p.rows) h [] (new_keeps p.rows k can.0.0 can.0.1 g.digests) (All-nil (IsValidPin p.rows))); named = named_push p.pins n h g.named can.1; weights = all_push IsWeight p.pins (named_entry n h ∷ []) g.weights (All-cons IsWeight h [] (10, omega arith, refl) (All-nil IsWeight)); fits = lent_fits p.pins k n h refl refl g.fits can.2; digests = g.digests }
state_after p (Share n m) can g =
    record { held = all_push (IsValidPin p.rows) (map (half_if_named n) p.pins) (second m (hold_named n p.pins)) (all_map (IsValidPin p.rows) (half_if_named n) (halve_keeps p.rows n) p.pins g.held) (second_keeps p.rows n m p.pins g.held (hold_named n p.pins) refl); named = named_shared p.pins n m g.named can.1; weights = shared_weights p.pins n m g.named can.0 g.weights; fits = λ k. subst (λ s. s ≤ max_weight) (sym (shared_sum k n m p.pins g.named can.0 g.weights)) (g.fits k); digests = g.digests }
state_after p (Leave n) can g = record { held = all_filter (IsValidPin p.rows) (λ e. not (e.name == n)) p.pins g.held; named = named_filter (λ e. not (e.name == n)) p.pins g.named; weights = all_filter IsWeight (λ e. not (e.name == n)) p.pins g.weights; fits = filter_fits (λ e. not (e.name == n)) p.pins g.fits; digests = g.digests }
state_after p (Condemn k) can g = let r = in_phase Condemned (row p.rows k) in let u = live_used (row p.rows k).phase can.1 in
    record { held = keeps_same p.rows k r (holds_of p) can.0 (record { used = λ _. tt; generation = refl; digest = refl }) g.held; named = g.named; weights = g.weights; fits = g.fits; digests = All-set HasDigest p.rows k r (phased p.rows k Condemned can.0 tt u g.digests) g.digests }
state_after p (Revive k) can g = let r = in_phase Live (row p.rows k) in let u = dead_used (row p.rows k).phase can.1 in
    record { held = keeps_same p.rows k r (holds_of p) can.0 (record { used = λ _. tt; generation = refl; digest = refl }) g.held; named = g.named; weights = g.weights; fits = g.fits; digests = All-set HasDigest p.rows k r (phased p.rows k Live can.0 tt u g.digests) g.digests }
state_after p (Reclaim k) can g = let r = reclaimed_row (row p.rows k) in
    record { held = keeps_else p.rows k r (holds_of p) (clear_holds k p.pins can.1) g.held; named = g.named; weights = g.weights; fits = g.fits; digests = All-set HasDigest p.rows k r (reclaimed_unused (row p.rows k)) g.digests }
state_after p (Look k) can g = g
state_after p (Verify n) can g = g

pub state_initial : (n g : ℕ) → IsState (initial_world n g)
state_initial n g = record { held = All-nil (IsValidPin (initial_world n g).rows); named = tt; weights = All-nil IsWeight; fits = λ k. omega arith; digests = All-replicate HasDigest n (record { generation = g; phase = Free; digest = None }) ((λ u. absurd u), (λ _. refl)) }

-- generations rise, and a slot that was given in a generation is free again only in a later one
reclaimed_rises : (r : PinRow) → r.generation ≤ (reclaimed_row r).generation
reclaimed_rises r = by_test (r.generation == 4294967295)
  where
    by_test : (b : Bool) → r.generation ≤ (cond {A = PinRow} b (record { generation = r.generation; phase = Retired; digest = None }) (record { generation = r.generation + 1; phase = Free; digest = None })).generation
    by_test true = omega arith
    by_test false = omega arith

set_rises : (rs : List PinRow) (k : ℕ) (r : PinRow) (j : ℕ) → k < length rs → (row rs k).generation ≤ r.generation → (row rs j).generation ≤ (row (set rs k r) j).generation
set_rises rs k r j l up = dite (ℕ_discrete j k)
    (λ e. let here : row (set rs k r) j ≡ r = get_or-set_at rs k j r no_row e l in let g = ap (λ (x : PinRow). x.generation) here in let o = ap (λ i. (row rs i).generation) e in omega arith)
    (λ ne. let there : row (set rs k r) j ≡ row rs j = get_or-set_other rs k j r no_row ne in let g = ap (λ (x : PinRow). x.generation) there in omega arith)

pub rises_after : (p : PinWorld) (e : Event) (j : ℕ) → Can p e → (row p.rows j).generation ≤ (row (after p e).rows j).generation
rises_after p (Give k d) j can = set_rises p.rows k (given_row d (row p.rows k)) j can.0.0 (omega arith)
rises_after p (Lend k n) j can = omega arith
rises_after p (Share n m) j can = omega arith
rises_after p (Leave n) j can = omega arith
rises_after p (Condemn k) j can = set_rises p.rows k (in_phase Condemned (row p.rows k)) j can.0 (omega arith)
rises_after p (Revive k) j can = set_rises p.rows k (in_phase Live (row p.rows k)) j can.0 (omega arith)
rises_after p (Reclaim k) j can = set_rises p.rows k (reclaimed_row (row p.rows k)) j can.0.0 (reclaimed_rises (row p.rows k))
rises_after p (Look k) j can = omega arith
rises_after p (Verify n) j can = omega arith

-- of the generation g the slot isn't free, or it has a later one
abbrev pub Past : ℕ → PinRow → Type 0
Past g r = ((r.generation ≡ g) × (r.phase ≢ Free)) ⊎ (g < r.generation)

reclaimed_past : (g : ℕ) (r : PinRow) → Past g r → Past g (reclaimed_row r)
reclaimed_past g r past = by_test (r.generation == 4294967295)
  where
    by_test : (b : Bool) → Past g (cond b (record { generation = r.generation; phase = Retired; digest = None }) (record { generation = r.generation + 1; phase = Free; digest = None }))
    by_test true = ⊎_elim (λ t. inl (t.0, λ e. absurd (cc))) (λ l. inr l) past
    by_test false = ⊎_elim (λ t. inr (let e = t.0 in omega arith)) (λ l. inr (omega arith)) past

set_past : (g : ℕ) (rs : List PinRow) (k : ℕ) (r : PinRow) (j : ℕ) → k < length rs → (Past g (row rs k) → Past g r) → Past g (row rs j) → Past g (row (set rs k r) j)
set_past g rs k r j l next past = dite (ℕ_discrete j k)
    (λ e. subst (λ (x : PinRow). Past g x) (sym (get_or-set_at rs k j r no_row e l)) (next (subst (λ i. Past g (row rs i)) e past)))
    (λ ne. subst (λ (x : PinRow). Past g x) (sym (get_or-set_other rs k j r no_row ne)) past)

phase_past : (g : ℕ) (r : PinRow) (p : Phase) → p ≢ Free → Past g r → Past g (in_phase p r)
phase_past g r p ne past = ⊎_elim (λ t. inl (t.0, ne)) (λ l. inr l) past

pub past_after : (g : ℕ) (p : PinWorld) (e : Event) (j : ℕ) → Can p e → Past g (row p.rows j) → Past g (row (after p e).rows j)
past_after g p (Give k d) j can past = set_past g p.rows k (given_row d (row p.rows k)) j can.0.0 (λ old. ⊎_elim (λ t. inl (t.0, λ e. absurd (cc))) (λ l. inr l) old) past
past_after g p (Lend k n) j can past = past
past_after g p (Share n m) j can past = past
past_after g p (Leave n) j can past = past
past_after g p (Condemn k) j can past = set_past g p.rows k (in_phase Condemned (row p.rows k)) j can.0 (phase_past g (row p.rows k) Condemned (λ e. absurd (cc))) past
past_after g p (Revive k) j can past = set_past g p.rows k (in_phase Live (row p.rows k)) j can.0 (phase_past g (row p.rows k) Live (λ e. absurd (cc))) past
past_after g p (Reclaim k) j can past = set_past g p.rows k (reclaimed_row (row p.rows k)) j can.0.0 (reclaimed_past g (row p.rows k)) past
past_after g p (Look k) j can past = past
past_after g p (Verify n) j can past = past

pub given_past : (p : PinWorld) (k : ℕ) (d : Text) → Can p (Give k d) → Past (row p.rows k).generation (row (after p (Give k d)).rows k)
given_past p k d can = subst (λ (x : PinRow). Past (row p.rows k).generation x) (sym (get_or-set_at p.rows k k (given_row d (row p.rows k)) no_row refl can.0.0)) (inl (refl, λ e. absurd (cc)))

-- ---- what the code reads and writes

-- a row that is read
pub row_read : (rs : List PinRow) (k : ℕ) (r : PinRow) → k < length rs → r ≡ get_or rs k r → r ≡ row rs k
row_read [] k r l is = absurd (omega arith)
row_read (x ∷ rs) zero r l is = is
row_read (x ∷ rs) (suc k) r l is = row_read rs k r (omega arith) is

-- a new pin has the row's digest
pub lent_is : (k : ℕ) (r : PinRow) (d : Text) → r.digest ≡ Some d → record { slot = k; generation = r.generation; digest = d; weight = 1024 } ≡ lent_hold k r
lent_is k r d e = ap (λ o. record { slot = k; generation = r.generation; digest = digest_or o; weight = 1024 }) (sym e)

-- a row that is read, changed and written
pub row_set : (w v : PinWorld) (k : ℕ) (f : PinRow → PinRow) (old new : PinRow) → w ≡ v → k < length w.rows → old ≡ get_or w.rows k old → new ≡ f old → IsState (with_row k (f (row w.rows k)) w) → IsState (with_row k new v)
row_set w v k f old new same l is to state =
    let e : new ≡ f (row w.rows k) = to ∙ ap f (row_read w.rows k old l is) in
    subst (λ (x : PinWorld). IsState (with_row k new x)) same (subst (λ (r : PinRow). IsState (with_row k r w)) (sym e) state)
