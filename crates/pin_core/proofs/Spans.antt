-- Lists of events: the spans of pins, and the places where slots are given.
use Rattle.std.proofs.Common.{◌≡◌, ◌≢◌, ℕ, zero, suc, ◌+◌, ◌-◌, ◌≤◌, ◌<◌, List, [], ◌∷◌, ◌++◌, map, length, Some, refl, sym, ap, ◌∙◌, subst, ⊎_elim, arith}
use Rattle.std.specs.Prelude.{slice_get}
use mathlib.Core.Logic.{dite}
use native.Mathlib.Decide.{dec_le}
use Rattle.spec_lib.proofs.Lists.{there_at}
use Rattle.pin_core.specs.declared.event.Event.{Event}
use Rattle.pin_core.specs.declared.event.Event.TheVariants.{Give, Lend, Share, Leave, Condemn, Revive, Reclaim, Look, Verify}
use Rattle.pin_core.specs.World.{PinWorld, IsValidPin, IsState, hold_named, initial_world, row, row_word, word}
use Rattle.pin_core.proofs.Shares.{shared_sum}
use Rattle.pin_core.specs.Events.{Can, after, CanAll, half, half_if_named, second, named_entry, lent_hold}
use Rattle.pin_core.specs.Laws.{world_at, GivesAt, HasPinAt, begun, lent, shared, generation_at, ReclaimsSafely, Reclamation}
use Rattle.pin_core.proofs.Names.{IsOn, all_named, on_push, named_last, on_halved, on_filter, none_halved}
use Rattle.pin_core.proofs.PinsAreValid.{free_unused, state_after, state_initial, rises_after, Past, past_after, given_past}

-- the event at a place, and the worlds around it
pub record Turn (p : PinWorld) (es : List Event) (i : ℕ) (e : Event) : Type 0 where
  pub can : Can (world_at p es i) e
  pub next : world_at p es (suc i) ≡ after (world_at p es i) e
  pub within : i < length es

pub turn : (p : PinWorld) (es : List Event) (i : ℕ) (e : Event) → CanAll p es → slice_get es i ≡ Some e → Turn p es i e
turn p [] i e h at = absurd (cc)
turn p (x ∷ es) zero e h at = let same : x ≡ e = cc in record { can = subst (λ y. Can p y) same h.0; next = ap (λ y. after p y) same; within = omega arith }
turn p (x ∷ es) (suc i) e h at = let t = turn (after p x) es i e h.1 at in let l = t.within in record { can = t.can; next = t.next; within = omega arith }

-- what each event keeps holds from one place to a later one
pub along : (P : PinWorld → Type 0) (p : PinWorld) (es : List Event) (j n : ℕ) → CanAll p es → n + j ≤ length es
    → ((i : ℕ) (e : Event) → j ≤ i → i < n + j → slice_get es i ≡ Some e → Can (world_at p es i) e → P (world_at p es i) → P (after (world_at p es i) e)) → P (world_at p es j) → P (world_at p es (n + j))
along P p es j zero h l law at = subst (λ i. P (world_at p es i)) (let z : j ≡ 0 + j = omega arith in z) at
along P p es j (suc n) h l law at =
    let e = there_at es (n + j) (omega arith) in
    let t = turn p es (n + j) e.0 h e.1 in
    let before = along P p es j n h (omega arith) (λ i x lo hi is. law i x lo (omega arith) is) at in
    let now : P (after (world_at p es (n + j)) e.0) = law (n + j) e.0 (omega arith) (omega arith) e.1 t.can before in
    subst (λ i. P (world_at p es i)) (let z : suc (n + j) ≡ suc n + j = omega arith in z) (subst P (sym t.next) now)

pub up_to : (P : PinWorld → Type 0) (p : PinWorld) (es : List Event) (j i : ℕ) → CanAll p es → j ≤ i → i ≤ length es
    → ((l : ℕ) (e : Event) → j ≤ l → l < i → slice_get es l ≡ Some e → Can (world_at p es l) e → P (world_at p es l) → P (after (world_at p es l) e)) → P (world_at p es j) → P (world_at p es i)
up_to P p es j i h lo hi law at =
    let e : (i - j) + j ≡ i = omega arith in
    subst (λ x. P (world_at p es x)) e (along P p es j (i - j) h (omega arith) (λ l x a b. law l x a (omega arith)) at)

-- a pin that doesn't leave stays on its slot
pub on_after : (p : PinWorld) (e : Event) (n k : ℕ) → e ≢ Leave n → IsOn p.pins n k → IsOn (after p e).pins n k
on_after p (Give j d) n k ne on = on
on_after p (Lend j m) n k ne on = on_push p.pins (named_entry m (lent_hold j (row p.rows j)) ∷ []) n k on
on_after p (Share m q) n k ne on = on_push (map (half_if_named m) p.pins) (second q (hold_named m p.pins)) n k (on_halved m p.pins n k on)
on_after p (Leave m) n k ne on = on_filter m p.pins n k (λ e. ne (ap (λ x. Leave x) (sym e))) on
on_after p (Condemn j) n k ne on = on
on_after p (Revive j) n k ne on = on
on_after p (Reclaim j) n k ne on = on
on_after p (Look j) n k ne on = on
on_after p (Verify m) n k ne on = on

lent_on : (p : PinWorld) (k n : ℕ) → Can p (Lend k n) → IsOn (after p (Lend k n)).pins n k
lent_on p k n can = record { hold = lent_hold k (row p.rows k); there = named_last p.pins n (lent_hold k (row p.rows k)) can.1; slot = refl }

shared_on : (p : PinWorld) (m n k : ℕ) → Can p (Share m n) → IsOn p.pins m k → IsOn (after p (Share m n)).pins n k
shared_on p m n k can on =
    let two : second n (hold_named m p.pins) ≡ named_entry n (half on.hold) ∷ [] = ap (λ o. second n o) on.there in
    record { hold = half on.hold; there = ap (λ l. hold_named n (map (half_if_named m) p.pins ++ l)) two ∙ named_last (map (half_if_named m) p.pins) n (half on.hold) (none_halved m p.pins n can.1); slot = on.slot }

pub spanned_on : (p : PinWorld) (es : List Event) (i n k : ℕ) → CanAll p es → i ≤ length es → HasPinAt p es i n k → IsOn (world_at p es i).pins n k
spanned_on p es i n k h l (begun _ _ _ hold at slot stays) =
    up_to (λ w. IsOn w.pins n k) p es 0 i h (omega arith) l
    (λ x e lo hi is can on. on_after (world_at p es x) e n k (λ same. stays x lo hi (is ∙ ap Some same)) on)
    (record { hold = hold; there = at; slot = slot })
spanned_on p es i n k h l (lent j _ _ _ at before stays) =
    let t = turn p es j (Lend k n) h at in
    up_to (λ w. IsOn w.pins n k) p es (suc j) i h (omega arith) l
    (λ x e lo hi is can on. on_after (world_at p es x) e n k (λ same. stays x (omega arith) hi (is ∙ ap Some same)) on)
    (subst (λ w. IsOn w.pins n k) (sym t.next) (lent_on (world_at p es j) k n t.can))
spanned_on p es i n k h l (shared j _ m _ _ span at before stays) =
    let t = turn p es j (Share m n) h at in
    let w = t.within in
    let first = spanned_on p es j m k h (omega arith) span in
    up_to (λ w. IsOn w.pins n k) p es (suc j) i h (omega arith) l
    (λ x e lo hi is can on. on_after (world_at p es x) e n k (λ same. stays x (omega arith) hi (is ∙ ap Some same)) on)
    (subst (λ w. IsOn w.pins n k) (sym t.next) (shared_on (world_at p es j) m n k t.can first))

state_at : (p : PinWorld) (es : List Event) (i : ℕ) → CanAll p es → i ≤ length es → IsState p → IsState (world_at p es i)
state_at p es i h l g = up_to IsState p es 0 i h (omega arith) l (λ x e lo hi is can g'. state_after (world_at p es x) e can g') g

apart : (p : PinWorld) (es : List Event) → CanAll p es → IsState p → (i k n : ℕ) → GivesAt es k i → HasPinAt p es i n k → ⊥
apart p es h g i k n given span =
    let t = turn p es i (Give k given.0) h given.1 in
    let w = t.within in
    let on = spanned_on p es i n k h (omega arith) span in
    let good = state_at p es i h (omega arith) g in
    let keeps = all_named (IsValidPin (world_at p es i).rows) (world_at p es i).pins n on.hold on.there good.held in
    free_unused (row (world_at p es i).rows on.hold.slot).phase (ap (λ j. (row (world_at p es i).rows j).phase) on.slot ∙ t.can.0.1) keeps.used

rises : (p : PinWorld) (es : List Event) → CanAll p es → (i j k : ℕ) → i ≤ j → j ≤ length es → generation_at p es i k ≤ generation_at p es j k
rises p es h i j k lo hi = up_to (λ w. generation_at p es i k ≤ (row w.rows k).generation) p es i j h lo hi
    (λ x e _ _ _ can old. let up = rises_after (world_at p es x) e k can in omega arith) (omega arith)

-- a slot given at i isn't given in that generation later
not_again : (p : PinWorld) (es : List Event) → CanAll p es → (i j k : ℕ) → i < j → GivesAt es k i → GivesAt es k j → generation_at p es i k ≡ generation_at p es j k → ⊥
not_again p es h i j k before first again same =
    let t = turn p es i (Give k first.0) h first.1 in
    let u = turn p es j (Give k again.0) h again.1 in
    let w = u.within in
    let g : ℕ = generation_at p es i k in
    let past = up_to (λ w. Past g (row w.rows k)) p es (suc i) j h (omega arith) (omega arith) (λ x e _ _ _ can old. past_after g (world_at p es x) e k can old)
    (subst (λ w. Past g (row w.rows k)) (sym t.next) (given_past (world_at p es i) k first.0 t.can)) in
    ⊎_elim (λ x. x.1 u.can.0.1) (λ l. absurd (omega arith)) past

once : (p : PinWorld) (es : List Event) → CanAll p es → (i j k : ℕ) → GivesAt es k i → GivesAt es k j → generation_at p es i k ≡ generation_at p es j k → i ≡ j
once p es h i j k first again same = dite (dec_le (suc i) j)
    (λ (l : suc i ≤ j). absurd (not_again p es h i j k (omega arith) first again same))
    (λ (a : ¬ (suc i ≤ j)). dite (dec_le (suc j) i)
    (λ (l : suc j ≤ i). absurd (not_again p es h j i k (omega arith) again first (sym same)))
    (λ (b : ¬ (suc j ≤ i)). omega arith))

-- a Share changes no word
steady : (p : PinWorld) (es : List Event) → CanAll p es → IsState p → (i k n m : ℕ) → slice_get es i ≡ Some (Share n m) → word (world_at p es (suc i)) k ≡ word (world_at p es i) k
steady p es h g i k n m at =
    let t = turn p es i (Share n m) h at in
    let l = t.within in
    let w = world_at p es i in
    let s = state_at p es i h (omega arith) g in
    ap (λ q. word q k) t.next ∙ ap (row_word (row w.rows k)) (shared_sum k n m w.pins s.named t.can.0 s.weights)

reclaims : (p : PinWorld) (es : List Event) → IsState p → CanAll p es → ReclaimsSafely p es
reclaims p es good h = record {
  held = λ i l. (state_at p es i h l good).held;
  states = λ i l. state_at p es i h l good;
  apart = apart p es h good;
  steady = steady p es h good;
  rises = rises p es h;
  once = once p es h;
}

pub reclamation : Reclamation
reclamation = record { from_opening = λ n g es h. reclaims (initial_world n g) es (state_initial n g) h; from_any = reclaims }
