-- The agreement of words and seats with a pin world after a step, and the events of the rule.
use Rattle.std.proofs.Common.{◌≡◌, ◌≢◌, ℕ, ◌≤◌, ◌<◌, List, [], ◌∷◌, ◌++◌, length, set, sum_by, refl, sym, ap, ◌∙◌, subst, arith}
use Rattle.std.specs.Prelude.{slice_index, IsPermutation}
use Rattle.std.specs.List.{All}
use Rattle.std.proofs.lemmas.List.{length-set, get_or-set_other}
use Rattle.std.proofs.lemmas.Grind.{get_or-set_at}
use Rattle.std.proofs.lemmas.List.Sorted.{sum_by-IsPermutation}
use mathlib.Core.Logic.{dite}
use mathlib.Core.Option.{some}
use lib.ListN.{get_elem?}
use native.Mathlib.Decide.{ℕ_discrete}
use Rattle.pin_core.specs.declared.world.PinRow.{PinRow}
use Rattle.pin_core.specs.declared.world.PinEntry.{PinEntry}
use Rattle.pin_core.specs.declared.world.PinRecord.{PinRecord}
use Rattle.pin_core.specs.declared.event.Event.{Event}
use Rattle.pin_core.specs.World.{PinWorld, IsState, holds_of, weight_on, word, row, row_word, no_row, max_weight, initial_world}
use Rattle.pin_core.specs.Events.{Can, after, CanAll, after_all, with_row, with_pins}
use Rattle.pin_table.specs.declared.view.KeeperView.{KeeperView}
use Rattle.pin_table.specs.declared.view.View.{View}
use Rattle.pin_table.specs.declared.view.View.TheVariants.{Keeper}
use Rattle.pin_table.specs.Rule.{Accounts, Agrees, Ruled, all_holds, IsPinSeat}
use Rattle.pin_table.specs.Steps.{LeadsByEvent}

-- ---- the events of the rule

after_push : (p : PinWorld) (es : List Event) (e : Event) → after_all p (es ++ e ∷ []) ≡ after (after_all p es) e
after_push p [] e = refl
after_push p (x ∷ es) e = after_push (after p x) es e

happens_push : (p : PinWorld) (es : List Event) (e : Event) → CanAll p es → Can (after_all p es) e → CanAll p (es ++ e ∷ [])
happens_push p [] e h can = (can, tt)
happens_push p (x ∷ es) e h can = (h.0, happens_push (after p x) es e h.1 can)

-- one event more
pub advanced : (n g : ℕ) (ws ws' : List ℕ) (vs vs' : List View) (r : Ruled n g ws vs) (e : Event) → LeadsByEvent (after_all (initial_world n g) r.events) e ws' vs' → Ruled n g ws' vs'
advanced n g ws ws' vs vs' r e leads = record {
  events = r.events ++ e ∷ [];
  happen = happens_push (initial_world n g) r.events e r.happen leads.0;
  agrees = subst (λ p. Agrees ws' vs' p) (sym (after_push (initial_world n g) r.events e)) leads.1;
}

-- ---- facts that follow from agreement

-- the keeper's view, if the first seat is known
pub is_keeper : {ws : List ℕ} {vs : List View} {p : PinWorld} (a : Agrees ws vs p) (v : KeeperView) → get_elem? vs 0 ≡ some (Keeper v) → a.keeper ≡ v
is_keeper a v at = let first : some (Keeper a.keeper) ≡ some (Keeper v) = ap (λ l. get_elem? l 0) (sym a.seats) ∙ at in cc

-- what weighs on a slot is within the keeper's bound
pub within_bound : {ws : List ℕ} {vs : List View} {p : PinWorld} (a : Agrees ws vs p) (k : ℕ) → k < length p.rows → weight_on k (holds_of p) ≤ slice_index a.keeper.bounds k
within_bound a k l = let e = a.accounts.at_bounds k l in omega arith

-- the sums over the world's pins are those over the pins of the seats
pub sums : {ws : List ℕ} {vs : List View} {p : PinWorld} (a : Agrees ws vs p) (f : PinRecord → ℕ) → sum_by f (holds_of p) ≡ sum_by f (all_holds vs)
sums {vs = vs} {p = p} a f = sum_by-IsPermutation f (all_holds vs) (holds_of p) a.pins

-- ---- one word has changed

-- the world q after a step on the word k, which became m, with the bound b
pub record Change (p : PinWorld) (k m b : ℕ) (q : PinWorld) : Type 0 where
  pub within : k < length p.rows
  pub as_long : length q.rows ≡ length p.rows
  pub is : m ≡ word q k
  pub words : (j : ℕ) → j ≢ k → word q j ≡ word p j
  pub weights : (j : ℕ) → j ≢ k → weight_on j (holds_of q) ≡ weight_on j (holds_of p)
  pub limit : b ≤ max_weight

pub changed : (ws : List ℕ) (vs : List View) (p q : PinWorld) (a : Agrees ws vs p) (k m b : ℕ) (u : KeeperView) (others : List View) → All IsPinSeat others → q.rows ≡ u.rows → u.bounds ≡ set a.keeper.bounds k b
    → IsPermutation (all_holds (Keeper u ∷ others)) (holds_of q) → IsState q → Change p k m b q → Accounts (length p.rows) u.bounds u.looks u.lent others (holds_of q) → Agrees (set ws k m) (Keeper u ∷ others) q
changed ws vs p q a k m b u others guests rows bounds pins state c accounts = record {
  keeper = u;
  others = others;
  seats = refl;
  guests = guests;
  rows = rows;
  pins = pins;
  state = state;
  all_words = length-set ws k m ∙ a.all_words ∙ sym c.as_long;
  at_words = λ j l. dite (ℕ_discrete j k)
      (λ e. get_or-set_at ws k j m 0 e (let w = c.within in omega (arith, a.all_words)) ∙ c.is ∙ ap (λ i. word q i) (sym e))
      (λ ne. get_or-set_other ws k j m 0 ne ∙ a.at_words j (below j l) ∙ sym (c.words j ne));
  accounts = subst (λ n. Accounts n u.bounds u.looks u.lent others (holds_of q)) (sym c.as_long) accounts;
  limits = λ j l. subst (λ bs. slice_index bs j ≤ max_weight) (sym bounds) (dite (ℕ_discrete j k)
      (λ (e : j ≡ k). let here : slice_index (set a.keeper.bounds k b) j ≡ b = at_bound j e in let w = c.limit in omega arith)
      (λ (ne : j ≢ k). let there : slice_index (set a.keeper.bounds k b) j ≡ slice_index a.keeper.bounds j = get_or-set_other a.keeper.bounds k j b 0 ne in let old = a.limits j (below j l) in omega arith));
}
  where
    below : (j : ℕ) → j < length q.rows → j < length p.rows
    below j l = omega (arith, c.as_long, l)

    at_bound : (j : ℕ) → j ≡ k → slice_index (set a.keeper.bounds k b) j ≡ b
    at_bound j e = get_or-set_at a.keeper.bounds k j b 0 e (let w = c.within in omega (arith, a.accounts.all_bounds))

-- only the row of k has changed
pub row_changed : (p : PinWorld) (k m b : ℕ) (r : PinRow) → k < length p.rows → m ≡ row_word r (weight_on k (holds_of p)) → b ≤ max_weight → Change p k m b (with_row k r p)
row_changed p k m b r l is limit = record {
  within = l;
  as_long = length-set p.rows k r;
  is = is ∙ ap (λ x. row_word x (weight_on k (holds_of p))) (sym (get_or-set_at p.rows k k r no_row refl l));
  words = λ j ne. ap (λ x. row_word x (weight_on j (holds_of p))) (get_or-set_other p.rows k j r no_row ne);
  weights = λ j ne. refl;
  limit = limit;
}

-- only pins on k have changed
pub pins_changed : (p : PinWorld) (k m b : ℕ) (es : List PinEntry) → k < length p.rows → m ≡ row_word (row p.rows k) (weight_on k (holds_of (with_pins es p)))
    → ((j : ℕ) → j ≢ k → weight_on j (holds_of (with_pins es p)) ≡ weight_on j (holds_of p)) → b ≤ max_weight → Change p k m b (with_pins es p)
pins_changed p k m b es l is same limit = record {
  within = l;
  as_long = refl;
  is = is;
  words = λ j ne. ap (λ w. row_word (row p.rows j) w) (same j ne);
  weights = same;
  limit = limit;
}

-- nothing but the bound of k
pub unchanged : (p : PinWorld) (k m b : ℕ) → k < length p.rows → m ≡ word p k → b ≤ max_weight → Change p k m b p
unchanged p k m b l is limit = record { within = l; as_long = refl; is = is; words = λ j ne. refl; weights = λ j ne. refl; limit = limit }

-- ---- only seats have changed

pub regrouped : (ws : List ℕ) (vs : List View) (p : PinWorld) (es : List PinEntry) (a : Agrees ws vs p) (u : KeeperView) (others : List View) → All IsPinSeat others → u.rows ≡ a.keeper.rows → u.bounds ≡ a.keeper.bounds
    → IsPermutation (all_holds (Keeper u ∷ others)) (holds_of (with_pins es p)) → IsState (with_pins es p) → ((j : ℕ) → weight_on j (holds_of (with_pins es p)) ≡ weight_on j (holds_of p)) → Accounts (length p.rows) u.bounds u.looks u.lent others (holds_of (with_pins es p)) → Agrees ws (Keeper u ∷ others) (with_pins es p)
regrouped ws vs p es a u others guests rows bounds pins state same accounts = record {
  keeper = u;
  others = others;
  seats = refl;
  guests = guests;
  rows = a.rows ∙ sym rows;
  pins = pins;
  state = state;
  all_words = a.all_words;
  at_words = λ j l. a.at_words j l ∙ ap (λ w. row_word (row p.rows j) w) (sym (same j));
  accounts = accounts;
  limits = λ j l. subst (λ bs. slice_index bs j ≤ max_weight) (sym bounds) (a.limits j l);
}
