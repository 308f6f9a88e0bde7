-- Each kind of step of the keeper's seat: from a world with which words and seats agree, to the world after its event.
use Rattle.std.proofs.Common.{◌≡◌, ℕ, ◌+◌, ◌*◌, ◌%◌, ◌≤◌, ◌<◌, List, [], ◌∷◌, ◌++◌, length, set, sum_by, Option, Some, None, refl, sym, ap, ◌∙◌, subst, arith}
use Rattle.std.specs.Prelude.{slice_index, bit_or, bit_and}
use Rattle.std.proofs.lemmas.List.{set-get_or}
use Rattle.std.proofs.lemmas.List.Sums.{sum_by-append}
use mathlib.Core.Option.{some}
use lib.ListN.{get_elem?}
use Rattle.spec_lib.specs.Texts.{Text}
use Rattle.pin_core.specs.declared.world.Phase.TheVariants.{Free, Live, Condemned}
use Rattle.pin_core.specs.declared.world.PinRecord.{PinRecord}
use Rattle.pin_core.specs.declared.event.Event.TheVariants.{Give, Lend, Condemn, Revive, Reclaim, Look}
use Rattle.pin_core.specs.World.{PinWorld, IsState, IsValidPin, holds_of, weight_at, weight_on, row, row_word, word_of, max_weight}
use Rattle.pin_core.specs.Events.{Can, after, IsNew, new_weight, given_row, in_phase, reclaimed_row, lent_hold}
use Rattle.pin_core.proofs.PinsAreValid.{free_unused, state_after, unused}
use Rattle.pin_table.specs.declared.view.KeeperView.{KeeperView}
use Rattle.pin_table.specs.declared.view.View.{View}
use Rattle.pin_table.specs.declared.view.View.TheVariants.{Keeper}
use Rattle.pin_table.specs.Rule.{Accounts, Agrees, all_holds, in_transit}
use Rattle.pin_table.specs.Plays.{Finds, IsTransitValid, with_transit, with_lent, with_look, with_row}
use Rattle.pin_table.specs.Steps.{LeadsByEvent}
use Rattle.pin_table.proofs.Bits.{set_used, set_condemned, clear_condemned}
use Rattle.pin_table.proofs.Orders.{one, one_self, permutes}
use Rattle.pin_table.proofs.Names.{fresh, unnamed, lent_sum}
use Rattle.pin_table.proofs.Holds.{sum_one, all_counted, weight_same, weight_apart, weight_none, none_left}
use Rattle.pin_table.proofs.Accounts.{lends_kept, looks_kept}
use Rattle.pin_table.proofs.Agreement.{is_keeper, within_bound, sums, Change, changed, row_changed, pins_changed, unchanged}

-- what is known before a step of the keeper's seat on the word k
pub record Keeping (ws : List ℕ) (vs : List View) (p : PinWorld) (v : KeeperView) (k : ℕ) : Type 0 where
  pub agrees : Agrees ws vs p
  pub same : agrees.keeper ≡ v
  pub rows : p.rows ≡ v.rows
  pub within : k < length p.rows
  pub limit : slice_index v.bounds k ≤ max_weight
  -- the word that is found, with the sum on the slot
  pub finds : Finds k (slice_index ws k) v (weight_on k (holds_of p))

pub keeping : {ws : List ℕ} {vs : List View} {p : PinWorld} (a : Agrees ws vs p) (v : KeeperView) (k : ℕ) → get_elem? vs 0 ≡ some (Keeper v) → k < length p.rows → Keeping ws vs p v k
keeping {ws} {vs} {p} a v k at l =
    let same = is_keeper a v at in
    let rows : p.rows ≡ v.rows = a.rows ∙ ap (λ (x : KeeperView). x.rows) same in
    let bound : weight_on k (holds_of p) ≤ slice_index v.bounds k = subst (λ (x : KeeperView). weight_on k (holds_of p) ≤ slice_index x.bounds k) same (within_bound a k l) in
    let limit : slice_index v.bounds k ≤ max_weight = subst (λ (x : KeeperView). slice_index x.bounds k ≤ max_weight) same (a.limits k l) in record {
      agrees = a;
      same = same;
      rows = rows;
      within = l;
      limit = limit;
      finds = record { word = a.at_words k l ∙ ap (λ rs. row_word (row rs k) (weight_on k (holds_of p))) rows; within = bound; fits = omega arith };
    }

-- the weights lent and the bounds, by the keeper's view
accounts : {ws : List ℕ} {vs : List View} {p : PinWorld} {v : KeeperView} {k : ℕ} (c : Keeping ws vs p v k) → Accounts (length p.rows) v.bounds v.looks v.lent c.agrees.others (holds_of p)
accounts {p = p} c = subst (λ (x : KeeperView). Accounts (length p.rows) x.bounds x.looks x.lent c.agrees.others (holds_of p)) c.same c.agrees.accounts

-- the keeper's step: its view becomes u, and the world q
pub by_keeper : {ws : List ℕ} {vs : List View} {p : PinWorld} {v : KeeperView} {k : ℕ} (c : Keeping ws vs p v k) (m b : ℕ) (u : KeeperView) (q : PinWorld) → q.rows ≡ u.rows → u.bounds ≡ set v.bounds k b
    → ((f : PinRecord → ℕ) → sum_by f (in_transit u.transit) + sum_by f (holds_of p) ≡ sum_by f (in_transit v.transit) + sum_by f (holds_of q)) → IsState q → Change p k m b q → Accounts (length p.rows) u.bounds u.looks u.lent c.agrees.others (holds_of q) → Agrees (set ws k m) (set vs 0 (Keeper u)) q
by_keeper {ws} {vs} {p} {v} {k} c m b u q rows bounds transits state change accounts =
    let a = c.agrees in
    let pins = permutes (all_holds (Keeper u ∷ a.others)) (holds_of q) (λ f.
    let before : sum_by f (holds_of p) ≡ sum_by f (in_transit v.transit ++ all_holds a.others) = sums a f ∙ ap (λ l. sum_by f (all_holds l)) a.seats ∙ ap (λ (x : KeeperView). sum_by f (in_transit x.transit ++ all_holds a.others)) c.same in
    omega (arith, transits f, before, sum_by-append f (in_transit v.transit) (all_holds a.others), sum_by-append f (in_transit u.transit) (all_holds a.others))) in
    subst (λ l. Agrees (set ws k m) (set l 0 (Keeper u)) q) (sym a.seats)
    (changed ws vs p q a k m b u a.others a.guests rows (bounds ∙ ap (λ (x : KeeperView). set x.bounds k b) (sym c.same)) pins state change accounts)

-- the bound that stays
pub bound_kept : (v : KeeperView) (k : ℕ) → v.bounds ≡ set v.bounds k (slice_index v.bounds k)
bound_kept v k = sym (set-get_or v.bounds k 0)

-- the pin in transit is kept
pub hand_kept : {ws : List ℕ} {vs : List View} {p : PinWorld} {v : KeeperView} {k : ℕ} → Keeping ws vs p v k → IsTransitValid v.rows v.transit
hand_kept {ws} {vs} {p} {v} {k} c = by_hand v.transit refl
  where
    by_hand : (o : Option PinRecord) → v.transit ≡ o → IsTransitValid v.rows o
    by_hand None e = tt
    by_hand (Some h) e =
        let a = c.agrees in
        let before : sum_by (one h) (holds_of p) ≡ sum_by (one h) (in_transit (Some h) ++ all_holds a.others) =
        sums a (one h) ∙ ap (λ l. sum_by (one h) (all_holds l)) a.seats ∙ ap (λ (x : KeeperView). sum_by (one h) (in_transit x.transit ++ all_holds a.others)) c.same ∙ ap (λ o. sum_by (one h) (in_transit o ++ all_holds a.others)) e in
        subst (λ rs. IsValidPin rs h) c.rows (all_counted (IsValidPin p.rows) h (holds_of p) a.state.held (omega (arith, before, sum_by-append (one h) (h ∷ []) (all_holds a.others), sum_one (one h) h, one_self h)))

-- ---- Look

pub looks : {ws : List ℕ} {vs : List View} {p : PinWorld} {v : KeeperView} {k : ℕ} → Keeping ws vs p v k
    → LeadsByEvent p (Look k) (set ws k (slice_index ws k)) (set vs 0 (Keeper (with_look k (weight_on k (holds_of p)) v)))
looks {ws} {vs} {p} {v} {k} c =
    let w : ℕ = weight_on k (holds_of p) in (
      c.within,
      by_keeper c (slice_index ws k) w (with_look k w v) p c.rows refl (λ f. refl) c.agrees.state (unchanged p k (slice_index ws k) w c.within (c.agrees.at_words k c.within) c.finds.fits)
          (looks_kept (length p.rows) v.bounds v.looks v.lent c.agrees.others (holds_of p) k w c.within refl (accounts c)),
    )

-- ---- Give

pub gives : {ws : List ℕ} {vs : List View} {p : PinWorld} {v : KeeperView} {k : ℕ} (d : Text) → Keeping ws vs p v k → (row v.rows k).phase ≡ Free → IsNew d v.rows
    → LeadsByEvent p (Give k d) (set ws k (bit_or (slice_index ws k) 2147483648)) (set vs 0 (Keeper (with_look k 0 (with_row k (given_row d (row v.rows k)) v))))
gives {ws} {vs} {p} {v} {k} d c free new =
    let free' : (row p.rows k).phase ≡ Free = ap (λ rs. (row rs k).phase) c.rows ∙ free in
    let can : Can p (Give k d) = ((c.within, free'), subst (λ rs. IsNew d rs) (sym c.rows) new) in
    let r = given_row d (row p.rows k) in
    let n = slice_index ws k in
    let zero_on : weight_on k (holds_of p) ≡ 0 = weight_none k (holds_of p) (unused p.rows k (holds_of p) (free_unused (row p.rows k).phase free') c.agrees.state.held) in
    let at : n ≡ word_of (row p.rows k).generation Free 0 = c.agrees.at_words k c.within ∙ ap (λ x. word_of (row p.rows k).generation x (weight_on k (holds_of p))) free' ∙ ap (λ x. word_of (row p.rows k).generation Free x) zero_on in
    let made : bit_or n 2147483648 ≡ row_word r (weight_on k (holds_of p)) = set_used n (row p.rows k).generation (omega arith) ∙ omega arith in (
      can,
      by_keeper c (bit_or n 2147483648) 0 (with_look k 0 (with_row k (given_row d (row v.rows k)) v)) (after p (Give k d))
          (ap (λ rs. set rs k (given_row d (row rs k))) c.rows) refl (λ f. refl) (state_after p (Give k d) can c.agrees.state)
          (row_changed p k (bit_or n 2147483648) 0 r c.within made (omega arith))
          (looks_kept (length p.rows) v.bounds v.looks v.lent c.agrees.others (holds_of p) k 0 c.within (sym zero_on) (accounts c)),
    )

-- ---- Lend

lent_word : (n g w : ℕ) → n < 18446744073709551616 → n ≡ g * 4294967296 + 2147483648 + w → w + 1024 < 1073741824 → (n + 1024) % 18446744073709551616 ≡ g * 4294967296 + 2147483648 + (w + 1024)
lent_word n g w fits is l = omega arith

pub lends : {ws : List ℕ} {vs : List View} {p : PinWorld} {v : KeeperView} {k : ℕ} → Keeping ws vs p v k → slice_index ws k < 18446744073709551616 → v.transit ≡ None → (row v.rows k).phase ≡ Live → slice_index v.bounds k + new_weight ≤ max_weight
    → LeadsByEvent p (Lend k (fresh p.pins)) (set ws k ((slice_index ws k + 1024) % 18446744073709551616)) (set vs 0 (Keeper (with_transit (Some (lent_hold k (row v.rows k))) (with_lent k v))))
lends {ws} {vs} {p} {v} {k} c fits empty live room =
    let name = fresh p.pins in
    let live' : (row p.rows k).phase ≡ Live = ap (λ rs. (row rs k).phase) c.rows ∙ live in
    let w : ℕ = weight_on k (holds_of p) in
    let bound = c.finds.within in
    let can : Can p (Lend k name) = ((c.within, live'), unnamed p.pins name (omega arith), omega arith) in
    let h = lent_hold k (row v.rows k) in
    let g = lent_hold k (row p.rows k) in
    let same : g ≡ h = ap (λ rs. lent_hold k (row rs k)) c.rows in
    let q = after p (Lend k name) in
    let n = slice_index ws k in
    let m : ℕ = (n + 1024) % 18446744073709551616 in
    let total : (f : PinRecord → ℕ) → sum_by f (holds_of q) ≡ sum_by f (holds_of p) + f g = λ f. lent_sum f name g p.pins in
    let more : weight_on k (holds_of q) ≡ w + 1024 = omega (arith, total (weight_at k), weight_same g) in
    let at : n ≡ word_of (row p.rows k).generation Live w = c.agrees.at_words k c.within ∙ ap (λ x. word_of (row p.rows k).generation x w) live' in
    let made : m ≡ row_word (row p.rows k) (weight_on k (holds_of q)) =
    lent_word n (row p.rows k).generation w fits at (omega arith) ∙ ap (λ x. word_of (row p.rows k).generation Live x) (sym more) ∙ ap (λ x. word_of (row p.rows k).generation x (weight_on k (holds_of q))) (sym live') in (
      can,
      by_keeper c m (slice_index v.bounds k + new_weight) (with_transit (Some h) (with_lent k v)) q c.rows refl
          (λ f. let none : sum_by f (in_transit v.transit) ≡ 0 = ap (λ o. sum_by f (in_transit o)) empty in omega (arith, total f, none, sum_one f h, ap f same))
          (state_after p (Lend k name) can c.agrees.state)
          (pins_changed p k m (slice_index v.bounds k + new_weight) q.pins c.within made (λ j ne. let z : weight_at j g ≡ 0 = weight_apart j g (λ e. ne (sym e)) in omega (arith, total (weight_at j))) room)
          (lends_kept (length p.rows) v.bounds v.looks v.lent c.agrees.others (holds_of p) (holds_of q) g c.within (λ j. total (weight_at j)) (accounts c)),
    )

-- ---- Condemn and Revive

pub condemns : {ws : List ℕ} {vs : List View} {p : PinWorld} {v : KeeperView} {k : ℕ} → Keeping ws vs p v k → (row v.rows k).phase ≡ Live
    → LeadsByEvent p (Condemn k) (set ws k (bit_or (slice_index ws k) 1073741824)) (set vs 0 (Keeper (with_row k (in_phase Condemned (row v.rows k)) v)))
condemns {ws} {vs} {p} {v} {k} c live =
    let live' : (row p.rows k).phase ≡ Live = ap (λ rs. (row rs k).phase) c.rows ∙ live in
    let can : Can p (Condemn k) = (c.within, live') in
    let old = row p.rows k in
    let r = in_phase Condemned old in
    let n = slice_index ws k in
    let w : ℕ = weight_on k (holds_of p) in
    let most = c.finds.fits in
    let at : n ≡ word_of old.generation Live w = c.agrees.at_words k c.within ∙ ap (λ x. word_of old.generation x w) live' in
    let made : bit_or n 1073741824 ≡ row_word r w = set_condemned n old.generation w at (omega arith) ∙ omega arith in (
      can,
      by_keeper c (bit_or n 1073741824) (slice_index v.bounds k) (with_row k (in_phase Condemned (row v.rows k)) v) (after p (Condemn k))
          (ap (λ rs. set rs k (in_phase Condemned (row rs k))) c.rows) (bound_kept v k) (λ f. refl) (state_after p (Condemn k) can c.agrees.state)
          (row_changed p k (bit_or n 1073741824) (slice_index v.bounds k) r c.within made c.limit) (accounts c),
    )

pub revives : {ws : List ℕ} {vs : List View} {p : PinWorld} {v : KeeperView} {k : ℕ} → Keeping ws vs p v k → slice_index ws k < 18446744073709551616 → (row v.rows k).phase ≡ Condemned
    → LeadsByEvent p (Revive k) (set ws k (bit_and (slice_index ws k) 18446744072635809791)) (set vs 0 (Keeper (with_row k (in_phase Live (row v.rows k)) v)))
revives {ws} {vs} {p} {v} {k} c fits dead =
    let dead' : (row p.rows k).phase ≡ Condemned = ap (λ rs. (row rs k).phase) c.rows ∙ dead in
    let can : Can p (Revive k) = (c.within, dead') in
    let old = row p.rows k in
    let r = in_phase Live old in
    let n = slice_index ws k in
    let w : ℕ = weight_on k (holds_of p) in
    let most = c.finds.fits in
    let at : n ≡ word_of old.generation Condemned w = c.agrees.at_words k c.within ∙ ap (λ x. word_of old.generation x w) dead' in
    let made : bit_and n 18446744072635809791 ≡ row_word r w = clear_condemned n old.generation w at (omega arith) fits in (
      can,
      by_keeper c (bit_and n 18446744072635809791) (slice_index v.bounds k) (with_row k (in_phase Live (row v.rows k)) v) (after p (Revive k))
          (ap (λ rs. set rs k (in_phase Live (row rs k))) c.rows) (bound_kept v k) (λ f. refl) (state_after p (Revive k) can c.agrees.state)
          (row_changed p k (bit_and n 18446744072635809791) (slice_index v.bounds k) r c.within made c.limit) (accounts c),
    )

-- ---- Reclaim

pub reclaims : {ws : List ℕ} {vs : List View} {p : PinWorld} {v : KeeperView} {k : ℕ} (old new : ℕ) → Keeping ws vs p v k → (row v.rows k).phase ≡ Condemned → old ≡ row_word (row v.rows k) 0 → new ≡ row_word (reclaimed_row (row v.rows k)) 0 → slice_index ws k ≡ old
    → LeadsByEvent p (Reclaim k) (set ws k new) (set vs 0 (Keeper (with_look k 0 (with_row k (reclaimed_row (row v.rows k)) v))))
reclaims {ws} {vs} {p} {v} {k} old new c dead old_is new_is hit =
    let dead' : (row p.rows k).phase ≡ Condemned = ap (λ rs. (row rs k).phase) c.rows ∙ dead in
    let found = c.finds.word in
    let zero_on : weight_on k (holds_of p) ≡ 0 = omega arith in
    let can : Can p (Reclaim k) = ((c.within, dead'), none_left k p.pins c.agrees.state.weights zero_on) in
    let r = reclaimed_row (row p.rows k) in
    let made : new ≡ row_word r (weight_on k (holds_of p)) = new_is ∙ ap (λ rs. row_word (reclaimed_row (row rs k)) 0) (sym c.rows) ∙ ap (λ x. row_word r x) (sym zero_on) in (
      can,
      by_keeper c new 0 (with_look k 0 (with_row k (reclaimed_row (row v.rows k)) v)) (after p (Reclaim k))
          (ap (λ rs. set rs k (reclaimed_row (row rs k))) c.rows) refl (λ f. refl) (state_after p (Reclaim k) can c.agrees.state)
          (row_changed p k new 0 r c.within made (omega arith))
          (looks_kept (length p.rows) v.bounds v.looks v.lent c.agrees.others (holds_of p) k 0 c.within (sym zero_on) (accounts c)),
    )
