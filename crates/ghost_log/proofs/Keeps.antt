-- Each step preserves the rule.
use Rattle.std.proofs.Common.{◌≡◌, ◌≢◌, ℕ, zero, suc, ◌+◌, ◌≤◌, ◌==◌, List, [], ◌∷◌, ◌++◌, length, set, Option, Some, None, refl, sym, ap, ◌∙◌, subst, ⊎_elim, arith, eq-eqb, ne_eqb}
use Rattle.std.specs.Prelude.{if◌then◌else◌}
use mathlib.Core.Option.{some, some-injective, some-ne-none}
use lib.ListN.{get_elem?}
use Rattle.atomic_table.proofs.Lists.{at_set, at_longer, set_else}
use Rattle.ghost_log.specs.declared.view.WriterView.{WriterView}
use Rattle.ghost_log.specs.declared.view.Contents.{Contents}
use Rattle.ghost_log.specs.declared.view.View.{View}
use Rattle.ghost_log.specs.declared.view.View.TheVariants.{Owner, OfWriter, Empty}
use Rattle.ghost_log.specs.Entries.{Entry, entries_by, events_by}
use Rattle.ghost_log.specs.Rule.{contents, known, IsWriterOf, InTransit, IsTrueView, FollowsRule, initial_view}
use Rattle.ghost_log.specs.Steps.{TransitIsOf, GivesFacts}
use Rattle.ghost_log.specs.Calls.{contents_of}
use Rattle.ghost_log.proofs.Lists.{prefix_self, prefix_more, set_top, at_end, chosen, left_over, events_own, events_other}

module _ {E : Type 0} where
  -- the views of the others stay true of a longer log
  of_longer : (log : List (Entry E)) (writers : ℕ) (k : WriterView E) (number : ℕ) (events : List E) → number ≢ k.number → IsWriterOf log writers k → IsWriterOf (log ++ entries_by number events) writers k
  of_longer log writers k number events ne is =
      record { number = is.number; seen = prefix_more k.seen log (entries_by number events) is.seen; own = events_other number k.number log events ne ∙ is.own }

  -- ---- the rule at contents that are known

  record Ready (c : Contents E) (views : List (View E)) : Type 0 where
    seat : ℕ → ℕ
    each : (id : ℕ) (v : View E) → get_elem? views id ≡ some v → IsTrueView c seat id v
    transit : InTransit c seat c.transit
    unused : (number : ℕ) → c.writers ≤ number → events_by number c.entries ≡ []

  ready : (c : Contents E) (views : List (View E)) → FollowsRule views → get_elem? views 0 ≡ some (Owner c) → Ready c views
  ready c views r at =
      let same : r.contents ≡ c = ap contents_of (some-injective (Owner r.contents) (Owner c) (sym r.top ∙ at)) in
      subst (λ (x : Contents E). Ready x views) same (record { seat = r.seat; each = r.each; transit = r.transit; unused = r.unused })

  transit_is_of : (c : Contents E) (seat : ℕ → ℕ) (transit : Option (WriterView E)) → InTransit c seat transit → TransitIsOf c transit
  transit_is_of c seat None h = tt
  transit_is_of c seat (Some k) h = h.1

  pub tells : (c : Contents E) (views : List (View E)) → FollowsRule views → get_elem? views 0 ≡ some (Owner c) → GivesFacts c
  tells c views r at = let t = ready c views r at in record { transit = transit_is_of c t.seat c.transit t.transit; unused = t.unused }

  -- each view after the first was changed
  fits_set : (c : Contents E) (seat : ℕ → ℕ) (views : List (View E)) → ((id : ℕ) (v : View E) → id ≢ 0 → get_elem? views id ≡ some v → IsTrueView c seat id v) → (id : ℕ) (v : View E) → get_elem? (set views 0 (Owner c)) id ≡ some v → IsTrueView c seat id v
  fits_set c seat views others id v e =
      ⊎_elim
      (λ (x : (id ≡ 0) × (Owner c ≡ v)). subst (λ (y : View E). IsTrueView c seat id y) x.1 (x.0, refl))
      (λ (x : (id ≢ 0) × (get_elem? views id ≡ some v)). others id v x.0 x.1)
      (at_set views 0 id (Owner c) v e)

  module _ (log : List (Entry E)) (writers : ℕ) (k : WriterView E) where
    abbrev holding : Contents E
    holding = contents log writers (Some k)

    abbrev empty : Contents E
    empty = contents log writers None

    -- ---- the writer in transit appends

    module _ (events : List E) where
      abbrev longer : List (Entry E)
      longer = log ++ entries_by k.number events

      abbrev after : Contents E
      after = contents longer writers (Some (known k.number longer (k.own ++ events)))

      other_fits : (seat : ℕ → ℕ) (id : ℕ) (v : View E) → seat k.number ≡ 0 → id ≢ 0 → IsTrueView holding seat id v → IsTrueView after seat id v
      other_fits seat id (Owner o) here ne f = absurd (ne f.0)
      other_fits seat id (OfWriter t) here ne f = (f.0, of_longer log writers t k.number events (λ same. ne (sym f.0 ∙ (ap seat (sym same) ∙ here))) f.1)
      other_fits seat id Empty here ne f = tt

      pub appends : (views : List (View E)) → FollowsRule views → get_elem? views 0 ≡ some (Owner (contents log writers (Some k))) → FollowsRule (set views 0 (Owner after))
      appends views r at =
          let t = ready holding views r at in
          let number = t.transit.1.number in
          record {
            contents = after;
            seat = t.seat;
            top = set_top views (Owner holding) (Owner after) at;
            each = fits_set after t.seat views (λ id v ne e. other_fits t.seat id v t.transit.0 ne (t.each id v e));
            transit = (t.transit.0, record { number = number; seen = prefix_self longer; own = events_own k.number log events ∙ ap (λ xs. xs ++ events) t.transit.1.own });
            unused = λ other le. events_other k.number other log events (λ same. omega arith) ∙ t.unused other le;
          }

    -- ---- a writer comes into transit

    moved : (ℕ → ℕ) → ℕ → ℕ → ℕ
    moved seat to n = if n == k.number then to else seat n

    moved_here : (seat : ℕ → ℕ) (to : ℕ) → moved seat to k.number ≡ to
    unfolding moved
    moved_here seat to = chosen (k.number == k.number) to (seat k.number) (eq-eqb k.number k.number refl)

    moved_else : (seat : ℕ → ℕ) (to n : ℕ) → n ≢ k.number → moved seat to n ≡ seat n
    unfolding moved
    moved_else seat to n ne = left_over (n == k.number) to (seat n) (ne_eqb n k.number ne)

    moved_fits : (seat : ℕ → ℕ) (to : ℕ) (transit other : Option (WriterView E)) (id : ℕ) (v : View E) → id ≢ seat k.number → id ≢ 0 → IsTrueView (contents log writers transit) seat id v → IsTrueView (contents log writers other) (moved seat to) id v
    moved_fits seat to transit other id (Owner o) apart ne f = absurd (ne f.0)
    moved_fits seat to transit other id (OfWriter t) apart ne f = (moved_else seat to t.number (λ same. apart (sym f.0 ∙ ap seat same)) ∙ f.0, f.1)
    moved_fits seat to transit other id Empty apart ne f = tt

    pub takes : (views : List (View E)) (other : ℕ) → FollowsRule views → get_elem? views 0 ≡ some (Owner (contents log writers None)) → other ≢ 0 → get_elem? (set views 0 (Owner (contents log writers (Some k)))) other ≡ some (OfWriter k)
        → FollowsRule (set (set views 0 (Owner (contents log writers (Some k)))) other Empty)
    takes views other r at ne there =
        let t = ready empty views r at in
        let first = set views 0 (Owner holding) in
        let was : get_elem? views other ≡ some (OfWriter k) = ⊎_elim (λ (x : (other ≡ 0) × (Owner holding ≡ OfWriter k)). absurd (ne x.0)) (λ (x : (other ≢ 0) × (get_elem? views other ≡ some (OfWriter k))). x.1) (at_set views 0 other (Owner holding) (OfWriter k) there) in
        let has = t.each other (OfWriter k) was in
        record {
          contents = holding;
          seat = moved t.seat 0;
          top = set_else first other 0 Empty (λ z. ne (sym z)) ∙ set_top views (Owner empty) (Owner holding) at;
          each = λ id v e. ⊎_elim
              (λ (x : (id ≡ other) × (Empty ≡ v)). subst (λ (y : View E). IsTrueView holding (moved t.seat 0) id y) x.1 tt)
              (λ (x : (id ≢ other) × (get_elem? first id ≡ some v)).
              ⊎_elim
              (λ (y : (id ≡ 0) × (Owner holding ≡ v)). subst (λ (z : View E). IsTrueView holding (moved t.seat 0) id z) y.1 (y.0, refl))
              (λ (y : (id ≢ 0) × (get_elem? views id ≡ some v)). moved_fits t.seat 0 None (Some k) id v (λ z. x.0 (z ∙ has.0)) y.0 (t.each id v y.1))
              (at_set views 0 id (Owner holding) v x.1))
              (at_set first other id Empty v e);
          transit = (moved_here t.seat 0, has.1);
          unused = t.unused;
        }

    -- ---- it gets a seat of its own again

    pub gives : (views : List (View E)) → FollowsRule views → get_elem? views 0 ≡ some (Owner (contents log writers (Some k))) → FollowsRule (set views 0 (Owner (contents log writers None)) ++ OfWriter k ∷ [])
    gives views r at =
        let t = ready holding views r at in
        let rest = set views 0 (Owner empty) in
        record {
          contents = empty;
          seat = moved t.seat (length rest);
          top = at_longer rest (OfWriter k ∷ []) 0 (Owner empty) (set_top views (Owner holding) (Owner empty) at);
          each = λ id v e. ⊎_elim
              (λ (was : get_elem? rest id ≡ some v).
              ⊎_elim
              (λ (y : (id ≡ 0) × (Owner empty ≡ v)). subst (λ (z : View E). IsTrueView empty (moved t.seat (length rest)) id z) y.1 (y.0, refl))
              (λ (y : (id ≢ 0) × (get_elem? views id ≡ some v)). moved_fits t.seat (length rest) (Some k) None id v (λ z. y.0 (z ∙ t.transit.0)) y.0 (t.each id v y.1))
              (at_set views 0 id (Owner empty) v was))
              (λ (x : (id ≡ length rest) × (OfWriter k ≡ v)). subst (λ (z : View E). IsTrueView empty (moved t.seat (length rest)) id z) x.1 (moved_here t.seat (length rest) ∙ sym x.0, t.transit.1))
              (at_end rest (OfWriter k) v id e);
          transit = tt;
          unused = t.unused;
        }

  -- ---- with no writer in transit nothing is appended

  module _ (log : List (Entry E)) (writers : ℕ) where
    pub stays : (views : List (View E)) → FollowsRule views → get_elem? views 0 ≡ some (Owner (contents log writers None)) → FollowsRule (set views 0 (Owner (contents log writers None)))
    stays views r at =
        let c = contents log writers None in
        let t = ready c views r at in
        record {
          contents = c;
          seat = t.seat;
          top = set_top views (Owner c) (Owner c) at;
          each = fits_set c t.seat views (λ id v ne e. t.each id v e);
          transit = tt;
          unused = t.unused;
        }

    -- ---- a new writer

    abbrev one_more : Contents E
    one_more = contents log (writers + 1) None

    new_seat : (ℕ → ℕ) → ℕ → ℕ → ℕ
    new_seat seat to n = if n == writers then to else seat n

    cut_fits : (seat : ℕ → ℕ) (to id : ℕ) (v : View E) → id ≢ 0 → IsTrueView (contents log writers None) seat id v → IsTrueView one_more (new_seat seat to) id v
    unfolding new_seat
    cut_fits seat to id (Owner o) ne f = absurd (ne f.0)
    cut_fits seat to id (OfWriter t) ne f =
        let number = f.1.number in
        (left_over (t.number == writers) to (seat t.number) (ne_eqb t.number writers (λ same. omega arith)) ∙ f.0, record { number = omega arith; seen = f.1.seen; own = f.1.own })
    cut_fits seat to id Empty ne f = tt

    pub cuts : (views : List (View E)) → FollowsRule views → get_elem? views 0 ≡ some (Owner (contents log writers None)) → FollowsRule (set views 0 (Owner (contents log (writers + 1) None)) ++ OfWriter (known writers log []) ∷ [])
    unfolding new_seat
    cuts views r at =
        let t = ready (contents log writers None) views r at in
        let rest = set views 0 (Owner one_more) in
        let to = new_seat t.seat (length rest) in
        let new : IsTrueView one_more to (length rest) (OfWriter (known writers log [])) =
        (chosen (writers == writers) (length rest) (t.seat writers) (eq-eqb writers writers refl), record { number = omega arith; seen = prefix_self log; own = t.unused writers (omega arith) }) in
        record {
          contents = one_more;
          seat = to;
          top = at_longer rest (OfWriter (known writers log []) ∷ []) 0 (Owner one_more) (set_top views (Owner (contents log writers None)) (Owner one_more) at);
          each = λ id v e. ⊎_elim
              (λ (was : get_elem? rest id ≡ some v). fits_set one_more to views (λ i u ne f. cut_fits t.seat (length rest) i u ne (t.each i u f)) id v was)
              (λ (x : (id ≡ length rest) × (OfWriter (known writers log []) ≡ v)). subst (λ (z : ℕ × View E). IsTrueView one_more to z.0 z.1) (λ i. (sym x.0 i, x.1 i)) new)
              (at_end rest (OfWriter (known writers log [])) v id e);
          transit = tt;
          unused = λ number le. t.unused number (omega arith);
        }

  -- ---- at the start

  pub opens : FollowsRule (initial_view {E = E} ∷ [])
  opens = record {
    contents = contents [] 0 None;
    seat = λ n. n;
    top = refl;
    each = first;
    transit = tt;
    unused = λ number le. refl;
  }
    where
      first : (id : ℕ) (v : View E) → get_elem? (initial_view {E = E} ∷ []) id ≡ some v → IsTrueView (contents [] 0 None) (λ n. n) id v
      first zero v e = subst (λ (y : View E). IsTrueView (contents [] 0 None) (λ n. n) 0 y) (some-injective (Owner (contents [] 0 None)) v e) (refl, refl)
      first (suc id) v e = absurd (some-ne-none v (sym e))
