-- The progress of each worker among its rows, with the hands that are out, and a step of one worker while the others wait.
use Rattle.std.proofs.Common.{◌≡◌, ◌≢◌, ◌⊎◌, ◌<◌, ◌≤◌, ◌%◌, ◌==◌, ◌∷◌, [], ℕ, cond, List, Option, Some, None, refl, sym, ap, ◌∙◌, subst, inl, inr, arith}
use Rattle.std.specs.List.{AllByRecursion}
use Rattle.std.specs.FinMap.{get, insert, remove}
use Rattle.std.proofs.lemmas.Bool.{cases_eq, eq-eqb, ne_eqb}
use Rattle.std.proofs.lemmas.Option.{same_Some}
use Rattle.blob_digest.proofs.KeyOrders.{number_cmp_total, exact_number}
use Rattle.spec_lib.proofs.Maps.{cases_key, get-insert_at, get-insert_other, get-remove_other}
use Rattle.spec_lib.proofs.Sums.{get-remove_same}
use Rattle.ghost_log.specs.Entries.{events_by}
use Rattle.ghost_log.specs.declared.view.Entry.{Entry}
use Rattle.store_model.specs.Catalog.{SessionNumber}
use Rattle.store_model.specs.Histories.{Step}
use Rattle.store_model.specs.Runs.{Event}
use Rattle.store_model.specs.WholeCommands.{CheckedOutSessions, CheckedOut}
use Rattle.store_api.specs.Answers.{Answer}
use Rattle.script_player.specs.Leases.{Leases}
use Rattle.script_player.specs.Rows.{RowView}
use Rattle.blob_store.specs.RowOrders.{IsContentionFreeAnswer}
use Rattle.blob_store.proofs.RowOrders.Rows.{AreLeft, IsReturn, IsRowOf, Taking, hand_of_take}

-- ---- the place of a worker

-- the hand that a worker has out, the leases of its lanes, and its rows that aren't completed
pub record Place : Type 0 where
  pub out : Option Taking
  pub held : Leases
  pub rows : List (RowView × Answer)

-- a worker has a hand out by its next row: its next step completes the row
pub record IsMidway (t : Taking) (held : Leases) (rows : List (RowView × Answer)) (steps : List Step) : Type 0 where
  pub its_number : t.hand.key.1 ≡ t.number
  pub its_reserve : t.hand.reserved ≡ t.len
  pub step : Step
  pub event : Event
  pub returns : IsReturn t step event
  pub row : RowView × Answer
  pub rest : List (RowView × Answer)
  pub next : rows ≡ row ∷ rest
  pub later : List Step
  pub left : Leases
  pub is : steps ≡ step ∷ later
  pub does : IsRowOf held row.0 row.1 (event ∷ []) left
  pub goes_on : AreLeft left rest later

-- the worker's remaining steps are those of its rows
abbrev pub Goes : Option Taking → Leases → List (RowView × Answer) → List Step → Type 0
Goes None held rows steps = AreLeft held rows steps
Goes (Some t) held rows steps = IsMidway t held rows steps

abbrev pub GoesOn : Place → List Step → Type 0
GoesOn p steps = Goes p.out p.held p.rows steps

-- rows of a worker, none of which fails for a reason that a hand can cause
abbrev pub AreOwn : ℕ → ℕ → List (RowView × Answer) → Type 0
AreOwn n w rows = AllByRecursion (λ p. (p.0.lane % n ≡ w) × IsContentionFreeAnswer p.1) rows

-- all workers, with the remaining entries
pub record AreInProgress (n : ℕ) (es : List (Entry Step)) (of : ℕ → Place) : Type 0 where
  pub each : (w : ℕ) → w < n → GoesOn (of w) (events_by w es)
  pub others : (w : ℕ) → n ≤ w → events_by w es ≡ []
  pub own : (w : ℕ) → w < n → AreOwn n w (of w).rows

-- the hands that are out are those of workers, each that of one
pub record AreHandsOf (n : ℕ) (hands : CheckedOutSessions) (of : ℕ → Place) : Type 0 where
  pub lent : (w : ℕ) (t : Taking) → (of w).out ≡ Some t → get hands t.hand.key ≡ Some (hand_of_take t)
  pub apart : (v w : ℕ) (t u : Taking) → (of v).out ≡ Some t → (of w).out ≡ Some u → t.hand.key ≡ u.hand.key → v ≡ w
  pub owner : (k : SessionNumber) (out : CheckedOut) → get hands k ≡ Some out → (w : ℕ) × (t : Taking) × (w < n) × ((of w).out ≡ Some t) × (t.hand.key ≡ k)

-- ---- a step of one worker

-- the places with another for one worker
abbrev pub place_at : ℕ → Place → (ℕ → Place) → ℕ → Place
place_at w x of v = cond (v == w) x (of v)

pub put_at : (w : ℕ) (x : Place) (of : ℕ → Place) → place_at w x of w ≡ x
put_at w x of = ap (λ b. cond b x (of w)) (eq-eqb w w refl)

pub put_other : (v w : ℕ) (x : Place) (of : ℕ → Place) → v ≢ w → place_at w x of v ≡ of v
put_other v w x of other = ap (λ b. cond b x (of v)) (ne_eqb v w other)

-- if `f` is the same for the new place, it is the same for every worker's
pub put_alike : {A : Type 0} (w : ℕ) (x : Place) (of : ℕ → Place) (f : Place → A) → f x ≡ f (of w) → (v : ℕ) → f (place_at w x of v) ≡ f (of v)
put_alike w x of f same v = elim (cases_eq v w) [
  | inl e ↦ ap (λ u. f (place_at w x of u)) e ∙ ap f (put_at w x of) ∙ same ∙ ap (λ u. f (of u)) (sym e)
  | inr other ↦ ap f (put_other v w x of other)
]

module _ (n w : ℕ) (lt : w < n) (of : ℕ → Place) (x : Place) where
  abbrev new : ℕ → Place
  new = place_at w x of

  pub goes : (es fs : List (Entry Step)) → AreInProgress n es of → ((v : ℕ) → v ≢ w → events_by v fs ≡ events_by v es) → GoesOn x (events_by w fs) → AreOwn n w x.rows → AreInProgress n fs new
  goes es fs going same here mine = record {
    each = λ v below. elim (cases_eq v w) [
      | inl e ↦ subst (λ u. GoesOn (new u) (events_by u fs)) (sym e) (subst (λ (p : Place). GoesOn p (events_by w fs)) (sym (put_at w x of)) here)
      | inr other ↦ subst (λ (p : Place). GoesOn p (events_by v fs)) (sym (put_other v w x of other)) (subst (λ steps. GoesOn (of v) steps) (sym (same v other)) (going.each v below))
    ];
    others = λ v above. same v (λ e. absurd (omega (arith, lt, above, e))) ∙ going.others v above;
    own = λ v below. elim (cases_eq v w) [
      | inl e ↦ subst (λ u. AreOwn n u (new u).rows) (sym e) (subst (λ (p : Place). AreOwn n w p.rows) (sym (put_at w x of)) mine)
      | inr other ↦ subst (λ (p : Place). AreOwn n v p.rows) (sym (put_other v w x of other)) (going.own v below)
    ];
  }

  -- the worker that has a hand out then
  has_out : (v : ℕ) (t : Taking) → (new v).out ≡ Some t → ((v ≡ w) × (x.out ≡ Some t)) ⊎ ((v ≢ w) × ((of v).out ≡ Some t))
  has_out v t is = elim (cases_eq v w) [
    | inl e ↦ inl (e, ap (λ (p : Place). p.out) (sym (ap new e ∙ put_at w x of)) ∙ is)
    | inr other ↦ inr (other, ap (λ (p : Place). p.out) (sym (put_other v w x of other)) ∙ is)
  ]

  still_out : (v : ℕ) (t : Taking) → v ≢ w → (of v).out ≡ Some t → (new v).out ≡ Some t
  still_out v t other is = ap (λ (p : Place). p.out) (put_other v w x of other) ∙ is

  none_out : (v : ℕ) (t : Taking) → (of w).out ≡ None → (of v).out ≡ Some t → v ≢ w
  none_out v t none is e = absurd (let h : None ≡ Some t = sym none ∙ ap (λ u. (of u).out) (sym e) ∙ is in cc)

  -- no hand goes out or comes back
  pub same_out : (hands : CheckedOutSessions) → (of w).out ≡ None → x.out ≡ None → AreHandsOf n hands of → AreHandsOf n hands new
  same_out hands was is out = record {
    lent = λ v t has. out.lent v t (theirs v t has);
    apart = λ v u t s a b same. out.apart v u t s (theirs v t a) (theirs u s b) same;
    owner = λ k o found. (let h = out.owner k o found in (h.0, h.1, h.2, still_out h.0 h.1 (none_out h.0 h.1 was h.3) h.3, h.4));
  }
    where
      theirs : (v : ℕ) (t : Taking) → (new v).out ≡ Some t → (of v).out ≡ Some t
      theirs v t has = elim (has_out v t has) [
        | inl h ↦ absurd (let e : None ≡ Some t = sym is ∙ h.1 in cc)
        | inr h ↦ h.1
      ]

  -- a hand goes out
  pub one_out : (hands : CheckedOutSessions) (t : Taking) → (of w).out ≡ None → x.out ≡ Some t → get hands t.hand.key ≡ None → AreHandsOf n hands of → AreHandsOf n (insert hands t.hand.key (hand_of_take t)) new
  one_out hands t was is free out = record {
    lent = λ v u has. elim (has_out v u has) [
      | inl h ↦ subst (λ (y : Taking). get after y.hand.key ≡ Some (hand_of_take y)) (same_Some t u (sym is ∙ h.1)) (get-insert_at number_cmp_total exact_number hands t.hand.key (hand_of_take t))
      | inr h ↦ get-insert_other number_cmp_total exact_number hands t.hand.key (hand_of_take t) u.hand.key (λ e. away v u h.1 (sym e)) ∙ out.lent v u h.1
    ];
    apart = λ v u a b has_a has_b same. elim (has_out v a has_a) [
      | inl h ↦ elim (has_out u b has_b) [
        | inl k ↦ h.0 ∙ sym k.0
        | inr k ↦ absurd (away u b k.1 (ap (λ (y : Taking). y.hand.key) (same_Some t a (sym is ∙ h.1)) ∙ same))
      ]
      | inr h ↦ elim (has_out u b has_b) [
        | inl k ↦ absurd (away v a h.1 (ap (λ (y : Taking). y.hand.key) (same_Some t b (sym is ∙ k.1)) ∙ sym same))
        | inr k ↦ out.apart v u a b h.1 k.1 same
      ]
    ];
    owner = λ k o found. elim (cases_key number_cmp_total exact_number k t.hand.key) [
      | inl e ↦ (w, t, lt, ap (λ (p : Place). p.out) (put_at w x of) ∙ is, sym e)
      | inr other ↦ (let h = out.owner k o (sym (get-insert_other number_cmp_total exact_number hands t.hand.key (hand_of_take t) k other) ∙ found) in (h.0, h.1, h.2, still_out h.0 h.1 (none_out h.0 h.1 was h.3) h.3, h.4))
    ];
  }
    where
      after : CheckedOutSessions
      after = insert hands t.hand.key (hand_of_take t)

      away : (v : ℕ) (u : Taking) → (of v).out ≡ Some u → t.hand.key ≢ u.hand.key
      away v u has e = absurd (let h : None ≡ Some (hand_of_take u) = sym free ∙ ap (get hands) e ∙ out.lent v u has in cc)

  -- a hand comes back
  pub one_back : (hands : CheckedOutSessions) (t : Taking) → (of w).out ≡ Some t → x.out ≡ None → AreHandsOf n hands of → AreHandsOf n (remove hands t.hand.key) new
  one_back hands t was is out = record {
    lent = λ v u has. (let h = theirs v u has in get-remove_other number_cmp_total exact_number hands t.hand.key u.hand.key (λ e. h.0 (out.apart v w u t h.1 was e)) ∙ out.lent v u h.1);
    apart = λ v u a b has_a has_b same. out.apart v u a b (theirs v a has_a).1 (theirs u b has_b).1 same;
    owner = λ k o found. elim (cases_key number_cmp_total exact_number k t.hand.key) [
      | inl e ↦ absurd (let h : None ≡ Some o = sym (get-remove_same number_cmp_total exact_number hands t.hand.key) ∙ ap (get (remove hands t.hand.key)) (sym e) ∙ found in cc)
      | inr other ↦
          let h = out.owner k o (sym (get-remove_other number_cmp_total exact_number hands t.hand.key k other) ∙ found) in
          let not_w : h.0 ≢ w = λ e. other (sym h.4 ∙ ap (λ (y : Taking). y.hand.key) (same_Some h.1 t (sym h.3 ∙ ap (λ u. (of u).out) e ∙ was))) in
          (h.0, h.1, h.2, still_out h.0 h.1 not_w h.3, h.4)
    ];
  }
    where
      theirs : (v : ℕ) (t : Taking) → (new v).out ≡ Some t → (v ≢ w) × ((of v).out ≡ Some t)
      theirs v u has = elim (has_out v u has) [
        | inl h ↦ absurd (let e : None ≡ Some u = sym is ∙ h.1 in cc)
        | inr h ↦ h
      ]
