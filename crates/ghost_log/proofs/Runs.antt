-- Each call of a run preserves the law.
use Rattle.std.proofs.Common.{◌≡◌, ◌≢◌, ℕ, zero, suc, ◌+◌, ◌<◌, ◌≤◌, List, [], ◌∷◌, ◌++◌, length, set, refl, sym, ap, ◌∙◌, subst, ⊎_elim, arith, append_assoc, length-set, length-append}
use Rattle.std.proofs.lemmas.List.{append-nil}
use mathlib.Core.Option.{some, some-ne-none}
use lib.ListN.{get_elem?}
use Rattle.atomic_table.specs.Seated.{TableId}
use Rattle.atomic_table.proofs.Lists.{at_set}
use Rattle.ghost_log.specs.Entries.{Entry, entry, events_by, IsPrefix}
use Rattle.ghost_log.specs.Calls.{Log, Writer, Agrees, with_writer, new_writer, with_entry, writer_after_append, writer_after_catch_up}
use Rattle.ghost_log.specs.Laws.{Call, Joins, Appends, CatchesUp, LogMoment, initial_moment, CallLeads, IsLogRun, appended_in, EveryRun}
use Rattle.ghost_log.proofs.Lists.{prefix_self, prefix_more, at_end, events_own, events_other}

pub in_range : {A : Type 0} (l : List A) (i : ℕ) (a : A) → get_elem? l i ≡ some a → i < length l
in_range [] i a e = absurd (some-ne-none a (sym e))
in_range (x ∷ xs) zero a e = omega arith
in_range (x ∷ xs) (suc i) a e = let h = in_range xs i a e in omega arith

module _ {E : Type 0} where
  -- the view of a writer of a log with these entries
  record Stands (entries : List (Entry E)) (n : ℕ) (w : Writer E) : Type 0 where
    number : w.number ≡ n
    seen : IsPrefix w.seen entries
    own : events_by n entries ≡ w.own

  -- the views of all writers at one moment
  record AllAgree (m : LogMoment E) : Type 0 where
    count : length m.writers ≡ m.log.writers
    each : (n : ℕ) (w : Writer E) → get_elem? m.writers n ≡ some w → Stands m.log.entries n w
    unused : (n : ℕ) → m.log.writers ≤ n → events_by n m.log.entries ≡ []

  joins : (m : LogMoment E) → AllAgree m → AllAgree (record { log = with_writer m.log; writers = m.writers ++ new_writer m.log ∷ [] })
  joins m k = record {
    count = length-append m.writers (new_writer m.log ∷ []) ∙ ap (λ x. x + 1) k.count;
    each = λ n w e. ⊎_elim
        (λ was. k.each n w was)
        (λ (x : (n ≡ length m.writers) × (new_writer m.log ≡ w)).
        let is : n ≡ m.log.writers = x.0 ∙ k.count in
        subst (λ (v : Writer E). Stands m.log.entries n v) x.1 (record { number = sym is; seen = prefix_self m.log.entries; own = k.unused n (omega arith) }))
        (at_end m.writers (new_writer m.log) w n e);
    unused = λ n le. k.unused n (omega arith);
  }

  longer : (entries : List (Entry E)) (n i : ℕ) (w : Writer E) (event : E) → n ≢ i → Stands entries i w → Stands (entries ++ entry n event ∷ []) i w
  longer entries n i w event ne s = record {
    number = s.number;
    seen = prefix_more w.seen entries (entry n event ∷ []) s.seen;
    own = events_other n i entries (event ∷ []) ne ∙ s.own;
  }

  appends : (m : LogMoment E) (n : ℕ) (w : Writer E) (event : E) → AllAgree m → get_elem? m.writers n ≡ some w → AllAgree (record { log = with_entry n event m.log; writers = set m.writers n (writer_after_append event m.log.entries w) })
  appends m n w event k at =
      let s = k.each n w at in
      let within : n < length m.writers = in_range m.writers n w at in
      let count = k.count in
      let after = writer_after_append event m.log.entries w in
      record {
        count = length-set m.writers n after ∙ k.count;
        each = λ i v e. ⊎_elim
            (λ (x : (i ≡ n) × (after ≡ v)).
            subst (λ (z : ℕ × Writer E). Stands (m.log.entries ++ entry n event ∷ []) z.0 z.1) (λ j. (sym x.0 j, x.1 j)) (record {
              number = s.number;
              seen = ([], append-nil after.seen ∙ ap (λ b. m.log.entries ++ entry b event ∷ []) s.number);
              own = events_own n m.log.entries (event ∷ []) ∙ ap (λ xs. xs ++ event ∷ []) s.own;
            }))
            (λ (x : (i ≢ n) × (get_elem? m.writers i ≡ some v)). longer m.log.entries n i v event (λ same. x.0 (sym same)) (k.each i v x.1))
            (at_set m.writers n i after v e);
        unused = λ i le. events_other n i m.log.entries (event ∷ []) (λ same. omega arith) ∙ k.unused i le;
      }

  catches_up : (m : LogMoment E) (n : ℕ) (w : Writer E) → AllAgree m → get_elem? m.writers n ≡ some w → AllAgree (record { log = m.log; writers = set m.writers n (writer_after_catch_up m.log.entries w) })
  catches_up m n w k at =
      let s = k.each n w at in
      let after = writer_after_catch_up m.log.entries w in
      record {
        count = length-set m.writers n after ∙ k.count;
        each = λ i v e. ⊎_elim
            (λ (x : (i ≡ n) × (after ≡ v)).
            subst (λ (z : ℕ × Writer E). Stands m.log.entries z.0 z.1) (λ j. (sym x.0 j, x.1 j)) (record { number = s.number; seen = prefix_self m.log.entries; own = s.own }))
            (λ (x : (i ≢ n) × (get_elem? m.writers i ≡ some v)). k.each i v x.1)
            (at_set m.writers n i after v e);
        unused = k.unused;
      }

  -- a moment given by its parts
  at_parts : (m : LogMoment E) (l : Log E) (ws : List (Writer E)) → m.log ≡ l → m.writers ≡ ws → AllAgree (record { log = l; writers = ws }) → AllAgree m
  at_parts m l ws log writers k = subst (λ (x : LogMoment E). AllAgree x) (λ j. record { log = sym log j; writers = sym writers j }) k

  happens : (m m' : LogMoment E) (c : Call E) → AllAgree m → CallLeads m c m' → AllAgree m'
  happens m m' Joins k h = at_parts m' _ _ h.0 h.1 (joins m k)
  happens m m' (Appends n event) k h = at_parts m' _ _ h.0 h.1.2 (appends m n h.1.0 event k h.1.1)
  happens m m' (CatchesUp n) k h = at_parts m' _ _ h.0 h.1.2 (catches_up m n h.1.0 k h.1.1)

  -- the entries after one call
  entries_after : (m m' : LogMoment E) (c : Call E) (cs : List (Call E)) → CallLeads m c m' → m'.log.entries ++ appended_in cs ≡ m.log.entries ++ appended_in (c ∷ cs)
  entries_after m m' Joins cs h = ap (λ (l : Log E). l.entries ++ appended_in cs) h.0
  entries_after m m' (Appends n event) cs h = ap (λ (l : Log E). l.entries ++ appended_in cs) h.0 ∙ append_assoc m.log.entries (entry n event ∷ []) (appended_in cs)
  entries_after m m' (CatchesUp n) cs h = ap (λ (l : Log E). l.entries ++ appended_in cs) h.0

  runs : (calls : List (Call E)) (m m' : LogMoment E) → AllAgree m → IsLogRun m calls m' → AllAgree m' × (m'.log.entries ≡ m.log.entries ++ appended_in calls)
  runs [] m m' k run = (subst (λ (x : LogMoment E). AllAgree x) (sym run) k, ap (λ (x : LogMoment E). x.log.entries) run ∙ sym (append-nil m.log.entries))
  runs (c ∷ cs) m m' k run =
      let rest = runs cs run.0 m' (happens m run.0 c k run.1) run.2 in
      (rest.0, rest.1 ∙ entries_after m run.0 c cs run.1)

  opens : (name : TableId) → AllAgree (initial_moment {E = E} name)
  opens name = record { count = refl; each = λ n w e. absurd (some-ne-none w (sym e)); unused = λ n le. refl }

  agrees : (m : LogMoment E) (n : ℕ) (w : Writer E) → AllAgree m → get_elem? m.writers n ≡ some w → (w.number ≡ n) × Agrees m.log w
  agrees m n w k at =
      let s = k.each n w at in
      let number = s.number in
      let within : n < length m.writers = in_range m.writers n w at in
      let count = k.count in
      (s.number, record { number = omega arith; seen = s.seen; own = ap (λ b. events_by b m.log.entries) s.number ∙ s.own; unused = k.unused })

pub every_run : (E : Type 0) → EveryRun E
every_run E name calls m run = let r = runs calls (initial_moment name) m (opens name) run in record { entries = r.1; writers = λ n w at. agrees m n w r.0 at }
