-- A backend that counts requests has counted the amounts of the rows.
use Rattle.std.proofs.Common.{◌≡◌, ◌+◌, ◌∙◌, ◌∷◌, [], ℕ, List, false, ap, arith, inl, inr, length, Option, Some, None, Result, Ok, Err, refl, subst, sym}
use Rattle.std.specs.List.{zip}
use Rattle.std.proofs.lemmas.List.Sums.{sum_by-cons}
use Rattle.spec_lib.specs.Texts.{Text}
use Rattle.blob_digest.specs.declared.refusal.Refusal.{Refusal}
use Rattle.store_api.specs.Answers.{Answer, Bytes, Leased, Refused}
use Rattle.store_api.specs.Commands.{Command, Lease, StoreRequest, Calls, Verifies, Sweeps}
use Rattle.script_player.specs.RowCommands.{command_of}
use Rattle.script_player.specs.Counts.{abandon_count, chunk_size, closed_size, rows_amount, counted_abandons, counted_bytes, counted_closed, counted_commands, is_accepted, request_amount, row_amount, spelled_amount}
use Rattle.store_api.specs.LeaseViews.{LeaseView}
use Rattle.script_player.specs.Plays.{LendsIfNameFree, Plays, RowStep, State, VerifiesLease, named_lease}
use Rattle.store_api.specs.Steps.{StepOf}
use Rattle.script_player.specs.Rows.{RowView}

-- `Goes` relates two values of a counter by an amount: equal values by 0, and two steps by the sum of their amounts.
module _ (Goes : ℕ → ℕ → ℕ → Type 0) (stays : (a b : ℕ) → b ≡ a → Goes a 0 b) (both : (a x b y c : ℕ) → Goes a x b → Goes b y c → Goes a (x + y) c) where
  module _ (value : Command → Answer → ℕ) (lent : (repo digest bytes : Text) → value (Lease repo digest) (Bytes bytes) ≡ value (Lease repo digest) (Leased (length bytes))) where
    -- the amount of a row is that of its command, and of its lease, whose answer has the length of the bytes
    command_amount : (line : RowView) (command : Command) (answer : Answer) → command_of line ≡ Ok (Some command) → request_amount value (Calls command) answer ≡ row_amount value (line, answer)
    command_amount line command answer spells = rw spells refl

    lease_amount : (line : RowView) (bytes : Text) → command_of line ≡ Ok (Some (Lease line.repo line.digest)) → request_amount value (Calls (Lease line.repo line.digest)) (Bytes bytes) ≡ row_amount value (line, Leased (length bytes))
    lease_amount line bytes spells = rw spells (lent line.repo line.digest bytes)

    -- the amount of a row that spells no command, or is not accepted, is 0
    no_command : (line : RowView) (answer : Answer) → command_of line ≡ Ok None → row_amount value (line, answer) ≡ 0
    no_command line answer none = rw none refl

    not_accepted : (line : RowView) (answer : Answer) → is_accepted answer ≡ false → row_amount value (line, answer) ≡ 0
    not_accepted line answer none = by (command_of line)
      where
        by : (o : Result (Option Command) Refusal) → spelled_amount value o answer ≡ 0
        by (Ok (Some command)) = rw none refl
        by (Ok None) = refl
        by (Err refusal) = refl

    module _ {S : Type 0} (acts : S → StoreRequest → Answer → S → Type 0) (count : S → ℕ) (counts : (s : S) (request : StoreRequest) (answer : Answer) (t : S) → acts s request answer t → Goes (count s) (request_amount value request answer) (count t)) where
      abbrev Counts : S → RowView × Answer → S → Type 0
      Counts s p t = Goes (count s) (row_amount value p) (count t)

      unchanged : (s t : S) (p : RowView × Answer) → t ≡ s → row_amount value p ≡ 0 → Counts s p t
      unchanged s t p same none = subst (λ n. Goes (count s) n (count t)) (sym none) (stays (count s) (count t) (ap count same))

      asked : (s t : S) (request : StoreRequest) (given answer : Answer) (line : RowView) → acts s request given t → request_amount value request given ≡ row_amount value (line, answer) → Counts s (line, answer) t
      asked s t request given answer line does same = subst (λ n. Goes (count s) n (count t)) same (counts s request given t does)

      lends_counted : (o : Option LeaseView) (old new : State S) (line : RowView) (answer : Answer) → command_of line ≡ Ok (Some (Lease line.repo line.digest)) → LendsIfNameFree acts o old line answer new → Counts old.0 (line, answer) new.0
      lends_counted (Some lease) old new line answer spells h = unchanged old.0 new.0 (line, answer) (ap (λ s. s.0) h.1) (not_accepted line answer (ap is_accepted h.0))
      lends_counted None old new line answer spells h = elim h [
        | inl lends ↦ rw lends.2 (asked old.0 new.0 (Calls (Lease line.repo line.digest)) (Bytes lends.0) (Leased (length lends.0)) line lends.1 (lease_amount line lends.0 spells))
        | inr refused ↦ rw refused.2 (asked old.0 new.0 (Calls (Lease line.repo line.digest)) (Refused refused.0) (Refused refused.0) line refused.1 (command_amount line (Lease line.repo line.digest) (Refused refused.0) spells))
      ]

      verifies_counted : (o : Option LeaseView) (old new : S) (line : RowView) (answer : Answer) → command_of line ≡ Ok None → VerifiesLease acts o old answer new → Counts old (line, answer) new
      verifies_counted None old new line answer none h = unchanged old new (line, answer) h.1 (no_command line answer none)
      verifies_counted (Some lease) old new line answer none h = asked old new (Verifies (length lease.bytes)) answer answer line h (sym (no_command line answer none))

      store_counted : (o : Result (Option Command) Refusal) (old new : S) (line : RowView) (answer : Answer) → command_of line ≡ o → StepOf acts o old answer new → Counts old (line, answer) new
      store_counted (Ok (Some command)) old new line answer is h = asked old new (Calls command) answer answer line h.1 (command_amount line command answer is)
      store_counted (Ok None) old new line answer is h = absurd h
      store_counted (Err refusal) old new line answer is h = unchanged old new (line, answer) h.1 (not_accepted line answer (ap is_accepted h.0))

      row_counted : (old new : State S) (line : RowView) (answer : Answer) → RowStep acts old line answer new → Counts old.0 (line, answer) new.0
      row_counted old new line answer step = elim step [
        | inl store ↦ store_counted (command_of line) old.0 new.0 line answer refl store.0
        | inr (inl lends) ↦ lends_counted (named_lease old.1 line) old new line answer lends.1 lends.2
        | inr (inr (inl reads)) ↦ unchanged old.0 new.0 (line, answer) (ap (λ s. s.0) reads.2) (no_command line answer (rw reads.0 refl))
        | inr (inr (inr (inl shares))) ↦ unchanged old.0 new.0 (line, answer) shares.2 (no_command line answer (rw shares.0 refl))
        | inr (inr (inr (inr (inl looks)))) ↦ verifies_counted (named_lease old.1 line) old.0 new.0 line answer (rw looks.0 refl) looks.1
        | inr (inr (inr (inr (inr (inl returns))))) ↦ unchanged old.0 new.0 (line, answer) returns.2 (no_command line answer (rw returns.0 refl))
        | inr (inr (inr (inr (inr (inr sweeps))))) ↦ asked old.0 new.0 Sweeps answer answer line sweeps.1 (sym (no_command line answer (rw sweeps.0 refl)))
      ]

      plays_counted : (old new : State S) (lines : List RowView) (answers : List Answer) → Plays acts old lines answers new → Goes (count old.0) (rows_amount value lines answers) (count new.0)
      plays_counted old new [] [] h = stays (count old.0) (count new.0) (ap (λ (s : State S). count s.0) h)
      plays_counted old new [] (r ∷ rs) h = absurd h
      plays_counted old new (l ∷ ls) [] h = absurd h
      plays_counted old new (l ∷ ls) (r ∷ rs) h =
          let here = row_counted old h.0 l r h.1 in
          let rest = plays_counted h.0 new ls rs h.3 in
          subst (λ n. Goes (count old.0) n (count new.0)) (sym (sum_by-cons (row_amount value) (l, r) (zip ls rs))) (both _ _ _ _ _ here rest)

-- an amount is added
abbrev Adds : ℕ → ℕ → ℕ → Type 0
Adds a x b = b ≡ a + x

adds_none : (a b : ℕ) → b ≡ a → Adds a 0 b
adds_none a b same = omega (arith, same)

adds_both : (a x b y c : ℕ) → Adds a x b → Adds b y c → Adds a (x + y) c
adds_both a x b y c first second = omega (arith, first, second)

-- if the amount is 0, nothing changes
abbrev ChangesBy : ℕ → ℕ → ℕ → Type 0
ChangesBy a x b = x ≡ 0 → b ≡ a

changes_none : (a b : ℕ) → b ≡ a → ChangesBy a 0 b
changes_none a b same = λ _. same

changes_both : (a x b y c : ℕ) → ChangesBy a x b → ChangesBy b y c → ChangesBy a (x + y) c
changes_both a x b y c first second = λ none. second (omega (arith, none)) ∙ first (omega (arith, none))

module _ {S : Type 0} (acts : S → StoreRequest → Answer → S → Type 0) (count : S → ℕ) where
  -- a counter of accepted commands has counted those of the executed rows
  pub commands_counted : ((s : S) (request : StoreRequest) (answer : Answer) (t : S) → acts s request answer t → count t ≡ count s + request_amount (λ _ _. 1) request answer)
      → (old new : State S) (lines : List RowView) (answers : List Answer) → Plays acts old lines answers new → count new.0 ≡ count old.0 + counted_commands lines answers
  commands_counted counts = plays_counted Adds adds_none adds_both (λ _ _. 1) (λ _ _ _. refl) acts count counts

  -- a counter of the bytes of accepted chunks has counted those of the executed rows
  pub bytes_counted : ((s : S) (request : StoreRequest) (answer : Answer) (t : S) → acts s request answer t → count t ≡ count s + request_amount (λ command _. chunk_size command) request answer)
      → (old new : State S) (lines : List RowView) (answers : List Answer) → Plays acts old lines answers new → count new.0 ≡ count old.0 + counted_bytes lines answers
  bytes_counted counts = plays_counted Adds adds_none adds_both (λ command _. chunk_size command) (λ _ _ _. refl) acts count counts

  -- a counter of the sizes of accepted closes has counted those of the executed rows
  pub closed_counted : ((s : S) (request : StoreRequest) (answer : Answer) (t : S) → acts s request answer t → count t ≡ count s + request_amount closed_size request answer)
      → (old new : State S) (lines : List RowView) (answers : List Answer) → Plays acts old lines answers new → count new.0 ≡ count old.0 + counted_closed lines answers
  closed_counted counts = plays_counted Adds adds_none adds_both closed_size (λ _ _ _. refl) acts count counts

  -- a number that only accepted abandons change is unchanged if no row abandoned a session
  pub abandoned_counted : ((s : S) (request : StoreRequest) (answer : Answer) (t : S) → acts s request answer t → request_amount (λ command _. abandon_count command) request answer ≡ 0 → count t ≡ count s)
      → (old new : State S) (lines : List RowView) (answers : List Answer) → Plays acts old lines answers new → counted_abandons lines answers ≡ 0 → count new.0 ≡ count old.0
  abandoned_counted counts = plays_counted ChangesBy changes_none changes_both (λ command _. abandon_count command) (λ _ _ _. refl) acts count counts
