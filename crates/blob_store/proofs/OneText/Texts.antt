-- Rows write the same text for each number of workers: each tenant has one worker, and its rows do what they do alone.
use Rattle.std.proofs.Common.{◌≡◌, ◌≢◌, ◌⊎◌, ◌<◌, ◌%◌, ℕ, Bool, true, false, cond, List, [], ◌∷◌, Option, Some, None, refl, sym, ap, ◌∙◌, subst, inl, inr, arith, length}
use Rattle.std.specs.Prelude.{◌==◌, nat_eq}
use Rattle.std.specs.Option.{option_eq}
use Rattle.std.specs.List.{AllByRecursion, Contains, filter, zip}
use Rattle.std.proofs.lemmas.Bool.{cases_Bool, cases_lt, eq-eqb, ne_eqb, true≢false}
use Rattle.std.proofs.lemmas.List.Elements.{All-contains_itself, All-filter, All-from_recursion, recursion_from_All}
use Rattle.std.proofs.lemmas.Nat.{mod_below}
use Rattle.std.proofs.lemmas.Slice.Zip.{firsts-zip}
use Rattle.spec_lib.proofs.Lists.{all_weaker, filter-map}
use Rattle.store_model.specs.BookText.{book_text}
use Rattle.store_model.specs.Catalog.{Catalog, Tenant, is_repo_of_tenant, opening, tenant_of, ContentRules}
use Rattle.store_model.specs.Histories.{initial_state}
use Rattle.store_model.specs.HistoryIsolation.{is_step_of, requests_of}
use Rattle.store_model.specs.HistoryIsolation as model
use Rattle.store_model.proofs.Noninterference.Histories.{alone_in_histories, same_text_after}
use Rattle.store_model.proofs.Noninterference.LocalRespect.{tenants_alike_themselves}
use Rattle.store_api.specs.Answers.{Answer}
use Rattle.store_api.specs.Commands.{is_command}
use Rattle.script_player.specs.Leases.{no_leases}
use Rattle.script_player.specs.Plays.{Plays}
use Rattle.script_player.specs.Rows.{RowView}
use Rattle.script_player.specs.Shares.{is_own, own_rows}
use Rattle.ghost_log.specs.Entries.{events_by}
use Rattle.locked_book.specs.History.{steps_of}
use Rattle.blob_store.specs.OneText.{NeitherLeaseNorSweep, PlayedWithinLimits, ShareNoTenant, WorkersWriteTheSame}
use Rattle.blob_store.specs.StoreBackends.{WorkActs}
use Rattle.blob_store.specs.Workers.{zero_work}
use Rattle.blob_store.proofs.OneText.AloneRows.{rows_alone, told_alone}
use Rattle.blob_store.proofs.OneText.RowSteps.{AreLineSteps, Line, answers_of, is_line_of, line_steps, rows_of, tenant_steps}
use Rattle.blob_store.proofs.OneText.Sharing.{all_by, all_shares, only_by, passed_all, passed_none}
use Rattle.blob_store.proofs.OneText.OwnReplies.{HasOwnReply, all_told, own_of}
use Rattle.blob_store.proofs.OneText.Unowned.{IsUnknown, all_unknown}

-- ---- a tenant's lane

-- an element passes, or none does
passing : {A : Type 0} (p : A → Bool) (P : A → Type 0) (xs : List A) → AllByRecursion P xs → ((x : A) × P x × (p x ≡ true)) ⊎ AllByRecursion (λ x. p x ≡ false) xs
passing p P [] all = inr tt
passing p P (x ∷ xs) all = elim (cases_Bool (p x)) [
  | inl passes ↦ inl (x, all.0, passes)
  | inr fails ↦ elim (passing p P xs all.1) [
    | inl y ↦ inl y
    | inr rest ↦ inr (fails, rest)
  ]
]

-- the rows of a tenant are all of one lane
lane_of : (tenants : List Tenant) (rows : List RowView) → ShareNoTenant tenants rows → (t : ℕ) → (lane : ℕ) × AllByRecursion (λ row. is_repo_of_tenant tenants t row.repo ≡ true → row.lane ≡ lane) rows
lane_of tenants rows share t = elim (passing own (Contains rows) rows there) [
  | inl x ↦ (x.0.lane, all_weaker (Contains rows) _ (λ row here is. share t row x.0 here x.1 is x.2) rows there)
  | inr nobody ↦ (0, all_weaker (λ row. own row ≡ false) _ (λ row fails is. absurd (true≢false (sym is ∙ fails))) rows nobody)
]
  where
    own : RowView → Bool
    own row = is_repo_of_tenant tenants t row.repo

    there : AllByRecursion (Contains rows) rows
    there = recursion_from_All (Contains rows) rows (All-contains_itself rows)

-- a fact of each row holds of the row of each line
all_rows : (P : RowView → Type 0) (lines : List Line) → AllByRecursion P (rows_of lines) → AllByRecursion (λ l. P l.0) lines
all_rows P [] h = tt
all_rows P (l ∷ lines) h = (h.0, all_rows P lines h.1)

-- ---- the replies to all rows

module _ (tenants : List Tenant) where
  -- if two lists without their first rows have the same replies at a tenant's rows
  after_first : (b : Bool) (l k : Line) (lines others : List Line) → answers_of (cond b (l ∷ lines) lines) ≡ answers_of (cond b (k ∷ others) others) → answers_of lines ≡ answers_of others
  after_first true l k lines others same = cc
  after_first false l k lines others same = same

  -- the first row has the reply of the other list, if its tenant's rows have the same replies
  first_alike : (row : RowView) (a b : Answer) (lines others : List Line) → ((t : ℕ) → answers_of (filter (is_line_of tenants t) ((row, a) ∷ lines)) ≡ answers_of (filter (is_line_of tenants t) ((row, b) ∷ others))) →
      IsUnknown tenants (row, a) → IsUnknown tenants (row, b) → (o : Option ℕ) → tenant_of tenants row.repo ≡ o → a ≡ b
  first_alike row a b lines others each unknown unknown' None is = unknown is ∙ sym (unknown' is)
  first_alike row a b lines others each unknown unknown' (Some t) is =
      let own : is_repo_of_tenant tenants t row.repo ≡ true = ap (λ o. option_eq nat_eq o (Some t)) is ∙ eq-eqb t t refl in
      let same : answers_of ((row, a) ∷ filter (is_line_of tenants t) lines) ≡ answers_of ((row, b) ∷ filter (is_line_of tenants t) others) = rw own at (each t) in
      cc

  -- each tenant's rows have the same replies, and each row of no tenant is unknown: so all replies are the same
  all_alike : (rows : List RowView) (answers answers' : List Answer) → length answers ≡ length rows → length answers' ≡ length rows →
      ((t : ℕ) → answers_of (filter (is_line_of tenants t) (zip rows answers)) ≡ answers_of (filter (is_line_of tenants t) (zip rows answers'))) →
      AllByRecursion (IsUnknown tenants) (zip rows answers) → AllByRecursion (IsUnknown tenants) (zip rows answers') → answers ≡ answers'
  all_alike [] [] [] size size' each unknown unknown' = refl
  all_alike [] [] (b ∷ bs) size size' each unknown unknown' = absurd (omega (arith, size'))
  all_alike [] (a ∷ more) bs size size' each unknown unknown' = absurd (omega (arith, size))
  all_alike (row ∷ rows) [] bs size size' each unknown unknown' = absurd (omega (arith, size))
  all_alike (row ∷ rows) (a ∷ more) [] size size' each unknown unknown' = absurd (omega (arith, size'))
  all_alike (row ∷ rows) (a ∷ more) (b ∷ bs) size size' each unknown unknown' =
      let here = first_alike row a b (zip rows more) (zip rows bs) each unknown.0 unknown'.0 (tenant_of tenants row.repo) refl in
      let rest = all_alike rows more bs (omega (arith, size)) (omega (arith, size'))
      (λ t. after_first (is_repo_of_tenant tenants t row.repo) (row, a) (row, b) (filter (is_line_of tenants t) (zip rows more)) (filter (is_line_of tenants t) (zip rows bs)) (each t)) unknown.1 unknown'.1 in
      λ i. here i ∷ rest i

-- ---- workers

module _ (tenants : List Tenant) (slots : ℕ) (contents : ContentRules) (rows : List RowView) (share : ShareNoTenant tenants rows) (commands : NeitherLeaseNorSweep rows) where
  abbrev book : Catalog
  book = opening tenants slots contents

  module _ (n : ℕ) (answers : List Answer) (last : Catalog) (play : PlayedWithinLimits tenants slots contents n rows answers last) where
    abbrev lines : List Line
    lines = zip rows answers

    abbrev own : ℕ → Line → Bool
    own w l = is_own n w l.0

    rows_are : rows_of lines ≡ rows
    rows_are = firsts-zip rows answers play.one_each

    told : AllByRecursion (HasOwnReply tenants) (steps_of play.run.order)
    told = all_told tenants (steps_of play.run.order) (initial_state book) play.run.state refl play.free.fair.run play.free.own

    told_by : (w : ℕ) → AllByRecursion (HasOwnReply tenants) (events_by w play.run.order)
    told_by w = all_by (HasOwnReply tenants) w play.run.order told

    own_commands : (w : ℕ) → NeitherLeaseNorSweep (own_rows n w rows)
    own_commands w = recursion_from_All _ (own_rows n w rows) (All-filter (is_own n w) (λ row. is_command row.verb ≡ true) rows (All-from_recursion _ rows commands))

    -- the steps of a worker are those of its rows
    worker_steps : (w : ℕ) → w < n → AreLineSteps (filter (own w) lines) (events_by w play.run.order)
    worker_steps w lt =
        let lane = play.run.lanes w lt in
        let is : own_rows n w rows ≡ rows_of (filter (own w) lines) = ap (own_rows n w) (sym rows_are) ∙ filter-map (is_own n w) (λ (l : Line). l.0) lines in
        let all : AllByRecursion (λ row. is_command row.verb ≡ true) (rows_of (filter (own w) lines)) = subst (AllByRecursion (λ row. is_command row.verb ≡ true)) is (own_commands w) in
        let h = line_steps (filter (own w) lines) (zero_work, no_leases) (lane.0, lane.2.0) all (subst (λ rs. Plays WorkActs (zero_work, no_leases) rs (answers_of (filter (own w) lines)) (lane.0, lane.2.0)) is lane.2.1) in
        subst (AreLineSteps (filter (own w) lines)) (sym h.2 ∙ lane.1) h.1

    module _ (t : ℕ) where
      abbrev owns : Line → Bool
      owns l = is_line_of tenants t l

      -- the worker of the tenant's lane
      abbrev lane : ℕ
      lane = (lane_of tenants rows share t).0

      abbrev worker : ℕ
      worker = lane % n

      turns : (w : ℕ) (b : Bool) → (worker == w) ≡ b → AllByRecursion (λ l. owns l ≡ true → own w l ≡ b) lines
      turns w b is =
          let all = all_rows (λ row. is_repo_of_tenant tenants t row.repo ≡ true → row.lane ≡ lane) lines (subst (AllByRecursion _) (sym rows_are) (lane_of tenants rows share t).1) in
          all_weaker _ _ (λ l at_lane mine. ap (λ k. k % n == w) (at_lane mine) ∙ is) lines all

      -- another worker makes no step of the tenant's
      no_steps : (w : ℕ) → w ≢ worker → filter (is_step_of tenants t) (events_by w play.run.order) ≡ []
      no_steps w other = elim (cases_lt w n) [
        | inl lt ↦
            let mine = tenant_steps tenants t (filter (own w) lines) (events_by w play.run.order) (worker_steps w lt) (told_by w) in
            let away : (worker == w) ≡ false = ne_eqb worker w (λ e. other (sym e)) in
            subst (λ ls. AreLineSteps ls (filter (is_step_of tenants t) (events_by w play.run.order))) (passed_none owns (own w) lines (turns w false away)) mine
        | inr above ↦ ap (filter (is_step_of tenants t)) (play.run.others w above)
      ]

      -- the tenant's steps are those of its rows
      own_steps : AreLineSteps (filter owns lines) (model.steps_of tenants t (steps_of play.run.order))
      own_steps =
          let mine = tenant_steps tenants t (filter (own worker) lines) (events_by worker play.run.order) (worker_steps worker (mod_below lane n play.some)) (told_by worker) in
          subst (AreLineSteps (filter owns lines)) (sym (only_by (is_step_of tenants t) worker play.run.order no_steps))
          (subst (λ ls. AreLineSteps ls (filter (is_step_of tenants t) (events_by worker play.run.order))) (passed_all owns (own worker) lines (turns worker true (eq-eqb worker worker refl))) mine)

      undisturbed : model.IsUnaffectedHistory tenants slots contents t (steps_of play.run.order) play.run.state play.free.fair
      undisturbed = own_of tenants t (steps_of play.run.order) (initial_state book) play.run.state play.free.fair.run play.free.own

      -- which they make alone, with these replies
      alone : (model.steps_of tenants t (steps_of play.run.order) ≡ (rows_alone book (filter (λ row. is_repo_of_tenant tenants t row.repo) rows)).0)
          × (answers_of (filter owns lines) ≡ (rows_alone book (filter (λ row. is_repo_of_tenant tenants t row.repo) rows)).1)
      alone =
          let h = alone_in_histories tenants tenants slots contents t (steps_of play.run.order) play.run.state (tenants_alike_themselves t tenants) play.free.fair undisturbed in
          let is : rows_of (filter owns lines) ≡ filter (λ row. is_repo_of_tenant tenants t row.repo) rows = sym (filter-map (λ row. is_repo_of_tenant tenants t row.repo) (λ (l : Line). l.0) lines) ∙ ap (filter (λ row. is_repo_of_tenant tenants t row.repo)) rows_are in
          let k = told_alone (filter owns lines) (model.steps_of tenants t (steps_of play.run.order)) book own_steps h.replies in
          (k.0 ∙ ap (λ rs. (rows_alone book rs).0) is, k.1 ∙ ap (λ rs. (rows_alone book rs).1) is)

    -- and the rows of no tenant are unknown
    unknown : AllByRecursion (IsUnknown tenants) lines
    unknown = all_shares (IsUnknown tenants) n play.some lines (λ w lt. all_unknown tenants (filter (own w) lines) (events_by w play.run.order) (worker_steps w lt) (told_by w))

pub one_text : WorkersWriteTheSame
one_text tenants slots contents rows share commands n m answers answers' last last' play play' =
    let by : (t : ℕ) → _ = λ t. alone tenants slots contents rows share commands n answers last play t in
    let by' : (t : ℕ) → _ = λ t. alone tenants slots contents rows share commands m answers' last' play' t in
    record {
      replies =
          all_alike tenants rows answers answers' play.one_each play'.one_each (λ t. (by t).1 ∙ sym (by' t).1) (unknown tenants slots contents rows share commands n answers last play)
          (unknown tenants slots contents rows share commands m answers' last' play');
      book =
          sym (ap book_text play.run.left)
          ∙ same_text_after tenants slots contents (steps_of play.run.order) (steps_of play'.run.order) play.run.state play'.run.state play.free.fair
          (undisturbed tenants slots contents rows share commands n answers last play) play'.free.fair
          (undisturbed tenants slots contents rows share commands m answers' last' play') (λ t. ap requests_of ((by t).0 ∙ sym (by' t).0))
          ∙ ap book_text play'.run.left;
    }
