-- Texts that workers write for the same rows.
use Rattle.std.proofs.Common.{◌≡◌, ◌<◌, ◌++◌, ◌∙◌, ℕ, List, length, ap, refl, subst}
use Rattle.blob_digest.specs.Tenants.{Tenant}
use Rattle.store_model.specs.BookText.{book_text}
use Rattle.store_model.specs.Catalog.{Catalog, opening, in_memory}
use Rattle.store_model.specs.Histories.{LeadsTo}
use Rattle.store_book.specs.Openings.{OpensCatalog}
use Rattle.locked_book.specs.History.{steps_of}
use Rattle.blob_store.specs.OneText.{MeetsNoLimit, PlayedWithinLimits, WorkersWriteTheSame}
use Rattle.blob_store.specs.Workers.{IsInterleaved}
use Rattle.store_api.specs.Answers.{Answer}
use Rattle.script_player.specs.Replies.{replies_text}
use Rattle.script_player.specs.Rows.{RowView}
use Rattle.blobctl.specs.WorkersText.{AreApart, MeetNoLimit}
use Rattle.blobctl.proofs.OneOpening.{one_opening}

-- a play of workers that met no shared limit
pub record Play (tenants : List Tenant) (slots max_blob : ℕ) (rows : List RowView) (first : Catalog) (answers : List Answer) (last : Catalog) : Type 0 where
  pub opened : OpensCatalog tenants slots (in_memory max_blob) first
  pub workers : ℕ
  pub some : 0 < workers
  pub one_each : length answers ≡ length rows
  pub run : IsInterleaved first workers rows answers last
  pub free : MeetNoLimit slots max_blob run

module _ (tenants : List Tenant) (slots max_blob : ℕ) (rows : List RowView) where
  -- the run is within the limits of the opening catalog, because it began there
  within : (ts : List Tenant) (first last : Catalog) (answers : List Answer) (play : Play tenants slots max_blob rows first answers last) → first.tenants ≡ ts → PlayedWithinLimits ts slots (in_memory max_blob) play.workers rows answers last
  within ts first last answers play same =
      let opened : first ≡ opening ts slots (in_memory max_blob) = play.opened.empty ∙ ap (λ xs. opening xs slots (in_memory max_blob)) same in
      let run = play.run in
      record {
        some = play.some;
        one_each = play.one_each;
        run = record {
          order = run.order;
          state = run.state;
          legal = subst (λ C. LeadsTo C (steps_of run.order) run.state) opened run.legal;
          left = run.left;
          lanes = run.lanes;
          others = run.others;
        };
        free = subst (λ xs. MeetsNoLimit xs slots (in_memory max_blob) (steps_of run.order) run.state) same play.free;
      }

  pub same_texts : WorkersWriteTheSame → (first first' last last' : Catalog) (answers answers' : List Answer) (one : Play tenants slots max_blob rows first answers last) (two : Play tenants slots max_blob rows first' answers' last') →
      AreApart first.tenants rows → replies_text answers ++ book_text last ≡ replies_text answers' ++ book_text last'
  same_texts law first first' last last' answers answers' one two are_apart =
      let opening_same : first'.tenants ≡ first.tenants = ap (λ (C : Catalog). C.tenants) (one_opening tenants slots (in_memory max_blob) first' first two.opened one.opened) in
      let same = law first.tenants slots (in_memory max_blob) rows are_apart.share are_apart.neither one.workers two.workers answers answers' last last' (within first.tenants first last answers one refl) (within first.tenants first' last' answers' two opening_same) in
      λ i. replies_text (same.replies i) ++ same.book i
