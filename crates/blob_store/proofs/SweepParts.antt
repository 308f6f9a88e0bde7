-- Parts of a sweep, one after another.
use Rattle.std.proofs.Common.{◌≡◌, ◌+◌, ℕ, List, [], ◌∷◌, ◌++◌, map, refl, sym, ap, ◌∙◌, append_assoc, subst, arith}
use Rattle.std.specs.List.{sum_by}
use Rattle.std.proofs.lemmas.List.{append-nil, map-append}
use Rattle.std.proofs.lemmas.List.Sums.{sum_by-append, sum_by-cons}
use Rattle.ghost_log.specs.Entries.{entry}
use Rattle.locked_book.specs.Counting.{StoreContent}
use Rattle.locked_book.specs.Found.{AreParts, IsPartOf, swept_in_all}
use Rattle.locked_book.specs.History.{DeskView, Makes}
use Rattle.locked_book.specs.Names.{StoreNames}
use Rattle.locked_book.proofs.Counted.{plus_nothing}
use Rattle.store_model.specs.Histories.{Step, SweepPartCall}
use Rattle.store_model.specs.declared.swept.Swept.{Swept}
use Rattle.blob_store.specs.SweepParts.{MakesParts, with_part}

-- no counts
abbrev pub none_swept : Swept
none_swept = record { condemned = 0; freed = 0; held = 0; retired = 0 }

-- no part
pub no_parts : (names : StoreNames) (desk : DeskView) → MakesParts names 0 none_swept desk desk
no_parts names desk = record {
  parts = [];
  are = refl;
  sums = refl;
  own = sym (append-nil desk.trace.own);
  amounts = refl;
  number = refl;
  durable = refl;
  seen = ([], append-nil desk.trace.seen);
}

module _ (names : StoreNames) where
  -- one part more
  parts_more : (from mid to : ℕ) (parts : List Swept) → AreParts names from mid parts → (s : Swept) (before after : StoreContent) → IsPartOf names mid to before s after → AreParts names from to (parts ++ s ∷ [])
  parts_more from mid to [] are s before after part = (to, before, after, subst (λ k. IsPartOf names k to before s after) (sym are) part, refl)
  parts_more from mid to (p ∷ parts) are s before after part = (are.0, are.1, are.2, are.3, parts_more are.0 mid to parts are.4 s before after part)

  sum_more : (f : Swept → ℕ) (parts : List Swept) (s : Swept) → sum_by f parts + f s ≡ sum_by f (parts ++ s ∷ [])
  sum_more f parts s =
      let all = sum_by-append f parts (s ∷ []) in
      let one = sum_by-cons f s [] in
      omega arith

  -- the counts with those of one part more
  pub counts_more : (parts : List Swept) (s : Swept) → with_part (swept_in_all parts) s ≡ swept_in_all (parts ++ s ∷ [])
  counts_more parts s = λ i. record {
    condemned = sum_more (λ x. x.condemned) parts s i;
    freed = sum_more (λ x. x.freed) parts s i;
    held = sum_more (λ x. x.held) parts s i;
    retired = sum_more (λ x. x.retired) parts s i;
  }

  -- the desk makes the step of one part more
  pub makes_more : (mid to : ℕ) (swept s : Swept) (old desk new : DeskView) (before after : StoreContent) → MakesParts names mid swept old desk → IsPartOf names mid to before s after → Makes names.opening (SweepPartCall s) desk new → MakesParts names to (with_part swept s) old new
  makes_more mid to swept s old desk new before after made part step = record {
    parts = made.parts ++ s ∷ [];
    are = parts_more 0 mid to made.parts made.are s before after part;
    sums = ap (λ (x : Swept). with_part x s) made.sums ∙ counts_more made.parts s;
    own = step.adds.own ∙ ap (λ (xs : List Step). xs ++ SweepPartCall s ∷ []) made.own ∙ append_assoc old.trace.own (map SweepPartCall made.parts) (SweepPartCall s ∷ []) ∙ ap (λ (xs : List Step). old.trace.own ++ xs) (sym (map-append SweepPartCall made.parts (s ∷ [])));
    amounts = step.amounts ∙ sym (plus_nothing desk.amounts) ∙ made.amounts;
    number = step.adds.number ∙ made.number;
    durable = step.adds.durable ∙ made.durable;
    seen = (
      made.seen.0 ++ (step.adds.between ++ entry desk.trace.number (SweepPartCall s) ∷ []),
      sym (append_assoc old.trace.seen made.seen.0 (step.adds.between ++ entry desk.trace.number (SweepPartCall s) ∷ []))
          ∙ ap (λ xs. xs ++ (step.adds.between ++ entry desk.trace.number (SweepPartCall s) ∷ [])) made.seen.1
          ∙ sym (append_assoc desk.trace.seen step.adds.between (entry desk.trace.number (SweepPartCall s) ∷ []))
          ∙ sym step.adds.seen,
    );
  }
