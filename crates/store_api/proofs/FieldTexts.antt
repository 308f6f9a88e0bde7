-- The values that fields spell, by the tests of the fields.
use Rattle.std.proofs.Common.{◌≡◌, ◌≢◌, ◌∙◌, ◌∷◌, [], ◌^◌, Bool, true, false, Some, Ok, Err, length, refl, sym}
use Rattle.std.specs.Prelude.{nat_le, nat_lt}
use Rattle.std.proofs.Math.Bridge.{le_prop}
use Rattle.std.proofs.lemmas.Bool.{false≢true, leb-true, le-leb, lt-ltb, ltb-true}
use Rattle.spec_lib.specs.Texts.{Text}
use Rattle.blob_digest.specs.NameMachine.{is_repo_name}
use Rattle.blob_digest.specs.declared.range.ByteRange.{ByteRange}
use Rattle.blob_digest.specs.declared.refusal.Refusal.TheVariants.{NameInvalid}
use Rattle.store_api.specs.Commands.{source_in, range_of_tests, range_of_ends}

pub source_ok : (text : Text) → length text ≢ 0 → is_repo_name text ≡ true → source_in text ≡ Ok (Some text)
source_ok [] some h = absurd (some refl)
source_ok (c ∷ cs) some h = rw h refl

pub source_bad : (text : Text) → length text ≢ 0 → is_repo_name text ≡ false → source_in text ≡ Err NameInvalid
source_bad [] some h = absurd (some refl)
source_bad (c ∷ cs) some h = rw h refl

-- the ends of a range spell that range
pub range_holds : (r : ByteRange) → range_of_ends (Some (r.start, r.end)) ≡ Ok (Some r)
range_holds r = go (nat_le r.start r.end) (nat_lt r.end (2 ^ 63)) refl refl
  where
    go : (o s : Bool) (p : nat_le r.start r.end ≡ o) (q : nat_lt r.end (2 ^ 63) ≡ s) → range_of_tests r.start r.end o s p q ≡ Ok (Some r)
    go true true p q = λ i. Ok (Some (record { start = r.start; end = r.end; ordered = le_prop (leb-true r.start r.end p) r.ordered i; small = le_prop (ltb-true r.end (2 ^ 63) q) r.small i }))
    go true false p q = absurd (false≢true (sym q ∙ lt-ltb r.end (2 ^ 63) r.small))
    go false s p q = absurd (false≢true (sym p ∙ le-leb r.start r.end r.ordered))
