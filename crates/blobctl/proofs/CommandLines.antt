-- The words of the command line as `clap` and the options read them.
use Rattle.std.proofs.Common.{◌≡◌, ℕ, ◌<◌, ◌^◌, List, [], ◌∷◌, length, map, Option, Some, None, Result, Ok, Err, refl, true, sym, ap, ◌∙◌, codes, subst, inl, inr, ℤ, w64}
use Rattle.std.specs.Prelude.{IsSomeAnd, MatchOption, false, option_map, pos, unwrap_or}
use Rattle.std.specs.Borrow.{Bor}
use Rattle.std.specs.Str.Parse.{IsNumeral, ParsesUnsigned, digits_value, without_leading_plus}
use Rattle.std.proofs.lemmas.Option.{same_Some}
use Rattle.clap.specs.Matches.{ReadsOne}
use Rattle.clap.specs.Faults.{fault_of, is_simple_and_free}
use Rattle.clap.specs.Kinds.{HasKind, IsAmong}
use Rattle.clap.specs.Values.{kind_of, unsigned_up_to}
use Rattle.clap.specs.declared.error.Error.{Error}
use Rattle.clap.specs.Simple.{is_simple, matches_of}
use Rattle.clap.specs.Walk.{Row, one_of, rule_of, texts}
use Rattle.clap.specs.Texts.{items_of}
use Rattle.clap.specs.declared.builder.action.ArgAction.TheVariants.{Append}
use Rattle.clap.specs.declared.builder.arg.Arg.{Arg}
use Rattle.clap.specs.declared.builder.range.ValueRange.{ValueRange}
use Rattle.clap.specs.declared.builder.value_parser.ValueParser.{ValueParser}
use Rattle.clap.specs.declared.builder.value_parser.ValueParser.TheVariants.{Unsigned}
use Rattle.std.specs.Int.{saturate_unsigned}
use Rattle.std.specs.Ordering.{nat_cmp, ord_max}
use Rattle.clap.proofs.OnLiterals.{clap_on_literals}
use Rattle.clap.specs.declared.error.kind.ErrorKind.{ErrorKind}
use Rattle.spec_lib.specs.Texts.{Text}
use Rattle.blobctl.specs.Arguments.{HasNumber, RefusesFound, RefusesWords, program, tenant_args}
use Rattle.blobctl.specs.Stops.{IsStopFor}
use Rattle.tenant_args.specs.Tenants.{HasBadTenant}
use Rattle.blobctl.specs.declared.options.Stop.{Stop}
use Rattle.blobctl.specs.declared.options.Stop.TheVariants.{Help, Usage, BadTenant, NotUtf8, Memory}

pub program_is_simple : is_simple program ≡ true
program_is_simple = refl

pub program_is_free : is_simple_and_free program ≡ true
program_is_free = refl

-- ---- the arguments that are built

pub some_given : {A : Type 0} (o : Option A) (P : A → Type 0) → IsSomeAnd o P → (x : A) × (o ≡ Some x) × P x
some_given None P has = absurd has
some_given (Some x) P has = (x, refl, has)

-- the parser of the numbers up to 2^40
pub unsigned_made : (r : ValueParser) (low high : ℤ) → r ≡ unsigned_up_to (ord_max nat_cmp 0 (saturate_unsigned w64 low)) 18446744073709551615 (Some high) → low ≡ pos 0 → high ≡ pos 1099511627776 → r ≡ Unsigned 0 1099511627776
unsigned_made r low high made is_low is_high = made ∙ (λ i. unsigned_up_to (ord_max nat_cmp 0 (saturate_unsigned w64 (is_low i))) 18446744073709551615 (Some (is_high i)))

-- an option of one value, with its parser and its default
pub option_rule : (new long named parsed whole : Arg) (name value default : Bor Text) (values defaults : _) (q : ValueParser) → long ≡ record new { long = Some name } → named ≡ record long { val_names = values } → items_of values ≡ value ∷ [] →
    parsed ≡ record named { value_parser = parsed.value_parser } → parsed.value_parser ≡ Some q → whole ≡ record parsed { default_vals = defaults } → items_of defaults ≡ default ∷ [] →
    rule_of whole ≡ record (rule_of new) { long = Some name.now; value_names = 1; parser = Some q; defaults = default.now ∷ [] }
option_rule new long named parsed whole name value default values defaults q is_long is_named one_value is_parsed is_q is_whole one_default =
    ap rule_of is_whole ∙ ap (λ (a : Arg). rule_of (record a { default_vals = defaults })) (is_parsed ∙ (λ i. record named { value_parser = is_q i }))
    ∙ ap (λ (a : Arg). rule_of (record a { value_parser = Some q; default_vals = defaults })) (is_named ∙ ap (λ (a : Arg). record a { val_names = values }) is_long)
    ∙ (λ i. record (rule_of new) { long = Some name.now; value_names = length (one_value i); parser = Some q; defaults = texts (one_default i) })

-- words that are required
pub words_rule : (new named required ranged whole : Arg) (value : Bor Text) (values : _) (r : ValueRange) → named ≡ record new { val_names = values } → items_of values ≡ value ∷ [] → required ≡ record named { required = true } →
    ranged ≡ record required { num_vals = ranged.num_vals } → ranged.num_vals ≡ Some r → whole ≡ record ranged { action = Some Append } → rule_of whole ≡ record (rule_of new) { value_names = 1; required = true; range = Some r; action = Some Append }
words_rule new named required ranged whole value values r is_named one_value is_required is_ranged is_r is_whole =
    ap rule_of is_whole ∙ ap (λ (a : Arg). rule_of (record a { action = Some Append })) (is_ranged ∙ (λ i. record required { num_vals = is_r i }))
    ∙ ap (λ (a : Arg). rule_of (record a { num_vals = Some r; action = Some Append })) (is_required ∙ ap (λ (a : Arg). record a { required = true }) is_named)
    ∙ (λ i. record (rule_of new) { value_names = length (one_value i); required = true; range = Some r; action = Some Append })

-- ---- numbers

-- `get_one` returns the number of the option's numeral
pub number_read : (E : Type 0) (G : List ℕ → Result ℕ E → Type 0) (k : ℕ) (rows : List Row) (id : Text) (r : Option ℕ) → ((u : List ℕ) (x : Result ℕ E) → G u x → ParsesUnsigned k 10 u x)
    → (one_of id rows ≡ None → r ≡ None) → ((t : Text) → one_of id rows ≡ Some t → ReadsOne G t r) → MatchOption r ((n : ℕ) → n < 2 ^ k → HasNumber rows id n → ⊥) (HasNumber rows id)
number_read E G k rows id r only none some = by_text (one_of id rows) refl r none some
  where
    by_text : (o : Option Text) → one_of id rows ≡ o → (r : Option ℕ) → (one_of id rows ≡ None → r ≡ None) → ((t : Text) → one_of id rows ≡ Some t → ReadsOne G t r) → MatchOption r ((n : ℕ) → n < 2 ^ k → HasNumber rows id n → ⊥) (HasNumber rows id)
    by_text None is None none some = λ n lt has. absurd (let e = sym is ∙ has.given in cc)
    by_text None is (Some n) none some = absurd (let e = none is in cc)
    by_text (Some t) is (Some n) none some =
        let parsed = only t (Ok n) (some t is) in
        record { text = t; given = is; numeral = parsed.0.0; value = parsed.1 }
    by_text (Some t) is None none some = λ n lt has.
        let read = some t is in
        let same : t ≡ has.text = same_Some t has.text (sym is ∙ has.given) in
        only t (Err read.0) read.1 (subst (λ (x : Text). IsNumeral 10 (without_leading_plus x)) (sym same) has.numeral, subst (λ m. m < 2 ^ k) (has.value ∙ ap (λ (x : Text). digits_value 10 (without_leading_plus x)) (sym same)) lt)

pub number_same : (rows : List Row) (id : Text) (m n : ℕ) → HasNumber rows id m → HasNumber rows id n → m ≡ n
number_same rows id m n a b =
    let same : a.text ≡ b.text = same_Some a.text b.text (sym a.given ∙ b.given) in
    a.value ∙ ap (λ (x : Text). digits_value 10 (without_leading_plus x)) same ∙ sym b.value

-- the words for the tenants, as the program reads them from the matches
pub words_taken : (o : Option (Bor (List (Bor Text)))) (none : Bor (List (Bor Text))) (v : Option (List Text)) → none.now ≡ [] → option_map (λ s. map (λ x. x.now) s.now) o ≡ v → map (λ x. x.now) (unwrap_or o none).now ≡ unwrap_or v []
words_taken None none v empty is = ap (map (λ x. x.now)) empty ∙ ap (λ (u : Option (List Text)). unwrap_or u []) is
words_taken (Some s) none v empty is = ap (λ (u : Option (List Text)). unwrap_or u []) is

-- ---- errors

pub refused_found : (words : List Text) (rows : List Row) (stop : Stop) → fault_of program words ≡ [] → rows ≡ matches_of program words → RefusesFound rows stop → RefusesWords words stop
refused_found words rows (Help text) taken is why = absurd why
refused_found words rows (Usage text) taken is why = inr (taken, subst (λ (r : List Row). RefusesFound r (Usage text)) is why)
refused_found words rows BadTenant taken is why = (taken, subst (λ (r : List Row). HasBadTenant false (tenant_args r)) is why)
refused_found words rows NotUtf8 taken is why = absurd why
refused_found words rows Memory taken is why = tt

pub refused_words : (words : List Text) (error : Error) (stop : Stop) → IsStopFor (kind_of error) stop → HasKind (fault_of program words) error → RefusesWords words stop
refused_words words error (Help text) is (inl memory) = absurd (let same = sym is ∙ memory in cc)
refused_words words error (Help text) is (inr among) = subst (λ (k : ErrorKind). IsAmong k (fault_of program words)) is among
refused_words words error (Usage text) is (inl memory) = absurd (is.1 memory)
refused_words words error (Usage text) is (inr among) = inl (kind_of error, is.0, among)
refused_words words error BadTenant is why = absurd is
refused_words words error NotUtf8 is why = absurd is
refused_words words error Memory is why = tt

-- ---- literal words

abbrev two_words : List Text
two_words = codes "blobctl" ∷ codes "acme=1000" ∷ codes "zeta=5" ∷ []

defaults : (one_of (codes "slots") (matches_of program two_words) ≡ Some (codes "64")) × (one_of (codes "max-blob") (matches_of program two_words) ≡ Some (codes "1048576")) × (one_of (codes "workers") (matches_of program two_words) ≡ Some (codes "1"))
unfolding clap_on_literals
defaults = (refl, refl, refl)

words_of_tenants : tenant_args (matches_of program two_words) ≡ codes "acme=1000" ∷ codes "zeta=5" ∷ []
unfolding clap_on_literals
words_of_tenants = refl

given : one_of (codes "slots") (matches_of program (codes "blobctl" ∷ codes "--slots" ∷ codes "7" ∷ codes "acme=1" ∷ [])) ≡ Some (codes "7")
unfolding clap_on_literals
given = refl
