use Rattle.std.proofs.Common.{◌≡◌, ◌∷◌, [], ◌∙◌, ap, ap₂, codes, false, refl, true}
use Rattle.std.specs.Prelude.{Some, pos}
use Rattle.std.proofs.lemmas.Result.{IfOk-weaker}
use Rattle.clap.specs.Lexer.{usize_max}
use Rattle.clap.specs.Simple.{app_of_fields, with_rule}
use Rattle.clap.specs.Walk.{Rule, rule_of}
use Rattle.clap.specs.declared.builder.action.ArgAction.TheVariants.{Append}
use Rattle.clap.specs.declared.builder.arg.Arg.{Arg}
use Rattle.clap.specs.declared.builder.range.ValueRange.{ValueRange}
use Rattle.clap.specs.declared.builder.value_parser.ValueParser.{ValueParser}
use Rattle.clap.specs.declared.builder.value_parser.ValueParser.TheVariants.{Signed, Unsigned}
use Rattle.blobctl.specs.Arguments.{max_blob_rule, slots_rule, tenants_rule, workers_rule}
use Rattle.blobctl.proofs.CommandLines.{option_rule, some_given, unsigned_made, words_rule}
use Rattle.blobctl.proofs.arguments.command.Goals as goal

pub returns : goal.returns
returns c =
    let slots_range : c.range.result ≡ Signed (pos 1) (pos 65536) = rw (c.value_parser.ensures, c.new-3.ensures.start, c.new-3.ensures.end) at c.range.ensures in
    let slots_given = c.value_parser-2.ensures.given in
    let slots_is : rule_of c.default_value.result ≡ slots_rule =
    option_rule c.help.result c.long.result c.value_name.result c.value_parser-2.result c.default_value.result _ _ _ _ _ (Signed (pos 1) (pos 65536)) c.long.ensures c.value_name.ensures refl c.value_parser-2.ensures.others (slots_given.1 ∙ ap (λ (q : ValueParser). Some q) (slots_given.2 ∙ slots_range)) c.default_value.ensures refl
    ∙ ap (λ (r : Rule). record r { long = Some (codes "slots"); value_names = 1; parser = Some (Signed (pos 1) (pos 65536)); defaults = codes "64" ∷ [] }) (ap rule_of c.help.ensures ∙ c.new-2.ensures.rule) in
    let max_blob_range : c.range-2.result ≡ Unsigned 0 1099511627776 = unsigned_made c.range-2.result _ _ (rw c.value_parser-3.ensures at c.range-2.ensures) c.new-5.ensures.start c.new-5.ensures.end in
    let max_blob_given = c.value_parser-4.ensures.given in
    let max_blob_is : rule_of c.default_value-2.result ≡ max_blob_rule =
    option_rule c.help-2.result c.long-2.result c.value_name-2.result c.value_parser-4.result c.default_value-2.result _ _ _ _ _ (Unsigned 0 1099511627776) c.long-2.ensures c.value_name-2.ensures refl c.value_parser-4.ensures.others (max_blob_given.1 ∙ ap (λ (q : ValueParser). Some q) (max_blob_given.2 ∙ max_blob_range)) c.default_value-2.ensures refl
    ∙ ap (λ (r : Rule). record r { long = Some (codes "max-blob"); value_names = 1; parser = Some (Unsigned 0 1099511627776); defaults = codes "1048576" ∷ [] }) (ap rule_of c.help-2.ensures ∙ c.new-4.ensures.rule) in
    let workers_range : c.range-3.result ≡ Signed (pos 1) (pos 64) = rw (c.value_parser-5.ensures, c.new-7.ensures.start, c.new-7.ensures.end) at c.range-3.ensures in
    let workers_given = c.value_parser-6.ensures.given in
    let workers_is : rule_of c.default_value-3.result ≡ workers_rule =
    option_rule c.help-3.result c.long-3.result c.value_name-3.result c.value_parser-6.result c.default_value-3.result _ _ _ _ _ (Signed (pos 1) (pos 64)) c.long-3.ensures c.value_name-3.ensures refl c.value_parser-6.ensures.others (workers_given.1 ∙ ap (λ (q : ValueParser). Some q) (workers_given.2 ∙ workers_range)) c.default_value-3.ensures refl
    ∙ ap (λ (r : Rule). record r { long = Some (codes "workers"); value_names = 1; parser = Some (Signed (pos 1) (pos 64)); defaults = codes "1" ∷ [] }) (ap rule_of c.help-3.ensures ∙ c.new-6.ensures.rule) in
    let tenants_given = some_given c.num_args.result.num_vals _ c.num_args.ensures.1 in
    let tenants_is : rule_of c.action.result ≡ tenants_rule =
    words_rule c.help-4.result c.value_name-4.result c.required.result c.num_args.result c.action.result _ _ (record { start_inclusive = 1; end_inclusive = usize_max }) c.value_name-4.ensures refl c.required.ensures c.num_args.ensures.0 (tenants_given.1 ∙ ap (λ (r : ValueRange). Some r) tenants_given.2) c.action.ensures
    ∙ ap (λ (r : Rule). record r { value_names = 1; required = true; range = Some (record { start_inclusive = 1; end_inclusive = usize_max }); action = Some Append }) (ap rule_of c.help-4.ensures ∙ c.new-8.ensures.rule) in
    let slots_local : c.default_value.result.global ≡ false =
    ap (λ (a : Arg). a.global) c.default_value.ensures ∙ ap (λ (a : Arg). a.global) c.value_parser-2.ensures.others ∙ ap (λ (a : Arg). a.global) c.value_name.ensures ∙ ap (λ (a : Arg). a.global) c.long.ensures ∙ ap (λ (a : Arg). a.global) c.help.ensures ∙ c.new-2.ensures.optional.1 in
    let max_blob_local : c.default_value-2.result.global ≡ false =
    ap (λ (a : Arg). a.global) c.default_value-2.ensures ∙ ap (λ (a : Arg). a.global) c.value_parser-4.ensures.others ∙ ap (λ (a : Arg). a.global) c.value_name-2.ensures ∙ ap (λ (a : Arg). a.global) c.long-2.ensures ∙ ap (λ (a : Arg). a.global) c.help-2.ensures ∙ c.new-4.ensures.optional.1 in
    let workers_local : c.default_value-3.result.global ≡ false =
    ap (λ (a : Arg). a.global) c.default_value-3.ensures ∙ ap (λ (a : Arg). a.global) c.value_parser-6.ensures.others ∙ ap (λ (a : Arg). a.global) c.value_name-3.ensures ∙ ap (λ (a : Arg). a.global) c.long-3.ensures ∙ ap (λ (a : Arg). a.global) c.help-3.ensures ∙ c.new-6.ensures.optional.1 in
    let tenants_local : c.action.result.global ≡ false =
    ap (λ (a : Arg). a.global) c.action.ensures ∙ ap (λ (a : Arg). a.global) c.num_args.ensures.0 ∙ ap (λ (a : Arg). a.global) c.required.ensures ∙ ap (λ (a : Arg). a.global) c.value_name-4.ensures ∙ ap (λ (a : Arg). a.global) c.help-4.ensures ∙ c.new-8.ensures.optional.1 in
    IfOk-weaker c.arg-4.result _ _ (λ command added. added.shape tenants_local ∙ ap₂ with_rule (c.in_ok-arg-3.ensures.shape workers_local ∙ ap₂ with_rule (c.in_ok-arg-2.ensures.shape max_blob_local ∙ ap₂ with_rule (c.in_ok-arg.ensures.shape slots_local ∙ ap₂ with_rule (ap app_of_fields c.after_help.ensures ∙ ap app_of_fields c.about.ensures ∙ c.new.ensures.app) slots_is) max_blob_is) workers_is) tenants_is) c.arg-4.ensures
