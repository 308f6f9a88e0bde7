use Rattle.std.proofs.Common.{rules, string_bytes}
use Rattle.std.specs.Ordering.{is_lt}
use Rattle.std.proofs.lemmas.List.Sorted.{answers_always}
use Rattle.spec_lib.specs.Texts.{text_cmp}
use Rattle.link_table.proofs.tenants.names_rise.Goals as goal

pub returns : goal.returns
returns c = c.is_sorted_by.ensures.cases (λ x y. is_lt (text_cmp (string_bytes x.name) (string_bytes y.name))) (answers_always _ _ _ (λ f a r f' k. search rules))
