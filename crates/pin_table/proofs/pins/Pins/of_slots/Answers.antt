use Rattle.std.proofs.Common.{◌≡◌, replicate, ap, ◌∙◌, rules}
use Rattle.pin_table.proofs.RuleKept.{new_allowed}
use Rattle.pin_table.proofs.pins.Pins.of_slots.Goals as goal

pub of_words-requires : goal.of_words-requires
of_words-requires c =
    let items : c.in_ok-words.words.items ≡ replicate c.args.slots c.clear_word.result = search rules in
    new_allowed c.args.slots c.args.first_generation _ (c.as_slice.ensures.value ∙ items ∙ ap (replicate c.args.slots) c.clear_word.ensures)
