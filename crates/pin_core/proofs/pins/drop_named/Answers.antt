use Rattle.std.proofs.Common.{sym, ◌∙◌, ap, add-one, eqb-true, is_some, List}
use Rattle.std.specs.Prelude.{◌==◌}
use Rattle.std.proofs.lemmas.List.Quantifiers.{position-Some}
use Rattle.spec_lib.proofs.Rows.{is_some-position}
use Rattle.pin_core.specs.declared.world.PinEntry.{PinEntry}
use Rattle.pin_core.proofs.Names.{removed, others_all}
use Rattle.pin_core.proofs.pins.drop_named.Goals as goal

pub returns-in-Some : goal.returns-in-Some
returns-in-Some c =
    let es : List PinEntry = c.args.pins.now.items in
    let p = position-Some (λ (e : PinEntry). e.name == c.args.name) es c.in-Some.place c.remove.result (sym (rw c.deref.ensures.value at c.in-Some.ensures)) in
    let name = ap (λ (e : PinEntry). e.name) c.remove.ensures.value ∙ eqb-true _ _ p.1 in
    rw add-one at c.remove.ensures.by_index.2 ∙ removed es c.in-Some.place c.args.name c.remove.result p.0 c.remove.ensures.value name c.requires

pub returns-in_default : goal.returns-in_default
returns-in_default c =
    let es : List PinEntry = c.args.pins.now.items in
    let none = sym (rw c.deref.ensures.value at c.in_default.ensures) in
    sym (others_all es c.args.name (sym (is_some-position (λ (e : PinEntry). e.name == c.args.name) es) ∙ ap is_some none))
