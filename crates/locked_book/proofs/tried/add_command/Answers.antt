use Rattle.std.proofs.Common.{ap, subst, ◌∙◌}
use Rattle.locked_book.specs.Calls.{step_of}
use Rattle.locked_book.specs.History.{DeskView}
use Rattle.locked_book.specs.Performing.{PerformsStep}
use Rattle.locked_book.specs.Totals.{amounts_with, counts_with}
use Rattle.locked_book.proofs.Performing.{has_space, performs_step, still_kept, tried_step}
use Rattle.locked_book.proofs.tried.add_command.Goals as goal

pub count_command-requires : goal.count_command-requires
count_command-requires g c = has_space g.S.Naming.names c.args.before.now.value c.args.book.now c.args.counters.now (step_of c.args.call) c.requires.tries c.args.out.now.hands c.args.out.now.reserve c.abandoned_bytes.result c.requires.records.0 c.abandoned_bytes.ensures

pub add-requires-clause-allows : goal.add-requires-clause-allows
add-requires-clause-allows g c =
    let counted = c.count_command.ensures.totals ∙ ap (counts_with c.args.counters.now) c.abandoned_bytes.ensures in (
      record { catalog = c.args.before.now.value.catalog; totals = c.args.counters.now.totals },
      record { catalog = c.args.book.now.catalog; totals = c.count_command.new.self.totals },
      c.requires.records.1,
      tried_step g.S.Naming.names c.args.before.now.value c.args.book.now c.args.counters.now (step_of c.args.call) c.requires.tries c.count_command.new.self counted,
    )

pub returns-clause-records : goal.returns-clause-records
returns-clause-records g c =
    let counted = c.count_command.ensures.totals ∙ ap (counts_with c.args.counters.now) c.abandoned_bytes.ensures in
    let step = tried_step g.S.Naming.names c.args.before.now.value c.args.book.now c.args.counters.now (step_of c.args.call) c.requires.tries c.count_command.new.self counted in (
      still_kept g.S.Naming.names c.args.before.now.value c.args.book.now c.args.counters.now (step_of c.args.call) c.requires.tries c.args.out.now.hands c.args.out.now.reserve c.count_command.new.self c.requires.records.0 counted,
      c.add.ensures.leads (record { catalog = c.args.before.now.value.catalog; totals = c.args.counters.now.totals }) (record { catalog = c.args.book.now.catalog; totals = c.count_command.new.self.totals }) c.requires.records.1 step,
    )

pub returns-clause-performs : goal.returns-clause-performs
returns-clause-performs g c =
    let counted = c.count_command.ensures.totals ∙ ap (counts_with c.args.counters.now) c.abandoned_bytes.ensures in
    let amounts = c.count_command.ensures.desk ∙ ap (amounts_with c.desk.inside.tally) c.abandoned_bytes.ensures in
    subst (λ (d : DeskView). PerformsStep g.S.Naming.names.opening (step_of c.args.call) c.args.before.now.value c.args.counters.now c.args.book.now c.count_command.new.self d (record { amounts = c.count_command.new.desk; trace = c.add.new.writer })) c.desk.view_is
    (performs_step g.S.Naming.names c.args.before.now.value c.args.book.now c.args.counters.now (step_of c.args.call) c.requires.tries g.S.Naming.names.opening c.count_command.new.self (record { amounts = c.desk.inside.tally; trace = c.desk.inside.writer }) (record { amounts = c.count_command.new.desk; trace = c.add.new.writer }) counted amounts c.add.ensures.adds)
