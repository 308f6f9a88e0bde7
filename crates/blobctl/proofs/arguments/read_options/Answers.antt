use Rattle.std.proofs.Common.{◌≡◌, List, [], map, sym, ap, ◌∙◌, subst, string_bytes}
use Rattle.std.proofs.lemmas.Result.{IfErr-weaker, IfOk-weaker}
use Rattle.clap.specs.Faults.{fault_of, is_simple_and_free}
use Rattle.clap.specs.Kinds.{HasKind}
use Rattle.clap.specs.Matches.{found_of}
use Rattle.clap.specs.Simple.{App, is_simple, matches_of}
use Rattle.clap.specs.Walk.{Row, rows_of}
use Rattle.spec_lib.specs.Texts.{Text}
use Rattle.blobctl.specs.Arguments.{AreOptionsOf, program}
use Rattle.blobctl.proofs.CommandLines.{program_is_free, program_is_simple, refused_found, refused_words}
use Rattle.blobctl.proofs.arguments.read_options.Goals as goal

pub returns-in-Ok-clause-spelled : goal.returns-in-Ok-clause-spelled
returns-in-Ok-clause-spelled c =
    let words : List Text = map string_bytes c.args.words.now in
    let app = c.in_ok-command.ensures in
    let rows : rows_of (found_of c.in-Ok.matches) ≡ matches_of program words = (c.in-Ok.ensures.matches (ap is_simple app ∙ program_is_simple)).0 ∙ ap (λ (a : App). matches_of a words) app in
    let taken : fault_of program words ≡ [] = ap (λ (a : App). fault_of a words) (sym app) ∙ c.in-Ok.ensures.kinds (ap is_simple_and_free app ∙ program_is_free) in
    IfOk-weaker c.options_of.result _ _ (λ options found. record { taken = taken; found = subst (λ (r : List Row). AreOptionsOf r options) rows found }) c.options_of.ensures.found

pub returns-in-Ok-clause-refused : goal.returns-in-Ok-clause-refused
returns-in-Ok-clause-refused c =
    let words : List Text = map string_bytes c.args.words.now in
    let app = c.in_ok-command.ensures in
    let rows : rows_of (found_of c.in-Ok.matches) ≡ matches_of program words = (c.in-Ok.ensures.matches (ap is_simple app ∙ program_is_simple)).0 ∙ ap (λ (a : App). matches_of a words) app in
    let taken : fault_of program words ≡ [] = ap (λ (a : App). fault_of a words) (sym app) ∙ c.in-Ok.ensures.kinds (ap is_simple_and_free app ∙ program_is_free) in
    IfErr-weaker c.options_of.result _ _ (λ stop why. refused_found words (rows_of (found_of c.in-Ok.matches)) stop taken rows why) c.options_of.ensures.refused

pub returns-in-Err-clause-refused : goal.returns-in-Err-clause-refused
returns-in-Err-clause-refused c =
    let words : List Text = map string_bytes c.args.words.now in
    let app = c.in_ok-command.ensures in
    refused_words words c.in-Err.error c.stop_of.result c.stop_of.ensures (subst (λ (a : App). HasKind (fault_of a words) c.in-Err.error) app (c.in-Err.ensures.kinds (ap is_simple_and_free app ∙ program_is_free)))
