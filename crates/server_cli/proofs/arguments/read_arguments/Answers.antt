use Rattle.std.proofs.Common.{◌∙◌, string_bytes}
use Rattle.server_cli.proofs.Partings.{first_one}
use Rattle.server_cli.proofs.arguments.read_arguments.Goals as goal

pub returns-in-Ok-clause-spelled : goal.returns-in-Ok-clause-spelled
returns-in-Ok-clause-spelled c =
    let words = first_one c.args.words.now c.in-len1-up.len_at_least in
    record {
      program = string_bytes words.0;
      after = _;
      flags = _;
      settings = _;
      parts = words.1;
      flags_are = c.in-Some.ensures;
      log = c.in-Some-log.ensures;
      place = c.in-Ok.ensures.place ∙ c.is_some.ensures;
      spelled = c.in-Ok.ensures.spelled;
    }
