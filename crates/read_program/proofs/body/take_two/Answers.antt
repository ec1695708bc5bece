use Rattle.std.proofs.Common.{◌≡◌, Ok, Err, Option, rules, subst}
use Rattle.read_refusal.specs.declared.kind.RefusalKind.{RefusalKind}
use Rattle.read_program.specs.BodyLines.{one_said, Reads}
use Rattle.read_program.proofs.Lines.{said_second, said_first}
use Rattle.read_program.proofs.body.take_two.Goals as goal

pub returns-in-Ok-None-clause-read : goal.returns-in-Ok-None-clause-read
returns-in-Ok-None-clause-read c =
    said_second c.args.body.now c.take_one.new.body c.take_one-in-Ok-None.new.body c.args.first c.args.second c.take_one-in-Ok-None.result
    (search rules) (search rules) c.take_one-in-Ok-None.ensures.read

pub returns-in-Ok-Some-clause-read : goal.returns-in-Ok-Some-clause-read
returns-in-Ok-Some-clause-read c =
    said_first c.args.body.now c.take_one.new.body c.args.first c.args.second c.in-Ok-Some.kind (search rules) (search rules)
