use Rattle.std.proofs.Common.{map}
use Rattle.std.specs.Prelude.{string_bytes}
use Rattle.cli.specs.Command.{IsObjectPlanOf}
use Rattle.cli.proofs.CommandWords.{the_made}
use Rattle.cli.proofs.command.object_asked.Goals as goal

pub returns-in-Some : goal.returns-in-Some
returns-in-Some c =
    the_made IsObjectPlanOf (map string_bytes c.args.words.now) c.in_ok-given.field-0 c.in-Some.given c.object_of.result c.in-Some.is c.in_ok-given.ensures
    c.object_of.ensures
