use Rattle.std.proofs.Common.{map}
use Rattle.std.specs.Prelude.{string_bytes}
use Rattle.cli.specs.Command.{IsCompileOf}
use Rattle.cli.proofs.CommandWords.{the_made}
use Rattle.cli.proofs.command.compile_asked.Goals as goal

pub returns-in-Some : goal.returns-in-Some
returns-in-Some c =
    the_made IsCompileOf (map string_bytes c.args.words.now) c.in_ok-given.field-0 c.in-Some.given c.compile_of.result c.in-Some.is c.in_ok-given.ensures
    c.compile_of.ensures
