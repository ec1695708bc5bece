-- The command that is asked for is the one that the words are.
use Rattle.std.proofs.Common.{◌≡◌, ◌∙◌, Some, map, sym}
use Rattle.std.specs.Prelude.{string_bytes}
use Rattle.cli.proofs.CommandWords.{within}
use Rattle.cli.specs.declared.command.Command.{Command}
use Rattle.cli.specs.declared.command.Command.TheVariants.{Gen, SelfTest}
use Rattle.tool_driver.proofs.driver.run.Goals as goal

same_command : (a b : Command) → Some a ≡ Some b → a ≡ b
same_command a b same = cc

pub returns-in_err-text-clause-generated_unread : goal.returns-in_err-text-clause-generated_unread
returns-in_err-text-clause-generated_unread g c asked is =
    c.answered.ensures.unread asked
    (same_command c.in-Some.command (Gen asked) (sym c.in-Some.is ∙ (c.in_ok-command.ensures (Gen asked)).1 is))

pub returns-in-Ok-clause-generated_unread : goal.returns-in-Ok-clause-generated_unread
returns-in-Ok-clause-generated_unread g c asked is =
    c.answered.ensures.unread asked
    (same_command c.in-Some.command (Gen asked) (sym c.in-Some.is ∙ (c.in_ok-command.ensures (Gen asked)).1 is))

pub returns-clause-generated_unread : goal.returns-clause-generated_unread
returns-clause-generated_unread g c asked is =
    c.answered.ensures.unread asked
    (same_command c.in-Some.command (Gen asked) (sym c.in-Some.is ∙ (c.in_ok-command.ensures (Gen asked)).1 is))

pub returns-in_err-text-clause-tested_unread : goal.returns-in_err-text-clause-tested_unread
returns-in_err-text-clause-tested_unread g c test is =
    c.answered.ensures.test_unread test
    (same_command c.in-Some.command (SelfTest test) (sym c.in-Some.is ∙ (c.in_ok-command.ensures (SelfTest test)).1 is))

pub returns-in-Ok-clause-tested_unread : goal.returns-in-Ok-clause-tested_unread
returns-in-Ok-clause-tested_unread g c test is =
    c.answered.ensures.test_unread test
    (same_command c.in-Some.command (SelfTest test) (sym c.in-Some.is ∙ (c.in_ok-command.ensures (SelfTest test)).1 is))

pub returns-clause-tested_unread : goal.returns-clause-tested_unread
returns-clause-tested_unread g c test is =
    c.answered.ensures.test_unread test
    (same_command c.in-Some.command (SelfTest test) (sym c.in-Some.is ∙ (c.in_ok-command.ensures (SelfTest test)).1 is))

pub answered-requires : goal.answered-requires
answered-requires g c =
    within (map string_bytes c.args.words.now) c.in-Some.command ((c.in_ok-command.ensures c.in-Some.command).0 c.in-Some.is)
