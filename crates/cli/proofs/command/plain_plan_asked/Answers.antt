use Rattle.std.proofs.Common.{map, sym, ◌∙◌}
use Rattle.std.specs.Prelude.{string_bytes}
use Rattle.cli.proofs.CommandWords.{the_plain, no_some}
use Rattle.cli.proofs.command.plain_plan_asked.Goals as goal

pub returns-in-Some : goal.returns-in-Some
returns-in-Some c =
    the_plain (map string_bytes c.args.words.now) c.in_ok-plan.field-0 c.in-Some.plan c.plain.result c.in-Some.is c.in_ok-plan.ensures c.plain.ensures

pub returns-in-None : goal.returns-in-None
returns-in-None c = λ plan. (
  λ e. absurd (no_some plan e),
  λ h. absurd (no_some plan (sym c.in-None.is ∙ (c.in_ok-plan.ensures plan).1 h.0)),
)
