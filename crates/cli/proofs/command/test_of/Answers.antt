use Rattle.std.proofs.Common.{map, sym, ◌∙◌}
use Rattle.std.specs.Prelude.{string_bytes}
use Rattle.cli.proofs.CommandWords.{the_test, no_some}
use Rattle.cli.proofs.command.test_of.Goals as goal

pub returns-in-Some-2 : goal.returns-in-Some-2
returns-in-Some-2 c =
    the_test c.args.number.now c.args.blocks.now (map string_bytes c.args.words.now) (record { function = c.in-Some.function; plan = c.in-Some-2.plan })
    (record {
      function = (c.asked.ensures c.in-Some.function).0 c.in-Some.is;
      plan = (c.in_ok-plan.ensures c.in-Some-2.plan).0 c.in-Some-2.is;
    })

pub returns-in-None : goal.returns-in-None
returns-in-None c = λ test. (
  λ e. absurd (no_some test e),
  λ h. absurd (no_some test.plan (sym c.in-None.is ∙ (c.in_ok-plan.ensures test.plan).1 h.plan)),
)
