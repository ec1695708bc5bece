-- What each run wrote is an output of what it read, and outputs are of code alone.
use Rattle.std.proofs.Common.{◌≡◌, subst}
use Rattle.cli.specs.declared.command.PassPipeline.{PassPipeline}
use Rattle.tool_driver.specs.Program.{IsOutputOf}
use Rattle.theorem_invariance.specs.OutputAlone.{HaveAlikeFunctions}
use Rattle.theorem_invariance.proofs.OutputAlone.{outputs_alone}
use Rattle.tool_driver.specs.Compiled.{plan_steps}
use Rattle.tool_driver.specs.Run.{HasWritten}
use Rattle.tool_driver.proofs.RunLemmas.{has_written}
use Rattle.theorem_invariance.specs.RunAlone.{RunsWriteCodeAlone}

pub runs_alone : RunsWriteCodeAlone
runs_alone plan plan' words words' input output input' output' same asked asked' ends ends' =
    has_written plan (λ p o. HasWritten plan.plan.linked (λ q o'. HaveAlikeFunctions p q → o.text ≡ o'.text) input' output')
    (λ p o is. subst (λ (s : PassPipeline). HasWritten s.linked (λ q o'. HaveAlikeFunctions p q → o.text ≡ o'.text) input' output') same
    (has_written plan' (λ q o'. HaveAlikeFunctions p q → o.text ≡ o'.text)
    (λ q o' are alike. outputs_alone plan.plan.reserve plan.plan.passes p q o o' alike is
    (subst (λ (s : PassPipeline). IsOutputOf (plan_steps s) q o') same are)) words' input' output' ends' asked'))
    words input output ends asked
