-- Runs of the command `compile` on two texts that may differ in their debug items.
use Rattle.std.specs.Prelude.{◌≡◌, ℕ, Bool, List}
use Rattle.cli.specs.declared.command.CompilePlan.{CompilePlan}
use Rattle.cli.specs.declared.command.Command.TheVariants.{Compile}
use Rattle.cli.specs.Command.{IsCommand}
use Rattle.tool_driver.specs.Run.{Finishes, HasWritten}
use Rattle.tool_driver.specs.Stream.{Change}
use Rattle.theorem_invariance.specs.OutputAlone.{HaveAlikeFunctions}

-- Each run read a program and wrote an output. If both programs have functions that are read alike, both outputs have the same `.text`.
abbrev pub WroteSameText : (linked : Bool) → (input output input' output' : Change) → Type 0
WroteSameText linked input output input' output' =
    HasWritten linked (λ p o. HasWritten linked (λ q o'. HaveAlikeFunctions p q → o.text ≡ o'.text) input' output') input output

-- This holds for any two runs that finish without error, with the same passes, the same registers that may be spilled and the same language that is read.
abbrev pub RunsWriteCodeAlone : Type 0
RunsWriteCodeAlone = (plan plan' : CompilePlan) (words words' : List (List ℕ)) (input output input' output' : Change) → plan'.plan ≡ plan.plan →
    IsCommand words (Compile plan) → IsCommand words' (Compile plan') → Finishes words input output → Finishes words' input' output' →
    WroteSameText plan.plan.linked input output input' output'
