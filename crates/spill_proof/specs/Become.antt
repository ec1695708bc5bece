-- The effect of spilling on each item.
use Rattle.std.specs.Prelude.{ℕ, ◌+◌, List, Bool}
use Rattle.mir_func.specs.declared.debug_substitution.DebugSubstitution.{DebugSubstitution}
use Rattle.mir_func.specs.Function.{Function}
use Rattle.mir_func.specs.Sound.{IsSound}
use Rattle.pass_trait.specs.Change.{change}
use Rattle.pass_trait.specs.Debug.{BlocksBecome}
use Rattle.pass_trait.specs.Sizes.{greatest_number}
use Rattle.spill_select.specs.spill_rule.Rule.{Decides}
use Rattle.spill_proof.specs.Whole.{whole}
use Rattle.spill_proof.specs.Step.{spill_debug}

-- if the test says which registers are live into the function, each item becomes what the debug rule of spilling allows
abbrev pub ItemsBecome : Type 0
ItemsBecome = (reserve : List ℕ) (live : ℕ → Bool) (f : Function) (subs : List DebugSubstitution) → IsSound f → Decides reserve f live →
    BlocksBecome (spill_debug reserve) (change f subs (whole reserve live (greatest_number f subs + 1) f) subs) f.blocks
    (whole reserve live (greatest_number f subs + 1) f).blocks
