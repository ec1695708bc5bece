-- What the step keeps.
use Rattle.std.specs.Prelude.{◌+◌, List}
use Rattle.mir_func.specs.declared.debug_substitution.DebugSubstitution.{DebugSubstitution}
use Rattle.mir_func.specs.Function.{Function}
use Rattle.mir_func.specs.Sound.{AllItems, HasForm, IsSound}
use Rattle.pass_trait.specs.declared.loss.Loss.{Loss}
use Rattle.pass_trait.specs.Change.{change}
use Rattle.pass_trait.specs.Sizes.{greatest_number}
use Rattle.pass_trait.specs.Steps.{KeepsStep}
use Rattle.scan_rule.specs.spill_proof.Kept.{AreTaken}
use Rattle.scan_rule.specs.scan_intervals.declared.interval.LiveInterval.{LiveInterval}
use Rattle.scan_slots.specs.Choice.{homes_left, settling_of, settled_whole}
use Rattle.scan_slots.specs.Rule.{AreLeft}
use Rattle.scan_slots.specs.Step.{settle_step}

-- of a sound function whose code has the required forms: it is a run of the step, with fresh numbers from the one above the greatest on, and these losses
abbrev pub SettledKeepsStep : Type 0
SettledKeepsStep = (intervals : List LiveInterval) (f : Function) (subs : List DebugSubstitution) (losses : List Loss) → IsSound f →
    AllItems (λ i. HasForm i.kind) f.blocks → AreLeft f intervals →
    AreTaken (homes_left f intervals) (settling_of f intervals) f.blocks losses →
    KeepsStep settle_step (change f subs (settled_whole intervals (greatest_number f subs + 1) f) subs) losses
