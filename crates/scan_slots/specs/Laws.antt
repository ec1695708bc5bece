-- The laws of the step.
use Rattle.std.specs.Prelude.{ℕ, ◌+◌, ◌<◌, List, true, false}
use Rattle.mir_func.specs.declared.debug_substitution.DebugSubstitution.{DebugSubstitution}
use Rattle.mir_func.specs.Function.{Function}
use Rattle.mir_func.specs.Sound.{AllItems, HasForm, IsSound}
use Rattle.pass_trait.specs.Change.{change}
use Rattle.pass_trait.specs.Code.{HasOneResult, SeesCodeAlone}
use Rattle.pass_trait.specs.Simulation.{PreservesSimulation}
use Rattle.pass_trait.specs.Sizes.{greatest_number, KeepsSizes}
use Rattle.scan_rule.specs.scan_intervals.declared.interval.LiveInterval.{LiveInterval}
use Rattle.scan_slots.specs.Choice.{settled_whole}
use Rattle.scan_slots.specs.Rule.{AreLeft, IsSettled}

abbrev pub SettlingIsOne : Type 0
SettlingIsOne = HasOneResult IsSettled

abbrev pub SettlingSeesCodeAlone : Type 0
SettlingSeesCodeAlone = SeesCodeAlone IsSettled

-- it keeps the size bounds with factor 4 and count 1, if fresh numbers begin above the greatest one
abbrev pub SettledKeepsSizes : Type 0
SettledKeepsSizes = (intervals : List LiveInterval) (f : Function) (subs : List DebugSubstitution) → AreLeft f intervals →
    KeepsSizes 4 1 (change f subs (settled_whole intervals (greatest_number f subs + 1) f) subs)

-- a sound function whose code has the required forms, the intervals of its virtual registers, and fresh numbers from k on
pub record MayBeSettled (intervals : List LiveInterval) (k : ℕ) (f : Function) (subs : List DebugSubstitution) : Type 0 where
  pub sound : IsSound f
  pub forms : AllItems (λ i. HasForm i.kind) f.blocks
  pub left : AreLeft f intervals
  pub fresh : greatest_number f subs < k

-- the step preserves the simulation, and keeps matched block ends matched
abbrev pub SettledFollows : Type 0
SettledFollows = (intervals : List LiveInterval) (k : ℕ) (f : Function) (subs : List DebugSubstitution) → MayBeSettled intervals k f subs →
    PreservesSimulation false true (change f subs (settled_whole intervals k f) subs)

-- and keeps the function sound
abbrev pub SettledIsSound : Type 0
SettledIsSound = (intervals : List LiveInterval) (k : ℕ) (f : Function) (subs : List DebugSubstitution) → MayBeSettled intervals k f subs →
    IsSound (settled_whole intervals k f)
