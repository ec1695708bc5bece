-- The law of a number that is dropped.
use Rattle.std.specs.Prelude.{◌≡◌, ℕ, List}
use Rattle.mir_func.specs.declared.debug_substitution.DebugSubstitution.{DebugSubstitution}
use Rattle.mir_func.specs.Function.{Function}
use Rattle.mir_func.specs.Sound.{IsSound}
use Rattle.pass_trait.specs.Change.{change}
use Rattle.pass_salvage.proofs.Edits.{BlocksEdited}
use Rattle.pass_edits.specs.WeakSimulation.{PreservesWeakSimulation}
use Rattle.dce_salvage_proof.specs.Dropped.{drop_edits}

-- code loses number k, and no item has it any more, except undef DBG_PHIs: this preserves the weak simulation
abbrev pub NumberGoesNowhere : Type 0
NumberGoesNowhere = (old new : Function) (subs : List DebugSubstitution) (k : ℕ) → IsSound old → IsSound new → new.objects ≡ old.objects →
    BlocksEdited (drop_edits k) old.blocks new.blocks → PreservesWeakSimulation (change old subs new subs)
