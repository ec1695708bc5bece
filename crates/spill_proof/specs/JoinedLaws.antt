-- The laws of spilling as a whole.
use Rattle.std.specs.Prelude.{ℕ, ◌<◌, List, Contains, Bool, true, false}
use Rattle.mir_func.specs.declared.debug_substitution.DebugSubstitution.{DebugSubstitution}
use Rattle.mir_func.specs.Function.{Function}
use Rattle.mir_func.specs.Sound.{AllItems, IsSound, HasForm}
use Rattle.pass_trait.specs.Change.{change}
use Rattle.pass_trait.specs.Simulation.{PreservesSimulation}
use Rattle.pass_trait.specs.Sizes.{greatest_number}
use Rattle.spill_debug.specs.RewrittenDebugItems.{asked}
use Rattle.spill_select.specs.spill_rule.Choice.{spilling_of}
use Rattle.spill_select.specs.spill_rule.Chosen.{IsReservable, AreDistinct}
use Rattle.spill_select.specs.spill_rule.Rule.{Decides}
use Rattle.spill_proof.specs.Whole.{whole}

-- The hypotheses of spilling: a sound function whose code has the required forms, a reserve of distinct registers that may be spilled, a
-- test of which of them are live into the function with its debug values rewritten, and fresh numbers from k on
pub record MayBeSpilled (reserve : List ℕ) (live : ℕ → Bool) (k : ℕ) (f : Function) (subs : List DebugSubstitution) : Type 0 where
  pub sound : IsSound f
  pub forms : AllItems (λ i. HasForm i.kind) f.blocks
  pub real : (r : ℕ) → Contains reserve r → IsReservable r
  pub distinct : AreDistinct reserve
  pub decides : Decides reserve (asked (spilling_of reserve live f) k f) live
  pub fresh : greatest_number f subs < k

-- spilling preserves the simulation, and keeps matched block ends matched
abbrev pub JoinedFollows : Type 0
JoinedFollows = (reserve : List ℕ) (live : ℕ → Bool) (k : ℕ) (f : Function) (subs : List DebugSubstitution) → MayBeSpilled reserve live k f subs →
    PreservesSimulation false true (change f subs (whole reserve live k f) subs)

-- and keeps the function sound
abbrev pub JoinedIsSound : Type 0
JoinedIsSound = (reserve : List ℕ) (live : ℕ → Bool) (k : ℕ) (f : Function) (subs : List DebugSubstitution) → MayBeSpilled reserve live k f subs →
    IsSound (whole reserve live k f)
