-- The causes of the losses of spilling.
use Rattle.std.specs.Prelude.{ℕ, ◌<◌, List, AllPairs, Contains, Bool}
use Rattle.mir_func.specs.declared.debug_substitution.DebugSubstitution.{DebugSubstitution}
use Rattle.mir_func.specs.declared.position.Pos.{Pos}
use Rattle.mir_func.specs.Function.{Function}
use Rattle.mir_func.specs.Sound.{IsSound}
use Rattle.pass_trait.specs.declared.loss.Loss.{Loss}
use Rattle.pass_trait.specs.declared.loss.Reason.{Reason}
use Rattle.pass_trait.specs.Causes.{HasCause, IsFirstCause}
use Rattle.pass_trait.specs.Change.{Change, change}
use Rattle.spill_select.specs.spill_rule.Rule.{Decides}
use Rattle.spill_proof.specs.Whole.{whole}
use Rattle.spill_proof.specs.Step.{spill_debug}

-- spilling as a change of a function
abbrev pub spilling_of_all : (reserve : List ℕ) (live : ℕ → Bool) (k : ℕ) → Function → List DebugSubstitution → Change
spilling_of_all reserve live k f subs = change f subs (whole reserve live k f) subs

-- each loss of an item has its cause: it is a debug value or DBG_PHI of a scratch register, and some register is
-- spilled
abbrev pub LossesHaveCauses : Type 0
LossesHaveCauses = (reserve : List ℕ) (live : ℕ → Bool) (k : ℕ) (f : Function) (subs : List DebugSubstitution) → Decides reserve f live →
    (at : Pos) (loss : Loss) →
    (spill_debug reserve).loses (spilling_of_all reserve live k f subs) at loss → HasCause (spill_debug reserve) (spilling_of_all reserve live k f subs) at loss

-- each spilled register has a slot that the function has now, and hadn't before
abbrev pub NewSlotsAreNew : Type 0
NewSlotsAreNew = (reserve : List ℕ) (live : ℕ → Bool) (k : ℕ) (f : Function) (subs : List DebugSubstitution) → Decides reserve f live → (r slot : ℕ) →
    (spill_debug reserve).spills (spilling_of_all reserve live k f subs) r slot →
    Contains (whole reserve live k f).slots slot × (Contains f.slots slot → ⊥)

-- the registers are in ascending order
abbrev pub IsAscending : List ℕ → Type 0
IsAscending registers = AllPairs (λ r s. r < s) registers

-- each register of an ascending reserve that isn't spilled has the first reason that applies
abbrev pub LeftHaveFirstCauses : Type 0
LeftHaveFirstCauses = (reserve : List ℕ) (live : ℕ → Bool) (k : ℕ) (f : Function) (subs : List DebugSubstitution) → IsAscending reserve → IsSound f →
    Decides reserve f live → (r : ℕ) (why : Reason) → (spill_debug reserve).leaves (spilling_of_all reserve live k f subs) r why →
    IsFirstCause (spill_debug reserve) (spilling_of_all reserve live k f subs) r why
