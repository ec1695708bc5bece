-- Spilling the registers that the rule chooses preserves the simulation.
use Rattle.std.specs.Prelude.{ℕ, List, Contains, Option, Bool}
use Rattle.mir_func.specs.declared.debug_substitution.OperandPair.{OperandPair}
use Rattle.mir_func.specs.declared.object.Object.{Object}
use Rattle.mir_func.specs.declared.block.Block.{Block}
use Rattle.mir_func.specs.Function.{Function}
use Rattle.mir_func.specs.Sound.{AllItems, IsSound, HasForm}
use Rattle.pass_trait.specs.sem_mir.Follow.{Follows, HasWholeEnds}
use Rattle.spill_rule.specs.Choice.{spilling_of, spilled}
use Rattle.spill_rule.specs.Chosen.{IsReservable, AreDistinct, AsksElsewhere}
use Rattle.spill_rule.specs.Rule.{Decides}

-- for a sound function whose code has the required forms and whose debug items name no affected register; matched block
-- ends stay matched
abbrev pub RuleFollows : Type 0
RuleFollows = (objects : List Object) (src : List Block) (subs fsubs : OperandPair → Option OperandPair) (reserve : List ℕ) (live : ℕ → Bool) (f : Function) →
    IsSound f → AllItems (λ i. HasForm i.kind) f.blocks → ((r : ℕ) → Contains reserve r → IsReservable r) → AreDistinct reserve → Decides reserve f live →
    AllItems (λ i. AsksElsewhere (spilling_of reserve live f) i.kind) f.blocks → Follows objects src f.blocks subs fsubs →
    Follows objects src (spilled reserve live f).blocks subs fsubs ×
    (HasWholeEnds objects src f.blocks subs fsubs → HasWholeEnds objects src (spilled reserve live f).blocks subs fsubs)
