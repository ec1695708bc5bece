-- The shape of a folded function.
use Rattle.std.specs.Prelude.{◌≡◌, List, Option, false, true, length}
use Rattle.mir_func.specs.declared.block.Block.{Block}
use Rattle.mir_func.specs.declared.debug_substitution.OperandPair.{OperandPair}
use Rattle.mir_func.specs.declared.item.Item.{Item}
use Rattle.mir_func.specs.declared.position.Pos.{Pos}
use Rattle.mir_func.specs.Function.{Function}
use Rattle.mir_func.specs.Sound.{AllItems, IsSound, HasForm}
use Rattle.mir_func.specs.Graph.{Here, program_of}
use Rattle.sem_mir.specs.Follow.{OnRow, IsEnd, Shape, EndIsKept, EndComesFrom}
use Rattle.fold_rule_proof.specs.Kills.{IsFoldedWithKills}

-- if a function has the shape of a simulated function, as many blocks as the source, and the source's branches and
-- returns, the folded one has the shape too
abbrev pub FoldedHasShape : Type 0
FoldedHasShape = (f g : Function) (src : List Block) (subs resolve : OperandPair → Option OperandPair) → IsSound f →
    AllItems (λ i. HasForm i.kind) f.blocks → IsFoldedWithKills f g →
    Shape src f.blocks (program_of true src subs) (program_of false f.blocks resolve) → length f.blocks ≡ length src →
    ((p : Pos) (i : Item) → (program_of true src subs).fetch p ≡ Here i → OnRow IsEnd i.kind → EndIsKept (program_of false f.blocks resolve) p i) →
    ((q : Pos) (j : Item) → (program_of false f.blocks resolve).fetch q ≡ Here j → OnRow IsEnd j.kind → EndComesFrom (program_of true src subs) j) →
    Shape src g.blocks (program_of true src subs) (program_of false g.blocks resolve)
