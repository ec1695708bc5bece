-- A function as it is read refines itself.
use Rattle.std.specs.Prelude.{List, Option}
use Rattle.mir_func.specs.declared.block.Block.{Block}
use Rattle.mir_func.specs.declared.debug_substitution.OperandPair.{OperandPair}
use Rattle.mir_func.specs.declared.object.Object.{Object}
use Rattle.sem_mir.specs.Follow.{IsRead, Follows, HasWholeEnds}

-- a function as it is read follows itself, that is, refines itself, with matched block ends
abbrev pub SourceFollowsItself : Type 0
SourceFollowsItself = (objects : List Object) (blocks : List Block) (resolve : OperandPair → Option OperandPair) → IsRead blocks →
    Follows objects blocks blocks resolve resolve × HasWholeEnds objects blocks blocks resolve resolve
