-- The origins in a function with its frame, for a function that simulates a source.
use Rattle.std.specs.Prelude.{◌<◌, ◌≤◌, All, Option, true, false, ◌++◌}
use Rattle.rv64_instr.specs.Row.{Row, Returns, row_of}
use Rattle.rv64_instr.specs.DefsAndUses.{way_reads}
use Rattle.mir_func.specs.declared.debug_substitution.OperandPair.{OperandPair}
use Rattle.mir_func.specs.declared.item.ItemKind.{ItemKind}
use Rattle.mir_func.specs.declared.item.ItemKind.TheVariants.{Code, Mark, Phi}
use Rattle.mir_func.specs.Function.{Function}
use Rattle.mir_func.specs.Graph.{program_of, framed_program}
use Rattle.mir_func.specs.Sound.{AllItems, IsSound}
use Rattle.mir_func.specs.SoundFrame.{IsFramed}
use Rattle.mir_func.specs.declared.position.Pos.{Pos}
use Rattle.sem_mir.specs.Follow.{IsRead, Shape}
use Rattle.sem_simulation.specs.Words.{HasPlainTurns}
use Rattle.frame_rule.specs.Rule.{framed_of}
use Rattle.machine_proof.specs.Runs.{ComesFrom}

-- what a return reads is in physical registers
abbrev pub ResultsArePhysical : Row → Type 0
ResultsArePhysical (Returns ending) = All (λ r. r < 32) (way_reads ending.way ++ ending.values)
ResultsArePhysical _ = Unit {0}

-- the item, if it is a return, returns physical registers
abbrev pub KindReturnsPhysical : ItemKind → Type 0
KindReturnsPhysical (Code c k) = ResultsArePhysical (row_of c)
KindReturnsPhysical (Mark v m) = Unit {0}
KindReturnsPhysical (Phi p k) = Unit {0}

-- f is derived from a source as read: f is sound and has the source's shape, and the source returns physical registers
pub record IsMadeFrom (source f : Function) (resolve fresolve : OperandPair → Option OperandPair) : Type 0 where
  pub read : IsRead source.blocks
  pub returns : AllItems (λ i. KindReturnsPhysical i.kind) source.blocks
  pub sound : IsSound f
  pub shape : Shape source.blocks f.blocks (program_of true source.blocks resolve) (program_of false f.blocks fresolve)

-- With its frame such a function satisfies `ComesFrom`.
abbrev pub FramedComesFrom : Type 0
FramedComesFrom = (source f : Function) (resolve fresolve : OperandPair → Option OperandPair) → IsMadeFrom source f resolve fresolve →
    IsFramed (framed_of f) → ComesFrom (program_of true source.blocks resolve) (framed_of f)

-- a position after the prologue
abbrev pub IsInner : Pos → Type 0
IsInner p = 1 ≤ p.block

-- With its frame such a function satisfies `HasPlainTurns`, with the positions after the prologue as the inner ones.
abbrev pub FramedHasPlainTurns : Type 0
FramedHasPlainTurns = (source f : Function) (resolve fresolve : OperandPair → Option OperandPair) → IsMadeFrom source f resolve fresolve →
    IsFramed (framed_of f) → HasPlainTurns (framed_program (framed_of f).blocks fresolve) IsInner
