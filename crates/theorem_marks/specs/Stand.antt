-- Debug values that survive passes are between the same kept code as in the source.
use Rattle.std.specs.Prelude.{◌≡◌, ◌↔◌, ℕ, ◌<◌, List, [], ◌∷◌, Contains, Some, slice_get, true}
use Rattle.mir_func.specs.declared.block.Block.{Block}
use Rattle.mir_func.specs.declared.item.Item.{Item}
use Rattle.mir_func.specs.declared.item.ItemKind.TheVariants.{Mark}
use Rattle.mir_func.specs.declared.position.Origin.TheVariants.{Kept}
use Rattle.mir_func.specs.declared.position.Pos.{Pos}
use Rattle.mir_func.specs.declared.variable.MarkValue.{MarkValue}
use Rattle.mir_func.specs.declared.variable.VarId.{VarId}
use Rattle.mir_func.specs.Function.{Function}
use Rattle.sem_mir.specs.Align.{is_code}
use Rattle.pass_trait.specs.declared.loss.Loss.{Loss}
use Rattle.pass_trait.specs.declared.loss.Reason.{Reason}
use Rattle.pass_trait.specs.Rule.{StandsAt, mark_lost}
use Rattle.read_program.specs.declared.program.Program.{Program}
use Rattle.run_command.specs.compile_theorem.Source.{PassedFunction, IsPassedFunction}
use Rattle.pass_list.specs.declared.kind.PassKind.{PassKind}
use Rattle.run_command.specs.Program.{CompiledFunction, IsCompilationOf, IsMadeLosing}
use Rattle.run_command.specs.Runs.{Compilation}

-- no loss of the debug value at this source position is reported
abbrev pub IsNotDropped : (told : List Loss) → Pos → Type 0
IsNotDropped told p = (why : Reason) → Contains told (mark_lost (Kept p) why) → ⊥

-- A debug value of the variable v, with the source position p as its origin, is in the function, in the block of p. Each kept code item of this block
-- has its origin in the same block, and is before the debug value exactly if its origin is before p.
pub record KeepsDebugValue (f : Function) (p : Pos) (v : VarId) : Type 0 where
  pub block : Block
  pub among : Contains f.blocks block
  pub number : block.id ≡ p.block
  pub index : ℕ
  pub mark : Item
  pub stands : slice_get block.items index ≡ Some mark
  pub marks : (m : MarkValue) × (mark.kind ≡ Mark v m)
  pub kept : mark.origin ≡ Kept p
  pub beside : (k : ℕ) (i : Item) (q : Pos) → slice_get block.items k ≡ Some i → is_code i.kind ≡ true → i.origin ≡ Kept q →
      (q.block ≡ p.block) × ((k < index) ↔ (q.item < p.item))

-- Each debug value of the source that isn't reported lost is in the passed function like this.
abbrev pub MarksStandIn : PassedFunction → (told : List Loss) → Type 0
MarksStandIn p told = (at : Pos) (i : Item) (v : VarId) (m : MarkValue) → StandsAt p.source.function at i → i.kind ≡ Mark v m → IsNotDropped told at →
    KeepsDebugValue p.function at v

-- This holds for whatever passes make of a function that was read.
abbrev pub MarksStand : Type 0
MarksStand = (reserve : List ℕ) (passes : List PassKind) (p : PassedFunction) (told : List Loss) → IsPassedFunction p →
    IsMadeLosing reserve passes p told → MarksStandIn p told

-- For each of these functions, all debug values of its source are there, except those that its losses report.
abbrev pub AllStand : List PassedFunction → List CompiledFunction → Type 0
AllStand [] [] = Unit {0}
AllStand [] (c ∷ cs) = ⊥
AllStand (p ∷ ps) [] = ⊥
AllStand (p ∷ ps) (c ∷ cs) = MarksStandIn p c.losses × AllStand ps cs

-- This holds for every compilation of a program, for its passed functions and what is made of them.
abbrev pub CompiledMarksStand : Type 0
CompiledMarksStand = (reserve : List ℕ) (passes : List PassKind) (p : Program) (c : Compilation) →
    (is : IsCompilationOf reserve passes p c) → AllStand is.functions c.functions
