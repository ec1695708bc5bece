-- Two functions of one no-operation: in the one its block has silent index 1, in the other 2. The rule takes it out of the
-- one alone.
use Rattle.std.proofs.Common.{◌≡◌, ℕ, [], ◌∷◌, length, None, refl, ap, arith}
use Rattle.std.specs.Prelude.{pos, false}
use Rattle.rv64_instr.specs.declared.op.Op.TheVariants.{Immediate}
use Rattle.rv64_instr.specs.declared.op.ImmediateOp.TheVariants.{Addi}
use Rattle.rv64_instr.specs.declared.operand.Operand.TheVariants.{Def, Use, Imm}
use Rattle.mir_func.specs.declared.position.Origin.TheVariants.{Kept}
use Rattle.mir_func.specs.declared.location.Loc.TheVariants.{Absent}
use Rattle.mir_func.specs.declared.item.Item.{Item}
use Rattle.mir_func.specs.declared.item.ItemKind.TheVariants.{Code}
use Rattle.mir_func.specs.Function.{Function}
use Rattle.mir_func.specs.Sound.{items_of}
use Rattle.test_ir.proofs.laws.silent_indices_are_no_code.Goals as goal

abbrev nop : Item
nop = record {
  kind = Code (record { op = Immediate Addi; operands = Def 0 ∷ Use 0 ∷ Imm (pos 0) ∷ []; volatile = false }) None;
  origin = Kept (record { block = 0; item = 0 });
  loc = Absent;
}

abbrev alone : (source_end : ℕ) → Function
alone n = record { name = []; slots = []; objects = []; blocks = record { id = 0; items = nop ∷ []; source_end = n } ∷ [] }

pub returns : goal.returns
returns c sees =
    let same = sees (alone 1) (alone 2) _ _ refl refl refl in
    let left : 0 ≡ length (nop ∷ []) = ap (λ (f : Function). length (items_of f.blocks)) same in
    omega (arith, left)
