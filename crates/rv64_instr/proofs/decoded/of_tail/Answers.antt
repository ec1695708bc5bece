use Rattle.std.proofs.Common.{List, ◌∷◌, IsTrue, refl}
use Rattle.rv64_instr.specs.declared.operand.Operand.{Operand}
use Rattle.rv64_instr.specs.declared.operand.Operand.TheVariants.{Symbol}
use Rattle.rv64_instr.specs.declared.decoded.Decoded.TheVariants.{Returns}
use Rattle.rv64_instr.specs.declared.decoded.Callee.TheVariants.{Named}
use Rattle.rv64_instr.specs.declared.decoded.Way.TheVariants.{Tail}
use Rattle.rv64_instr.specs.Form.{fits_tail}
use Rattle.rv64_instr.specs.Row as row
use Rattle.rv64_instr.specs.Row.{tail_row, implicit_uses}
use Rattle.rv64_instr.specs.Decoded.{Shows}
use Rattle.rv64_instr.proofs.decoded.of_tail.Goals as goal

tail_shown : (operands : List Operand) → IsTrue (fits_tail operands) → Shows (Returns (Tail Named)) (tail_row operands)
tail_shown (Symbol name ∷ rest) h =
    (record { way = row.Tail (row.Named name); values = implicit_uses rest }, refl, (row.Named name, refl, (name, refl)))
tail_shown _ h = absurd (cc)

pub returns : goal.returns
returns c = tail_shown c.args.operands.now c.requires
