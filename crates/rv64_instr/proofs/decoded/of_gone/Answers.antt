use Rattle.std.proofs.Common.{List, ◌∷◌, IsTrue, refl}
use Rattle.rv64_instr.specs.declared.operand.Operand.{Operand}
use Rattle.rv64_instr.specs.declared.operand.Operand.TheVariants.{Symbol, Mask}
use Rattle.rv64_instr.specs.declared.decoded.Decoded.TheVariants.{Returns}
use Rattle.rv64_instr.specs.declared.decoded.Callee.TheVariants.{Named}
use Rattle.rv64_instr.specs.declared.decoded.Way.TheVariants.{Never}
use Rattle.rv64_instr.specs.Form.{fits_gone}
use Rattle.rv64_instr.specs.Row as row
use Rattle.rv64_instr.specs.Row.{gone_row, implicit_uses}
use Rattle.rv64_instr.specs.Decoded.{Shows}
use Rattle.rv64_instr.proofs.decoded.of_gone.Goals as goal

gone_shown : (operands : List Operand) → IsTrue (fits_gone operands) → Shows (Returns (Never Named)) (gone_row operands)
gone_shown (Symbol name ∷ Mask ∷ rest) h =
    (record { way = row.Never (row.Named name); values = implicit_uses rest }, refl, (row.Named name, refl, (name, refl)))
gone_shown _ h = absurd (cc)

pub returns : goal.returns
returns c = gone_shown c.args.operands.now c.requires
