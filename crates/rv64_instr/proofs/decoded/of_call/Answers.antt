use Rattle.std.proofs.Common.{List, ◌∷◌, IsTrue, refl}
use Rattle.rv64_instr.specs.declared.operand.Operand.{Operand}
use Rattle.rv64_instr.specs.declared.operand.Operand.TheVariants.{Symbol, Mask}
use Rattle.rv64_instr.specs.declared.decoded.Decoded.TheVariants.{Calls}
use Rattle.rv64_instr.specs.declared.decoded.Callee.TheVariants.{Named}
use Rattle.rv64_instr.specs.Form.{fits_call}
use Rattle.rv64_instr.specs.Row as row
use Rattle.rv64_instr.specs.Row.{call_row, implicit_uses, outgoing_words}
use Rattle.rv64_instr.specs.Decoded.{Shows}
use Rattle.rv64_instr.proofs.decoded.of_call.Goals as goal

call_shown : (operands : List Operand) → IsTrue (fits_call operands) → Shows (Calls Named) (call_row operands)
call_shown (Symbol name ∷ Mask ∷ rest) h =
    (record { callee = row.Named name; args = implicit_uses rest; outgoing = outgoing_words rest }, refl, (name, refl))
call_shown _ h = absurd (cc)

pub returns : goal.returns
returns c = call_shown c.args.operands.now c.requires
