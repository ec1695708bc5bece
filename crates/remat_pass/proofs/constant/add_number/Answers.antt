use Rattle.std.proofs.Common.{◌≡◌, ◌∷◌, filter, refl, rules}
use Rattle.rv64_instr.specs.declared.operand.Operand.TheVariants.{Def, Use, Imm}
use Rattle.rv64_instr.specs.Form.{is_implicit}
use Rattle.remat_pass.proofs.Forms.{add_form}
use Rattle.remat_pass.proofs.constant.add_number.Goals as goal

pub unreachable-requires : goal.unreachable-requires
unreachable-requires c =
    let list : c.push_implicit.new.list ≡ Def c.args.rd ∷ Use 0 ∷ Imm c.args.n ∷ filter is_implicit c.args.operands.now = search rules in
    add_form c.args.rd c.args.n c.args.operands.now c.push_implicit.new.list list c.requires (c.in-None.ensures.none.0 refl)
