use Rattle.std.proofs.Common.{◌≡◌, ◌∷◌, filter, refl, rules}
use Rattle.rv64_instr.specs.declared.operand.Operand.TheVariants.{Def, Imm}
use Rattle.rv64_instr.specs.Form.{is_implicit}
use Rattle.remat_pass.proofs.Forms.{upper_form}
use Rattle.remat_pass.proofs.constant.load_upper.Goals as goal

pub unreachable-requires : goal.unreachable-requires
unreachable-requires c =
    let list : c.push_implicit.new.list ≡ Def c.args.rd ∷ Imm c.args.n ∷ filter is_implicit c.args.operands.now = search rules in
    upper_form c.args.rd c.args.n c.args.operands.now c.push_implicit.new.list list c.requires (c.in-None.ensures.none.0 refl)
