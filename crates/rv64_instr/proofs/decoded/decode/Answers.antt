use Rattle.std.proofs.Common.{ap, refl, sym, ◌∙◌}
use Rattle.rv64_instr.specs.declared.op.Op.{Op}
use Rattle.rv64_instr.specs.Row.{row_of, row_by}
use Rattle.rv64_instr.proofs.decoded.decode.Goals as goal

pub returns-in-PseudoRet : goal.returns-in-PseudoRet
returns-in-PseudoRet c =
    let i = c.i.inside in
    (_, ap row_of (sym c.i.view_is) ∙ ap (λ (o : Op). row_by o i.operands) c.in-PseudoRet.is, refl)
