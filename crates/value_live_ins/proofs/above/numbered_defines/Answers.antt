use Rattle.std.proofs.Common.{◌≡◌, List, ap, sym, ◌∙◌, eqb-true}
use Rattle.std.specs.Prelude.{Bool, is_some, slice_get}
use Rattle.rv64_instr.specs.declared.operand.Operand.{Operand}
use Rattle.rv64_instr.specs.LocationEffects.{is_call}
use Rattle.rv64_instr.specs.Row.{row_of}
use Rattle.sem_mir.specs.Step.{defined}
use Rattle.value_live_ins.proofs.Defining.{code_has}
use Rattle.value_live_ins.proofs.above.numbered_defines.Goals as goal

pub returns : goal.returns
returns c = λ on.
    let i = c.args.instr.now in
    let calls : c.effect.result.call ≡ is_call (row_of i) = ap (λ e. e.call) c.effect.ensures in
    let operands : c.as_slice.result.now ≡ i.operands = c.as_slice.ensures ∙ ap (λ i. i.operands) c.instr.view_is in
    let same =
    ap (λ (b : Bool). is_some (defined b (slice_get c.as_slice.result.now c.args.operand))) calls
    ∙ ap (λ (os : List Operand). is_some (defined (is_call (row_of i)) (slice_get os c.args.operand))) operands in
    code_has i c.args.n c.args.number c.args.operand (eqb-true c.args.number c.args.n (sym c.is_number.ensures ∙ c.if-not-is_number.false))
    (sym same ∙ (sym c.operand_defines.ensures ∙ on))
