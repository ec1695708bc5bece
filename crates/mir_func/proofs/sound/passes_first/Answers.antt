use Rattle.std.proofs.Common.{◌≡◌, sym, ap, ◌∙◌}
use Rattle.rv64_instr.specs.Row.{row_of, outgoing_words}
use Rattle.rv64_instr.proofs.Passed.{outgoing_are}
use Rattle.mir_func.proofs.sound.passes_first.Goals as goal

pub returns : goal.returns
returns c =
    let i = c.args.i.now in
    let same : c.as_slice-operands.result.now ≡ i.operands = c.as_slice-operands.ensures ∙ ap (λ i. i.operands) c.i.view_is in
    c.is_row_passing_first.ensures (row_of i) c.decoded.ensures.row (λ call e. outgoing_are i call e ∙ ap outgoing_words (sym same))
