use Rattle.std.proofs.Common.{arith, ap, ◌++◌, ◌∙◌}
use Rattle.mir_func.proofs.Once.{codes_of, codes_turn}
use Rattle.mir_func.proofs.sound.code_numbers.Goals as goal

pub loop-b-preserved : goal.loop-b-preserved
loop-b-preserved c =
    codes_turn c.args.blocks.now c.loop-b.b-index c.b-item.result c.loop-b.numbers.items c.push_code_numbers.new.numbers.items _
    (omega arith) c.b-item.is c.loop-b.invariant
    (c.in_ok-push_code_numbers.ensures ∙ ap (λ xs. c.loop-b.numbers.items ++ codes_of xs) c.as_slice.ensures)
