use Rattle.std.proofs.Common.{◌≡◌, ◌++◌, List, take, map, false}
use Rattle.mir_func.specs.declared.block.Block.{Block}
use Rattle.emit_code.specs.steps.Places.{IsTableOf}
use Rattle.emit_code.specs.steps.Spans.{span_of}
use Rattle.emit_code.proofs.span.push_spans.Given as goal

abbrev pub invariant-loop-item : goal.invariant-loop-item
invariant-loop-item l = (blocks : List Block) → IsTableOf blocks l.table →
    l.spans ≡ l.initial.spans ++ map (λ i. span_of blocks false i.kind) (take l.item-index l.items)
