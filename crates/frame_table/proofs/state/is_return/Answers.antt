use Rattle.std.proofs.Common.{ℕ, ◌≤◌, List, length, drop, sym, ap, ◌∙◌, arith}
use Rattle.mir_func.specs.declared.block.Block.{Block}
use Rattle.mir_func.specs.Function.{FramedFunction}
use Rattle.mir_func.specs.Graph.{fetch_in, is_return}
use Rattle.frame_table.proofs.Standing.{none_returns}
use Rattle.frame_table.proofs.state.is_return.Goals as goal

pub returns-in-None-get : goal.returns-in-None-get
returns-in-None-get c =
    let x = c.in-Some.ensures.lookup in
    let y = c.in-None-get.ensures.lookup in
    let few : length c.in-Some.block.now.items ≤ c.args.point.now.item = omega (arith, y.3, ap length c.as_slice.ensures) in
    let blocks = c.as_slice-blocks.ensures ∙ ap (λ (f : FramedFunction). f.blocks) c.framed.view_is in
    let none = none_returns c.as_slice-blocks.result.now c.number.result c.args.point.now.item c.in-Some.block.now x.3.0 x.1 few in
    sym none
    ∙ ap (λ (bs : List Block). is_return (fetch_in (drop c.number.result bs) c.args.point.now.item)) blocks
    ∙ ap (λ (n : ℕ). is_return (fetch_in (drop n c.args.framed.now.blocks) c.args.point.now.item)) c.number.ensures
