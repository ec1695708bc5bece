use Rattle.std.proofs.Common.{◌≡◌, ◌<◌, ◌^◌, List, length, take, subst, arith, rules}
use Rattle.std.specs.Prelude.{All}
use Rattle.std.proofs.lemmas.List.{take_all}
use Rattle.std.proofs.lemmas.List.Elements.{All-more}
use Rattle.mir_func.specs.declared.block.Block.{Block}
use Rattle.sem_interpreter.proofs.state.are_counted.Goals as goal

pub loop-b-preserved : goal.loop-b-preserved
loop-b-preserved c =
    let blocks = c.args.blocks.now in
    let few : length c.b-item.result.items < 2 ^ 32 = omega (arith, c.if-len.false, c.len.ensures) in
    All-more (λ b. length b.items < 2 ^ 32) blocks c.loop-b.b-index c.b-item.result c.loop-b-test.true c.loop-b.invariant
    (subst (λ (b : Block). length b.items < 2 ^ 32) c.b-item.is few)

pub returns : goal.returns
returns c =
    let blocks = c.args.blocks.now in
    let all : take c.loop-b.b-index blocks ≡ blocks = take_all c.loop-b.b-index blocks (omega arith) in
    (λ _. subst (λ (bs : List Block). All (λ b. length b.items < 2 ^ 32) bs) all c.loop-b.invariant, λ _. search rules)
