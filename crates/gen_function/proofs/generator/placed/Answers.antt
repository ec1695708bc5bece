use Rattle.std.proofs.Common.{◌≡◌, length, ap, ◌∙◌, arith, zero-add}
use Rattle.std.proofs.lemmas.Grind.{common_steps}
use Rattle.std.proofs.lemmas.Iterator.Adapters.{YieldsList-from_vec}
use Rattle.std.proofs.lemmas.Iterator.Consumers.{YieldsList-turn}
use Rattle.gen_function.proofs.Placing.{placed-snoc, length-placed}
use Rattle.gen_function.proofs.generator.placed.Goals as goal

pub overflow_cast-origin : goal.overflow_cast-origin
overflow_cast-origin c =
    let it = c.into_iter-kind-iterator in
    let v = c.into_vec-kind-items in
    let k = c.args.kinds in
    let len : it.result.rest.len ≡ length k = omega (arith, it.ensures.into_iter_gives.1, v.result.ok.0, ap length v.ensures) in
    let y = YieldsList-from_vec {s = it.result} k (it.ensures.into_iter_gives.0 ∙ v.ensures) len in
    let t = YieldsList-turn y c.loop-kind.yielded c.loop-kind.kind-iterator c.loop-kind.yielded_by c.next.result c.next.new.self c.in-Some.kind c.in-Some.is
    c.next.ensures.steps in
    omega (arith, t.0, ap length c.loop-kind.invariant, length-placed c.args.block 0 c.loop-kind.yielded)

pub loop-kind-preserved : goal.loop-kind-preserved
loop-kind-preserved c =
    let e = placed-snoc c.args.block 0 c.loop-kind.yielded c.in-Some.kind in
    let l = length-placed c.args.block 0 c.loop-kind.yielded in
    let z = zero-add (length c.loop-kind.yielded) in
    grind (arith, common_steps)
