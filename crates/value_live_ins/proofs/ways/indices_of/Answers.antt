use Rattle.std.proofs.Common.{ℕ, get_or, ap, ◌∙◌}
use Rattle.std.specs.Prelude.{Some, cond, nat_eq}
use Rattle.std.specs.HashMap.{get}
use Rattle.value_live_ins.proofs.Solving.{finds_more}
use Rattle.value_live_ins.proofs.ways.indices_of.Goals as goal

pub loop-i-preserved : goal.loop-i-preserved
loop-i-preserved c =
    let blocks = c.args.blocks.now in
    let i = c.loop-i.i in
    finds_more i blocks c.loop-i.indices c.insert.new.self (get_or blocks i c.index-blocks-i.result) c.loop-i.invariant c.loop-i.auto.i c.loop-i-test.true
    (ap (get_or blocks i) c.index-blocks-i.is)
    (λ q. c.in_ok-insert.ensures.updates.0 q ∙ ap (λ (k : ℕ). cond (nat_eq k q) (Some i) (get nat_eq c.loop-i.indices q)) c.number.ensures)
