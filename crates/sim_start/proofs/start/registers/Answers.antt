use Rattle.std.proofs.Common.{◌≢◌, ◌<◌, length, arith, get_or-set_other, get_or-set_same, below_more}
use Rattle.std.proofs.Math.ListN.{length-set}
use Rattle.sim_start.proofs.start.registers.Goals as goal

pub loop-r-preserved : goal.loop-r-preserved
loop-r-preserved c =
    let long = c.loop-r.invariant.long in
    let test : c.loop-r.r < 32 = c.loop-r-test.true in
    record {
      long = simp length-set long;
      each = below_more _ _ (λ k h. let ne : k ≢ c.loop-r.r = omega arith in rw get_or-set_other (c.loop-r.invariant.each k h))
          (let lt : c.loop-r.r < length c.loop-r.regs = omega (arith, long, test) in rw get_or-set_same c.register.ensures);
    }
