use Rattle.std.proofs.Common.{◌<◌, ◌∙◌, length, length-set, arith}
use Rattle.frame_table.proofs.Distances.{distances_more}
use Rattle.frame_table.proofs.saved.distances.Goals as goal

pub loop-register-preserved : goal.loop-register-preserved
loop-register-preserved c =
    let inside : c.loop-register.register < length c.loop-register.distances = omega (arith, c.loop-register-test.true, c.loop-register.invariant.count) in
    record {
      count = length-set _ _ _ ∙ c.loop-register.invariant.count;
      are = distances_more c.args.framed.now c.loop-register.distances c.loop-register.register c.distance.result inside c.loop-register.invariant.are
          c.distance.ensures;
    }
