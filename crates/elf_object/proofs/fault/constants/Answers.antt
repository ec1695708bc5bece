use Rattle.std.proofs.Common.{arith, length-append, ap}
use Rattle.std.proofs.lemmas.Bool.Decides.{Decides-eqb}
use Rattle.std.proofs.lemmas.Slice.Eq.{strip_prefix_is}
use Rattle.std.proofs.Common.{Some, None, length}
use Rattle.elf_object.proofs.FaultLoops.{constants_more, constants_stop, total_more}
use Rattle.elf_object.proofs.fault.constants.Goals as goal

pub returns-in-None : goal.returns-in-None
returns-in-None c =
    constants_stop _ _ _ _ _ _ _ c.loop-size-test.true c.loop-size.invariant.so_far c.split_at-in-loop-size.ensures.front
    (strip_prefix_is Decides-eqb c.loop-size.rest.now c.split_at-in-loop-size.result.0.now None c.in-None.ensures.cases)

pub loop-size-preserved : goal.loop-size-preserved
loop-size-preserved c =
    let stands = strip_prefix_is Decides-eqb c.loop-size.rest.now c.split_at-in-loop-size.result.0.now (Some c.in-Some.after) c.in-Some.ensures.cases in
    record {
      so_far = constants_more _ _ _ _ _ _ _ _ _ c.loop-size-test.true c.loop-size.invariant.so_far c.split_at-in-loop-size.ensures.front
          c.split_at-in-loop-size.ensures.back c.split_at-in-loop-size.ensures.front_len stands;
      sizes = omega (
        arith,
        c.loop-size.invariant.sizes,
        total_more c.args.sizes.now c.loop-size.size-index c.loop-size-test.true,
        c.split_at-in-loop-size.ensures.back_len,
      );
      place = omega (
        arith,
        c.loop-size.invariant.place,
        ap length stands,
        length-append c.split_at-in-loop-size.result.0.now c.in-Some.after.now,
        c.split_at-in-loop-size.ensures.front_len,
      );
    }
