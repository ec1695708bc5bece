use Rattle.std.proofs.Common.{List, ap, arith}
use Rattle.mir_func.specs.declared.object.Object.{Object}
use Rattle.mir_func.specs.Objects.{local_offsets, local_count}
use Rattle.mir_func.proofs.Ends.{here_first, none_left}
use Rattle.mir_func.proofs.sound_objects.local_count.Goals as goal

pub loop-o-preserved : goal.loop-o-preserved
loop-o-preserved c =
    let objects = c.args.objects.now in
    let i = c.loop-o.o-index in
    let more = ap (λ (os : List Object). local_count (local_offsets os)) (here_first i c.o-item.result objects c.loop-o-test.true c.o-item.is) in
    record {
      same = omega (arith, more, c.counted-count.ensures.value, c.loop-o.invariant.same);
      few = omega (arith, c.counted-count.ensures.one, c.loop-o.invariant.few);
    }

pub returns : goal.returns
returns c =
    let objects = c.args.objects.now in
    let none = ap (λ (os : List Object). local_count (local_offsets os)) (none_left c.loop-o.o-index objects c.loop-o-test.false) in
    omega (arith, none, c.loop-o.invariant.same)
