use Rattle.std.proofs.Common.{ℕ, List, ◌+◌, drop, sym, ap, ◌∙◌, arith}
use Rattle.mir_func.specs.declared.object.Object.{Object}
use Rattle.mir_func.specs.Objects.{up_to, local_offsets, reach_from}
use Rattle.mir_func.proofs.Ends.{here_first, none_left}
use Rattle.mir_func.proofs.sound_objects.block_size.Goals as goal

pub loop-o-preserved : goal.loop-o-preserved
loop-o-preserved c =
    let objects = c.args.objects.now in
    let i = c.loop-o.o-index in
    record {
      same = ap (λ (n : ℕ). reach_from n (local_offsets (drop (i + 1) objects))) c.reach_after-reach.ensures
          ∙ sym (ap (λ (os : List Object). reach_from c.loop-o.reach (local_offsets os)) (here_first i c.o-item.result objects c.loop-o-test.true c.o-item.is))
          ∙ c.loop-o.invariant.same;
      small = omega arith;
    }

pub returns-clause-value : goal.returns-clause-value
returns-clause-value c =
    let objects = c.args.objects.now in
    c.up_to.ensures ∙ ap (up_to 16) (c.from.ensures
    ∙ sym (ap (λ (os : List Object). reach_from c.loop-o.reach (local_offsets os)) (none_left c.loop-o.o-index objects c.loop-o-test.false))
    ∙ c.loop-o.invariant.same)

pub returns-clause-small : goal.returns-clause-small
returns-clause-small c = omega (arith, c.up_to.ensures, c.from.ensures, c.loop-o.invariant.small)
