use Rattle.std.proofs.Common.{◌≡◌, ◌+◌, ℕ, max, drop, sym, ap, ◌∙◌, arith}
use Rattle.std.proofs.lemmas.Bool.Decides.{nat_tests}
use Rattle.mir_func.specs.Objects.{up_to, depth_of, depth_from}
use Rattle.mir_func.proofs.Ends.{depth_turn, depth_is}
use Rattle.mir_func.proofs.object.fixed_area.Goals as goal

pub loop-o-preserved : goal.loop-o-preserved
loop-o-preserved c =
    let objects = c.args.objects.now in
    let o = c.o-item.result in
    let i = c.loop-o.o-index in
    let most : c.max-depth.result ≡ max c.loop-o.depth (depth_of o.fixed_offset) = grind (arith, nat_tests, c.max-depth.ensures, c.depth_of.ensures.value) in
    record {
      same = ap (λ (n : ℕ). depth_from n (drop (i + 1) objects)) most
          ∙ sym (depth_turn c.loop-o.depth i o objects c.loop-o-test.true c.o-item.is) ∙ c.loop-o.invariant.same;
      small = omega (arith, most, c.depth_of.ensures.value, c.depth_of.ensures.small, c.loop-o.invariant.small);
    }

pub returns-clause-value : goal.returns-clause-value
returns-clause-value c =
    c.up_to.ensures ∙ ap (up_to 16) (c.from.ensures ∙ sym (depth_is c.loop-o.depth c.loop-o.o-index c.args.objects.now c.loop-o-test.false)
    ∙ c.loop-o.invariant.same)

pub returns-clause-small : goal.returns-clause-small
returns-clause-small c = omega (arith, c.up_to.ensures, c.from.ensures, c.loop-o.invariant.small)
