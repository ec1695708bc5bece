use Rattle.std.proofs.Common.{◌≡◌, ◌≤◌, ◌+◌, ℕ, max, drop, sym, ap, ◌∙◌, subst, arith}
use Rattle.std.proofs.lemmas.Bool.Decides.{nat_tests}
use Rattle.mir_func.specs.declared.object.Object.{Object}
use Rattle.mir_func.specs.Objects.{extent_from, area_of}
use Rattle.mir_func.proofs.Ends.{each_ends_low, extent_turn, extent_is, area_within}
use Rattle.mir_func.proofs.object.extent.Goals as goal

pub loop-o-init : goal.loop-o-init
loop-o-init c = record {
  same = ap (λ (n : ℕ). extent_from n c.args.objects.now) c.area-end.ensures.value;
  few = c.area-end.ensures.small;
}

pub loop-o-preserved : goal.loop-o-preserved
loop-o-preserved c =
    let objects = c.args.objects.now in
    let o = c.o-item.result in
    let i = c.loop-o.o-index in
    let low : o.offset + o.size ≤ 486405046304 = subst (λ (x : Object). x.offset + x.size ≤ 486405046304) (sym c.o-item.is)
    (each_ends_low objects c.requires.few c.requires.each c.requires.laid i o c.loop-o-test.true) in
    let most : c.max-end.result ≡ max c.loop-o.end (o.offset + o.size) = grind (arith, nat_tests, c.max-end.ensures, c.from.ensures) in
    record {
      same = ap (λ (n : ℕ). extent_from n (drop (i + 1) objects)) most
          ∙ sym (extent_turn c.loop-o.end i o objects c.loop-o-test.true c.o-item.is) ∙ c.loop-o.invariant.same;
      few = omega (arith, most, low, c.loop-o.invariant.few);
    }

pub overflow_add-o : goal.overflow_add-o
overflow_add-o c =
    let objects = c.args.objects.now in
    let o = c.o-item.result in
    let low : o.offset + o.size ≤ 486405046304 = subst (λ (x : Object). x.offset + x.size ≤ 486405046304) (sym c.o-item.is)
    (each_ends_low objects c.requires.few c.requires.each c.requires.laid c.loop-o.o-index o c.loop-o-test.true) in
    omega (arith, c.from.ensures, low)

pub returns-clause-value : goal.returns-clause-value
returns-clause-value c = sym (extent_is c.loop-o.end c.loop-o.o-index c.args.objects.now c.loop-o-test.false) ∙ c.loop-o.invariant.same

pub returns-clause-above : goal.returns-clause-above
returns-clause-above c =
    let is = sym (extent_is c.loop-o.end c.loop-o.o-index c.args.objects.now c.loop-o-test.false) ∙ c.loop-o.invariant.same in
    subst (λ (n : ℕ). area_of c.args.objects.now ≤ n) (sym is) (area_within c.args.objects.now)
