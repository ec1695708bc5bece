use Rattle.std.proofs.Common.{◌≡◌, ◌≤◌, ◌+◌, ℕ, None, drop, sym, ap, ◌∙◌, subst, arith}
use Rattle.mir_func.specs.declared.object.Object.{Object}
use Rattle.mir_func.specs.Objects.{end_from, own_end}
use Rattle.mir_func.proofs.Ends.{each_own_low, own_low, end_turn, end_is}
use Rattle.mir_func.proofs.object.greatest_end.Goals as goal

pub own_end-end-requires : goal.own_end-end-requires
own_end-end-requires c = record {
  fits = λ own.
      let objects = c.args.objects.now in
      let o = c.o-item.result in
      let low : o.offset + o.size ≤ 483183820800 = subst (λ (x : Object). x.fixed_offset ≡ None → x.offset + x.size ≤ 483183820800) (sym c.o-item.is)
      (each_own_low objects c.requires.few c.requires.each c.requires.laid c.loop-o.o-index o c.loop-o-test.true) own in
      omega (arith, low);
}

pub loop-o-preserved : goal.loop-o-preserved
loop-o-preserved c =
    let objects = c.args.objects.now in
    let o = c.o-item.result in
    let i = c.loop-o.o-index in
    let low = own_low c.loop-o.end o o.fixed_offset c.loop-o.invariant.few
    (subst (λ (x : Object). x.fixed_offset ≡ None → x.offset + x.size ≤ 483183820800) (sym c.o-item.is)
    (each_own_low objects c.requires.few c.requires.each c.requires.laid i o c.loop-o-test.true)) in
    record {
      same = ap (λ (n : ℕ). end_from n (drop (i + 1) objects)) c.own_end-end.ensures
          ∙ sym (end_turn c.loop-o.end i o objects c.loop-o-test.true c.o-item.is) ∙ c.loop-o.invariant.same;
      few = subst (λ (n : ℕ). n ≤ 483183820800) (sym c.own_end-end.ensures) low;
    }

pub returns-clause-value : goal.returns-clause-value
returns-clause-value c = sym (end_is c.loop-o.end c.loop-o.o-index c.args.objects.now c.loop-o-test.false) ∙ c.loop-o.invariant.same
