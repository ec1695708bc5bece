use Rattle.std.proofs.Common.{ℕ, Option, Some, cond, ap, ◌∙◌, add-one, arith}
use Rattle.value_solver.specs.PairNumbers.{is_pair}
use Rattle.value_solver.proofs.Pairing.{numbering_begins, numbering_next, numbering_ends}
use Rattle.value_solver.proofs.meet.meet.Goals as goal

pub put-requires-clause-unmet : goal.put-requires-clause-unmet
put-requires-clause-unmet c = c.in_ok-forget.ensures.none (0, 0)

pub loop-i-init : goal.loop-i-init
loop-i-init c = record {
  numbering = numbering_begins c.args.a.now c.args.b.now _ c.in_ok-classes.classes.items c.in_ok-classes.ensures.items
      (λ k. c.in_ok-put.ensures.put k ∙ ap (λ (o : Option ℕ). cond (is_pair (0, 0) k) (Some 0) o) (c.in_ok-forget.ensures.none k));
  tidy = c.in_ok-put.ensures.tidy;
}

pub number-requires-clause-few : goal.number-requires-clause-few
number-requires-clause-few c =
    let k = c.loop-i.invariant.numbering.as_many in
    let few = c.loop-i.invariant.numbering.so_far.few in
    let t = c.loop-i-test.true in
    let most = c.requires.few in
    omega (arith, k, few, t, most)

pub loop-i-preserved : goal.loop-i-preserved
loop-i-preserved c = record {
  numbering = rw (c.in_ok-push.ensures.items, add-one)
      (numbering_next c.args.a.now c.args.b.now c.loop-i.i c.loop-i.count c.number.new.next _ _ c.loop-i.classes.items c.in_ok-number.number
      c.in_ok-number.ensures.number c.loop-i.invariant.numbering);
  tidy = c.in_ok-number.ensures.tidy;
}

pub returns : goal.returns
returns c =
    numbering_ends c.args.a.now c.args.b.now c.loop-i.i c.loop-i.count _ c.loop-i.classes.items (omega arith) c.requires.long c.loop-i.invariant.numbering
