use Rattle.std.proofs.Common.{ℕ, Option, Some, cond, length, ap, ◌∙◌, add-one, arith}
use Rattle.value_solver.specs.PairNumbers.{is_pair}
use Rattle.value_solver.proofs.Pairing.{numbering_begins}
use Rattle.value_solver.proofs.Renumbering.{zeros, renumbered_next, renumbered_ends}
use Rattle.value_solver.proofs.renumber.renumbered.Goals as goal

pub loop-i-init : goal.loop-i-init
loop-i-init c =
    numbering_begins (zeros (length c.args.classes.now)) c.args.classes.now _ c.in_ok-renumbered.renumbered.items c.in_ok-renumbered.ensures.items
    (λ k. c.in_ok-put.ensures k ∙ ap (λ (o : Option ℕ). cond (is_pair (0, 0) k) (Some 0) o) (c.in_ok-forget.ensures k))

pub number-requires : goal.number-requires
number-requires c =
    let many = c.loop-i.invariant.as_many in
    let few = c.loop-i.invariant.so_far.few in
    let test = c.loop-i-test.true in
    let most = c.requires in
    omega (arith, many, few, test, most)

pub loop-i-preserved : goal.loop-i-preserved
loop-i-preserved c =
    rw (c.in_ok-push.ensures.items, add-one) (renumbered_next c.args.classes.now c.loop-i.i c.loop-i.count c.number.new.next _ _ c.loop-i.renumbered.items
    c.in_ok-number.number c.in_ok-number.ensures c.loop-i.invariant)

pub returns : goal.returns
returns c = renumbered_ends c.args.classes.now c.loop-i.i c.loop-i.count _ c.loop-i.renumbered.items (omega arith) c.loop-i.invariant
