use Rattle.std.proofs.Common.{ap, ◌∙◌}
use Rattle.std.specs.Prelude.{Some, cond}
use Rattle.std.specs.HashMap.{get}
use Rattle.mir_substitution.specs.Index.{is_key}
use Rattle.sem_mir.specs.Step.{defined}
use Rattle.value_tracker.specs.LocationTracker.{operand_class}
use Rattle.value_tracker.proofs.Giving.{given_more, given_all}
use Rattle.value_tracker.proofs.location_tracker.LocationTracker.give.Goals as goal

pub loop-o-preserved : goal.loop-o-preserved
loop-o-preserved c =
    let inv = c.loop-o.invariant in
    let give = c.in_ok-give_operand.ensures in
    record {
      pairs = given_more c.args.call c.args.k c.args.operands.now c.args.self.now.places.items
          (get is_key c.args.self.now.pairs) c.loop-o.o c.index-operands-o.result
          (get is_key c.loop-o.self.pairs) (get is_key c.give_operand.new.self.pairs) c.loop-o-test.true c.index-operands-o.is inv.pairs
          (λ q. give.pairs q ∙ ap (λ p. cond (is_key (c.args.k, c.loop-o.o) q) (operand_class p.items (defined c.args.call (Some c.index-operands-o.result))
          (get is_key c.loop-o.self.pairs q)) (get is_key c.loop-o.self.pairs q)) inv.places);
      places = give.places ∙ inv.places;
      parts = give.parts ∙ inv.parts;
      next = give.next ∙ inv.next;
    }

pub returns-clause-pairs : goal.returns-clause-pairs
returns-clause-pairs c = given_all c.args.call c.args.k c.args.operands.now c.args.self.now.places.items (get is_key c.args.self.now.pairs) c.loop-o.o
    (get is_key c.loop-o.self.pairs) c.loop-o-test.false c.loop-o.invariant.pairs
