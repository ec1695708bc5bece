use Rattle.read_line.proofs.Fronts.{no_field, next_field, last_field, no_more_fields}
use Rattle.read_line.proofs.attribute.all_fields.Goals as goal

pub returns-in_default : goal.returns-in_default
returns-in_default c = no_field 4 c.loop.counter c.loop.rest.now c.loop.fields _ c.loop-test.true c.in_default.ensures c.loop.invariant

pub returns-in-None : goal.returns-in-None
returns-in-None c =
    rw (last_field 4 c.loop.counter c.loop.rest.now c.loop.fields _ c.in-Some.more c.in-Some.behind.now c.loop-test.true c.in-Some.ensures
    c.in-None.ensures c.loop.invariant) c.closed.ensures

pub loop-preserved : goal.loop-preserved
loop-preserved c =
    next_field 4 c.loop.counter c.loop.rest.now c.loop.fields _ c.in-Some.more c.in-Some.behind.now c.in-Some-behind_comma.next.now c.loop-test.true
    c.in-Some.ensures c.in-Some-behind_comma.ensures c.loop.invariant

pub returns : goal.returns
returns c = no_more_fields 4 c.loop.counter c.loop.rest.now c.loop.fields _ c.loop-test.false c.loop.invariant
