use Rattle.std.proofs.Common.{length}
use Rattle.read_line.proofs.Fronts.{no_definition, next_definition, last_definition, no_more_definitions}
use Rattle.read_line.proofs.item.some_definitions.Goals as goal

pub returns-in_default : goal.returns-in_default
returns-in_default c =
    no_definition (length c.args.lexemes.now) c.loop.counter c.loop.rest.now c.loop.found _ c.loop-test.true c.in_default.ensures c.loop.invariant

pub returns-in-None : goal.returns-in-None
returns-in-None c =
    rw (last_definition (length c.args.lexemes.now) c.loop.counter c.loop.rest.now c.loop.found _ c.in-Some.definition c.in-Some.behind.now
    c.push.new.self c.loop-test.true c.in-Some.ensures c.in-None.ensures c.in_ok-push.ensures.ok c.loop.invariant) c.with_equals.ensures

pub loop-preserved : goal.loop-preserved
loop-preserved c =
    next_definition (length c.args.lexemes.now) c.loop.counter c.loop.rest.now c.loop.found _ c.in-Some.definition c.in-Some.behind.now
    c.in-Some-behind_comma.next.now c.push.new.self c.loop-test.true c.in-Some.ensures c.in-Some-behind_comma.ensures c.in_ok-push.ensures.ok
    c.loop.invariant

pub returns : goal.returns
returns c = no_more_definitions (length c.args.lexemes.now) c.loop.counter c.loop.rest.now c.loop.found _ c.loop-test.false c.loop.invariant
