use Rattle.std.proofs.Common.{◌≡◌, [], drop}
use Rattle.std.proofs.lemmas.List.{drop_all}
use Rattle.scope_numbers.proofs.Turns.{number_turn, number_all}
use Rattle.scope_numbers.proofs.numbers.NumberedLists.number.Goals as goal

pub loop-item-preserved : goal.loop-item-preserved
loop-item-preserved c =
    number_turn c.args.function c.args.scopes.now c.args.items.now _ _ _ _ _ _ _ _ c.loop-item.item-index c.item-item.result
    c.in_ok-numbered.numbered c.loop-item.invariant c.loop-item-test.true c.item-item.is c.in_ok-numbered.ensures.item c.in_ok-push.ensures.ok
    c.in_ok-numbered.ensures.lists c.in_ok-numbered.ensures.ranges

pub returns : goal.returns
returns c =
    let items = c.args.items.now in
    let none : drop c.loop-item.item-index items ≡ [] = drop_all c.loop-item.item-index items c.loop-item-test.false in
    let all = number_all c.args.function c.args.scopes.now items (drop c.loop-item.item-index items) _ _ _ _ _ c.loop-item.invariant none in
    record { items = all.0; lists = all.1; ranges = all.2 }
