use Rattle.std.proofs.Common.{◌≡◌, ◌++◌, ◌∷◌, []}
use Rattle.read_declarations.specs.Stack.{AreIds}
use Rattle.read_declarations.proofs.Ids.{ids_more, on_ok}
use Rattle.read_declarations.proofs.stack.judge.Goals as goal

pub returns-in_ok-is_new-in-Ok-clause-ids : goal.returns-in_ok-is_new-in-Ok-clause-ids
returns-in_ok-is_new-in-Ok-clause-ids c =
    let before = c.args.read.now.entries in
    let e = c.in-Ok.entry in
    on_ok c.push.result (c.push.new.self ≡ before ++ e ∷ []) (AreIds c.insert.new.self c.push.new.self)
    (λ longer. ids_more c.args.ids.now c.insert.new.self before c.push.new.self e c.number.result c.requires c.in_ok-is_new-in-Ok.ensures.updates
    c.number.ensures longer)
    c.push.ensures.ok
