use Rattle.std.proofs.Common.{◌∷◌, ◌++◌, [], ◌+◌, ℕ, ap, ◌∙◌}
use Rattle.std.specs.Prelude.{Some, cond}
use Rattle.std.specs.HashMap.{get}
use Rattle.value_tracker.specs.Chains.{Key, is_key}
use Rattle.value_tracker.proofs.Chaining.{chained_more}
use Rattle.value_tracker.proofs.part_list.Chains.add.Goals as goal

pub returns : goal.returns
returns c = λ parts at are.
    let old = c.args.self.now in
    chained_more parts c.args.i c.args.part.now at old.ends c.insert.new.self old.before.items c.push.new.self.items
    (c.in_ok-push.ensures.items ∙ ap (λ (n : ℕ). old.before.items ++ n ∷ []) c.end_of-end.ensures)
    (λ q. c.in_ok-insert.ensures.updates.0 q ∙ ap (λ (k : Key). cond (is_key k q) (Some (c.args.i + 1)) (get is_key old.ends q)) c.key_of.ensures)
    are
