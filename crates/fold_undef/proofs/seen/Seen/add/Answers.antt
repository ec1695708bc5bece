use Rattle.std.proofs.Common.{◌||◌, true, cond, not, sym, ap, ◌∙◌}
use Rattle.std.specs.HashSet.{contains}
use Rattle.fold_undef.specs.declared.kill.Kill.{Kill}
use Rattle.fold_undef.specs.Kill.{is_same_kill}
use Rattle.fold_undef.specs.steps.Seen.{Key, is_key, is_seen}
use Rattle.fold_undef.proofs.Telling.{part_seen}
use Rattle.fold_undef.proofs.seen.Seen.add.Goals as goal

pub returns-in_ok-new-in-Part-clause-new : goal.returns-in_ok-new-in-Part-clause-new
returns-in_ok-new-in-Part-clause-new c =
    let parts = c.args.self.now.parts in
    c.in_ok-new-in-Part.ensures.added ∙ ap (λ (q : Key). not (contains is_key parts q)) c.key_of.ensures ∙
    ap (λ (k : Kill). not (is_seen parts c.args.self.now.numbers k)) (sym c.in-Part.is)

pub returns-in_ok-new-in-Part-clause-seen : goal.returns-in_ok-new-in-Part-clause-seen
returns-in_ok-new-in-Part-clause-seen c = λ k.
    let parts = c.args.self.now.parts in
    part_seen parts c.insert.new.self c.args.self.now.numbers c.in-Part.variable c.in-Part.field-1
    (λ q. c.in_ok-new-in-Part.ensures.updates.0 q ∙ ap (λ (z : Key). cond (is_key z q) true (contains is_key parts q)) c.key_of.ensures) k ∙
    ap (λ (z : Kill). is_same_kill z k || is_seen parts c.args.self.now.numbers k) (sym c.in-Part.is)
