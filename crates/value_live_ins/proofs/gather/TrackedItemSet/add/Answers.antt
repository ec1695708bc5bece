use Rattle.std.proofs.Common.{refl, sym, ap, ◌∙◌}
use Rattle.std.specs.Prelude.{cond, true, false}
use Rattle.std.specs.HashSet.{contains}
use Rattle.value_live_ins.specs.Keys.{Key, is_key}
use Rattle.value_live_ins.proofs.Gathering.{add_new, not_is}
use Rattle.value_live_ins.proofs.gather.TrackedItemSet.add.Goals as goal

pub returns-then-not-branch-clause-added : goal.returns-then-not-branch-clause-added
returns-then-not-branch-clause-added c = (
  refl,
  (c.requires.gathered.seen c.args.thing).0
      (ap (contains is_key c.args.self.now.seen) (sym c.key_of.ensures)
      ∙ not_is (contains is_key c.args.self.now.seen c.key_of.result) false (sym c.in_ok-insert.ensures.added ∙ c.if-not-branch.true)),
)

pub returns-clause-gathered : goal.returns-clause-gathered
returns-clause-gathered c =
    add_new c.args.self.now (record { things = c.push.new.things; seen = c.insert.new.self }) c.args.thing c.requires.gathered c.requires.may
    (ap (contains is_key c.args.self.now.seen) (sym c.key_of.ensures)
    ∙ not_is (contains is_key c.args.self.now.seen c.key_of.result) true (sym c.in_ok-insert.ensures.added ∙ c.if-not-branch.false))
    c.in_ok-push.ensures
    (λ q. c.in_ok-insert.ensures.updates.0 q ∙ ap (λ (k : Key). cond (is_key k q) true (contains is_key c.args.self.now.seen q)) c.key_of.ensures)
