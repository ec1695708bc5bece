use Rattle.std.proofs.Common.{◌≡◌, ℕ, [], Some, None, nat_eq, arith, sym, ap, ◌∙◌, subst, List, ◌++◌}
use Rattle.std.specs.HashMap.{get}
use Rattle.std.specs.HashSet.{contains}
use Rattle.fold_targets.specs.Ends.{end_in}
use Rattle.fold_rule.specs.steps.Walked.{IsWalk, fresh}
use Rattle.fold_rule.proofs.Walks.{begins, goes_on, goes_nowhere, ways_reached, all_seen, both_visited, none_seen, last_among}
use Rattle.fold_rule.proofs.reached.reached.Goals as goal

pub loop-n-init : goal.loop-n-init
loop-n-init c = begins c.args.blocks.now (end_in c.args.ends.now) (get nat_eq c.in_ok-ways.ways) c.first_id.result (contains nat_eq c.new-seen.result)
    (contains nat_eq c.visit.new.seen) c.visit.new.waiting.items c.first_id.ensures (none_seen c.new-seen.result.keys c.new-seen.ensures.empty)
    c.in_ok-visit.ensures.seen (c.in_ok-visit.ensures.waiting ∙ ap (λ (z : List ℕ). z ++ fresh (contains nat_eq c.new-seen.result) c.first_id.result)
    c.new-waiting.ensures.items)

pub loop-n-smaller-in-Continue-branch-4 : goal.loop-n-smaller-in-Continue-branch-4
loop-n-smaller-in-Continue-branch-4 c =
    let at : get nat_eq c.in_ok-ways.ways c.in-Some.n ≡ Some c.in-Some-get.to.now = grind arith in
    both_visited (contains nat_eq c.loop-n.seen) (contains nat_eq c.visit-in-Some-get.new.seen)
    (contains nat_eq c.visit-in-Some-get-2.new.seen) c.in_ok-ways.ways.entries c.loop-n.waiting.items c.pop.new.self.items
    c.visit-in-Some-get.new.waiting.items c.visit-in-Some-get-2.new.waiting.items c.in-Some.n c.in-Some-get.to.now c.in-Some.ensures.items at
    c.in_ok-visit-2.ensures.seen c.in_ok-visit-2.ensures.waiting c.in_ok-visit-3.ensures.seen c.in_ok-visit-3.ensures.waiting

pub loop-n-preserved-in-Continue-branch-4 : goal.loop-n-preserved-in-Continue-branch-4
loop-n-preserved-in-Continue-branch-4 c =
    let blocks = c.args.blocks.now in
    let end : ℕ → ℕ = end_in c.args.ends.now in
    let at : get nat_eq c.in_ok-ways.ways c.in-Some.n ≡ Some c.in-Some-get.to.now = grind arith in
    let r = c.loop-n.invariant.right c.in-Some.n (c.loop-n.invariant.known c.in-Some.n
    (last_among c.loop-n.waiting.items c.pop.new.self.items c.in-Some.n c.in-Some.ensures.items)) in
    goes_on blocks end (get nat_eq c.in_ok-ways.ways) (contains nat_eq c.loop-n.seen) (contains nat_eq c.visit-in-Some-get.new.seen)
    (contains nat_eq c.visit-in-Some-get-2.new.seen) c.loop-n.waiting.items c.pop.new.self.items
    c.visit-in-Some-get.new.waiting.items c.visit-in-Some-get-2.new.waiting.items c.in-Some.n c.in-Some-get.to.now c.loop-n.invariant c.in-Some.ensures.items at
    (ways_reached blocks end c.in-Some.n c.in-Some-get.to.now r (sym (c.in_ok-ways.ensures c.in-Some.n) ∙ at))
    c.in_ok-visit-2.ensures.seen c.in_ok-visit-2.ensures.waiting c.in_ok-visit-3.ensures.seen c.in_ok-visit-3.ensures.waiting

pub loop-n-preserved : goal.loop-n-preserved
loop-n-preserved c =
    let out : get nat_eq c.in_ok-ways.ways c.in-Some.n ≡ None = grind arith in
    goes_nowhere c.args.blocks.now (end_in c.args.ends.now) (get nat_eq c.in_ok-ways.ways) (contains nat_eq c.loop-n.seen) c.loop-n.waiting.items
    c.pop.new.self.items
    c.in-Some.n c.loop-n.invariant c.in-Some.ensures.items out

pub returns : goal.returns
returns c = λ n. (
  λ h. c.loop-n.invariant.right n h,
  λ r. all_seen c.args.blocks.now (end_in c.args.ends.now) (get nat_eq c.in_ok-ways.ways)
      (contains nat_eq c.loop-n.seen)
      (subst (IsWalk c.args.blocks.now (end_in c.args.ends.now) (get nat_eq c.in_ok-ways.ways) (contains nat_eq c.loop-n.seen)) none c.loop-n.invariant)
      c.in_ok-ways.ensures r,
) where
  none : c.loop-n.waiting.items ≡ []
  none = grind arith
