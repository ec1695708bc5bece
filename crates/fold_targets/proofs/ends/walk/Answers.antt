use Rattle.std.proofs.Common.{nat_eq, sym}
use Rattle.std.specs.Option.{is_some}
use Rattle.std.specs.HashSet.{contains}
use Rattle.fold_targets.specs.Ends.{told}
use Rattle.fold_targets.proofs.Ways.{goes_from, fewer_left, chain_push, walked_more}
use Rattle.fold_targets.proofs.ends.walk.Goals as goal

pub loop-n-smaller : goal.loop-n-smaller
loop-n-smaller c =
    let k = goes_from (is_some (told c.args.ends.now c.loop-n.at)) (contains nat_eq c.loop-n.passed c.loop-n.at) (told c.args.leads.now c.loop-n.at) c.in-Some.n
    (sym c.in-Some.ensures) in
    fewer_left (contains nat_eq c.loop-n.passed) (contains nat_eq c.insert.new.self) c.args.leads.now.entries c.loop-n.at c.in-Some.n k.1 k.0
    c.in_ok-insert.ensures.updates.0

pub loop-n-preserved : goal.loop-n-preserved
loop-n-preserved c =
    let k = goes_from (is_some (told c.args.ends.now c.loop-n.at)) (contains nat_eq c.loop-n.passed c.loop-n.at) (told c.args.leads.now c.loop-n.at) c.in-Some.n
    (sym c.in-Some.ensures) in
    record {
      chain = rw c.in_ok-push.ensures.items (chain_push (told c.args.leads.now) c.args.from c.loop-n.way.items c.loop-n.at c.in-Some.n
          c.loop-n.invariant.chain k.1);
      passed = rw c.in_ok-push.ensures.items (walked_more (contains nat_eq c.loop-n.passed) (contains nat_eq c.insert.new.self) c.loop-n.way.items c.loop-n.at
          c.loop-n.invariant.passed c.in_ok-insert.ensures.updates.0);
    }
