use Rattle.std.proofs.Common.{◌≡◌, length, rules}
use Rattle.type_entries.proofs.Places.{so_far_more, all_items, all_starts}
use Rattle.type_entries.proofs.all_types.push_all.Goals as goal

pub loop-shape-preserved : goal.loop-shape-preserved
loop-shape-preserved c =
    let place : c.len-index.result ≡ length c.loop-shape.starts.items = first_of (cc, search rules) in
    so_far_more c.args.t.now c.args.types.now _ c.loop-shape.tree c.push_told.new.tree c.loop-shape.starts.items c.push.new.self.items
    c.loop-shape.shape-index c.len.result c.len-index.result c.shape-item.result c.loop-shape-test.true c.shape-item.is c.len.ensures place
    c.in_ok-push.ensures.items c.in_ok-push_told.ensures c.loop-shape.invariant

pub returns-clause-items : goal.returns-clause-items
returns-clause-items c =
    all_items c.args.t.now c.args.types.now _ c.loop-shape.tree c.loop-shape.starts.items c.loop-shape.shape-index c.loop-shape-test.false
    c.loop-shape.invariant

pub returns-clause-starts : goal.returns-clause-starts
returns-clause-starts c =
    all_starts c.args.t.now c.args.types.now _ c.loop-shape.tree c.loop-shape.starts.items c.loop-shape.shape-index c.loop-shape-test.false
    c.loop-shape.invariant
