use Rattle.typed_unit.proofs.References.{refers_within}
use Rattle.typed_unit.proofs.Trees.{made_tree}
use Rattle.typed_unit.proofs.tree.typed_tree.Goals as goal

pub returns-clause-tree : goal.returns-clause-tree
returns-clause-tree c =
    let placed = c.in_ok-place_types.ensures in
    made_tree c.args.t.now c.place_types.new.t c.args.unit.now placed.types placed.stands placed.sizes _ _ _ c.in_ok-tree.ensures placed.tree
    placed.unknown placed.table c.in_ok-push_rest.ensures

pub returns-clause-references : goal.returns-clause-references
returns-clause-references c =
    let placed = c.in_ok-place_types.ensures in
    refers_within c.args.t.now.types c.args.unit.now _
    (made_tree c.args.t.now c.place_types.new.t c.args.unit.now placed.types placed.stands placed.sizes _ _ _ c.in_ok-tree.ensures placed.tree
    placed.unknown placed.table c.in_ok-push_rest.ensures)
