use Rattle.std.proofs.Common.{List, subst}
use Rattle.std.specs.Prelude.{IfOk}
use Rattle.type_nodes.specs.declared.shape.Shape.{Shape}
use Rattle.typed_unit.specs.Unit.{IsTypedTree}
use Rattle.typed_unit.proofs.tree.tree_of.Goals as goal

pub returns-clause-tree : goal.returns-clause-tree
returns-clause-tree c =
    subst (λ (shapes : List Shape). IfOk c.typed_tree.result (IsTypedTree shapes c.args.unit.now)) c.in_ok-table.ensures.types c.typed_tree.ensures.tree
