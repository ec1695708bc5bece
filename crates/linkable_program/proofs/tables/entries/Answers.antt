use Rattle.std.proofs.Common.{List, subst}
use Rattle.type_nodes.specs.declared.shape.Shape.{Shape}
use Rattle.typed_unit.specs.declared.content.TypedUnit.{TypedUnit}
use Rattle.typed_unit.specs.Unit.{IsTypedTree}
use Rattle.read_types.specs.Types.{types_of}
use Rattle.linkable_program.specs.Program.{IsTreeOf}
use Rattle.linkable_program.proofs.tables.entries.Goals as goal

pub returns-clause-tree : goal.returns-clause-tree
returns-clause-tree c =
    let tree = c.in_ok-tree.tree in
    subst (λ (u : TypedUnit). IsTypedTree (types_of c.args.debug.now) u tree) c.in_ok-unit.ensures.content
    (subst (λ (ts : List Shape). IsTypedTree ts c.in_ok-unit.unit.content tree) c.in_ok-unit.ensures.types c.in_ok-tree.ensures.tree)

pub returns-then-large-clause-large : goal.returns-then-large-clause-large
returns-then-large-clause-large c = λ _.
    let tree = c.in_ok-tree.tree in
    let is : IsTreeOf c.args.debug.now c.args.meta.now c.args.text_len c.args.with_frame c.args.functions.now tree =
    subst (λ (u : TypedUnit). IsTypedTree (types_of c.args.debug.now) u tree) c.in_ok-unit.ensures.content
    (subst (λ (ts : List Shape). IsTypedTree ts c.in_ok-unit.unit.content tree) c.in_ok-unit.ensures.types c.in_ok-tree.ensures.tree) in
    record { tree = tree; is = is; large = c.in_ok-large.ensures.large c.if-large.true }
