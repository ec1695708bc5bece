use Rattle.std.proofs.Common.{List, subst}
use Rattle.type_nodes.specs.declared.shape.Shape.{Shape}
use Rattle.typed_unit.specs.declared.content.TypedUnit.{TypedUnit}
use Rattle.read_types.specs.Types.{types_of}
use Rattle.variable_sizes.specs.Sizes.{AreListSizes}
use Rattle.linkable_program.proofs.sizes.sizes.Goals as goal

pub returns : goal.returns
returns c =
    let sizes = c.in_ok-sizes.sizes.items in
    subst (λ (u : TypedUnit). AreListSizes (types_of c.args.debug.now) c.args.count u sizes) c.in_ok-unit.ensures.content
    (subst (λ (ts : List Shape). AreListSizes ts c.args.count c.in_ok-unit.unit.content sizes) c.in_ok-unit.ensures.types c.in_ok-sizes.ensures)
