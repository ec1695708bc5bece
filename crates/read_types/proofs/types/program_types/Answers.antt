use Rattle.std.proofs.Common.{◌≡◌, ℕ, List, length, ap, subst, sym, ◌∙◌, arith}
use Rattle.std.specs.List.{filter_map}
use Rattle.type_nodes.specs.declared.shape.Shape.{Shape}
use Rattle.read_types.specs.Indices.{Ascends}
use Rattle.read_types.specs.Shapes.{shape_at}
use Rattle.read_types.specs.Types.{is_type, type_nodes, types_of}
use Rattle.read_types.proofs.Listing.{ascending}
use Rattle.read_types.proofs.Independent.{as_long}
use Rattle.read_types.proofs.types.program_types.Goals as goal

pub new-nodes-requires-clause-ascends : goal.new-nodes-requires-clause-ascends
new-nodes-requires-clause-ascends c = subst Ascends (sym c.in_ok-nodes.ensures) (ascending c.args.m.now (is_type c.args.m.now))

pub returns-clause-long : goal.returns-clause-long
returns-clause-long c =
    let nodes : c.new-nodes.result ≡ type_nodes c.args.m.now = c.new-nodes.ensures ∙ c.in_ok-nodes.ensures in
    ap (λ (ts : List Shape). length ts) (c.in_ok-types.ensures ∙ ap (λ (ns : List ℕ). filter_map (shape_at c.args.m.now ns) ns) nodes)
    ∙ as_long c.args.m.now ∙ ap (λ (ns : List ℕ). length ns) (sym nodes)

pub returns-clause-few : goal.returns-clause-few
returns-clause-few c =
    let nodes : c.new-nodes.result ≡ type_nodes c.args.m.now = c.new-nodes.ensures ∙ c.in_ok-nodes.ensures in
    let long : length c.in_ok-types.types ≡ length c.in_ok-nodes.nodes =
    ap (λ (ts : List Shape). length ts) (c.in_ok-types.ensures ∙ ap (λ (ns : List ℕ). filter_map (shape_at c.args.m.now ns) ns) nodes)
    ∙ as_long c.args.m.now ∙ ap (λ (ns : List ℕ). length ns) (sym c.in_ok-nodes.ensures) in
    omega (arith, long, c.len.ensures, c.if-len-ge4294967296.false)
