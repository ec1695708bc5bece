use Rattle.std.proofs.Common.{◌≡◌, ℕ, List, Ok, Err, ap, subst, sym, ◌∙◌}
use Rattle.read_types.specs.Indices.{Ascends, index_in}
use Rattle.read_types.proofs.Search.{found}
use Rattle.read_types.proofs.indices.TypeNodes.index.Goals as goal

pub returns-in-Ok : goal.returns-in-Ok
returns-in-Ok c =
    let ns = c.as_slice-nodes.result.now in
    let up : Ascends ns = subst Ascends (sym c.as_slice-nodes.ensures) c.self.invariant.0 in
    found ns c.args.node up (Ok c.in-Ok.index) c.in-Ok.ensures.position
    ∙ ap (λ (xs : List ℕ). index_in xs c.args.node) (c.as_slice-nodes.ensures ∙ c.self.view_is)

pub returns-in-Err : goal.returns-in-Err
returns-in-Err c =
    let ns = c.as_slice-nodes.result.now in
    let up : Ascends ns = subst Ascends (sym c.as_slice-nodes.ensures) c.self.invariant.0 in
    found ns c.args.node up (Err c.in-Err.field-0) c.in-Err.ensures.position
    ∙ ap (λ (xs : List ℕ). index_in xs c.args.node) (c.as_slice-nodes.ensures ∙ c.self.view_is)
