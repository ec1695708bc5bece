use Rattle.std.proofs.Common.{◌≡◌, ◌++◌, ◌∷◌, [], ℕ, List, OnOk, subst}
use Rattle.typed_unit.specs.Unit.{unit_by}
use Rattle.typed_unit.proofs.tree.push_unit.Goals as goal

pub returns : goal.returns
returns c =
    subst (λ (name : List ℕ). OnOk c.push_unit_by.result (c.push_unit_by.new.tree ≡ c.args.tree.now ++ unit_by name c.args.unit.now ∷ []))
    c.in_ok-producer.ensures c.push_unit_by.ensures
