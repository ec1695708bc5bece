use Rattle.std.proofs.Common.{◌≡◌, ◌++◌, ◌∷◌, [], ℕ, List, OnOk, subst}
use Rattle.type_entries.specs.Entries.{base_item}
use Rattle.type_entries.proofs.all_types.push_unknown.Goals as goal

pub returns : goal.returns
returns c =
    subst (λ (name : List ℕ). OnOk c.push_base.result (c.push_base.new.tree ≡ c.args.tree.now ++ base_item name 8 7 ∷ [])) c.in_ok-name.ensures
    c.push_base.ensures
