use Rattle.std.proofs.Common.{◌≡◌, ℕ, List, sym, ap, ◌∙◌}
use Rattle.std.specs.Map.{lookup}
use Rattle.std.proofs.lemmas.List.Elements.{same_from_all_zip}
use Rattle.mir_substitution.specs.declared.forest.Node.{Node}
use Rattle.mir_substitution.specs.Index.{is_key}
use Rattle.mir_substitution.specs.Forest.{node_of}
use Rattle.mir_substitution.proofs.Grown.{are_ends-same, node_of-same}
use Rattle.mir_substitution.proofs.substitutions.Substitutions.copy.Goals as goal

pub invariant_of-result : goal.invariant_of-result
invariant_of-result c =
    let entries : c.in_ok-clone.field-0.entries ≡ c.self.inside.forest.entries = same_from_all_zip _ _ _ c.in_ok-clone.ensures.cases (λ x y r.
    (let first : y.0.0 ≡ x.0.0 = r.0.0 in let second : y.0.1 ≡ x.0.1 = r.0.1 in let node : y.1 ≡ x.1 = r.1 in λ i. ((first i, second i), node i))) in
    are_ends-same c.self.inside.entries.items c.in_ok-from_slice.field-0.items (node_of c.self.inside.forest) (node_of c.in_ok-clone.field-0)
    (sym (c.in_ok-from_slice.ensures.items ∙ c.as_slice.ensures.value))
    (node_of-same c.self.inside.forest c.in_ok-clone.field-0 (λ x. ap (λ (es : List ((ℕ × ℕ) × Node)). lookup (is_key x) es) entries)) c.self.invariant
