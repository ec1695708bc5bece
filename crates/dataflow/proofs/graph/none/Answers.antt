use Rattle.std.proofs.Common.{◌≡◌, ◌+◌, ℕ, List, [], ◌∷◌, ◌++◌, length, sym, ap, ◌∙◌, subst, length-append}
use Rattle.std.specs.Prelude.{Contains}
use Rattle.dataflow.specs.Graph.{ways_at}
use Rattle.dataflow.proofs.Preds.{none_in}
use Rattle.dataflow.proofs.Pushed.{at_push}
use Rattle.dataflow.proofs.graph.none.Goals as goal

more : (preds : List (List ℕ)) (xs : List ℕ) → xs ≡ [] → ((c q : ℕ) → Contains (ways_at preds c) q → ⊥) → (c q : ℕ) →
    Contains (ways_at (preds ++ xs ∷ []) c) q → ⊥
more preds xs empty h c q =
    at_push preds xs [] c (λ z. Contains z q → ⊥) (λ less. h c q) (λ here. subst (λ (z : List ℕ). Contains z q → ⊥) (sym empty) (none_in q)) (λ far. none_in q)

pub loop-preserved : goal.loop-preserved
loop-preserved c =
    let e = c.in_ok-push.ensures.items in (
      ap length e ∙ length-append c.loop.preds.items _ ∙ ap (λ (z : ℕ). z + 1) c.loop.invariant.0,
      subst (λ (z : List (List ℕ)). (d q : ℕ) → Contains (ways_at z d) q → ⊥) (sym e) (more c.loop.preds.items _ c.new.ensures c.loop.invariant.1),
    )
