use Rattle.std.proofs.Common.{◌≡◌, ◌+◌, ℕ, List, length, Bool, true, refl, sym, ap, ◌∙◌, subst, length-append}
use Rattle.std.specs.Prelude.{slice_index_or}
use Rattle.dataflow.proofs.Pushed.{at_push}
use Rattle.value_solver.proofs.solve.all_marked.Goals as goal

pub loop-preserved : goal.loop-preserved
loop-preserved c =
    let e = c.in_ok-push.ensures.items in (
      ap length e ∙ length-append c.loop.dirty.items _ ∙ ap (λ (z : ℕ). z + 1) c.loop.invariant.0,
      subst (λ (z : List Bool). (b : ℕ) → slice_index_or z b true ≡ true) (sym e)
          (λ b. at_push c.loop.dirty.items true true b (λ z. z ≡ true) (λ less. c.loop.invariant.1 b) (λ here. refl) (λ far. refl)),
    )
