use Rattle.std.proofs.Common.{◌≡◌, ◌+◌, ◌<◌, ℕ, List, [], ◌∷◌, ◌++◌, length, sym, ap, ◌∙◌, subst, arith, length-append}
use Rattle.std.specs.Prelude.{slice_index_or}
use Rattle.dataflow.proofs.Pushed.{at_push}
use Rattle.dataflow.proofs.order.in_text_order.Goals as goal

next : (xs : List ℕ) (n : ℕ) → length xs ≡ n → ((k d : ℕ) → k < n → slice_index_or xs k d ≡ k) → (k d : ℕ) → k < n + 1 → slice_index_or (xs ++ n ∷ []) k d ≡ k
next xs n long h k d less =
    at_push xs n d k (λ z. z ≡ k) (λ low. h k d (omega (arith, long))) (λ here. omega (arith, here, long)) (λ far. absurd (omega (arith, long)))

pub loop-block-preserved : goal.loop-block-preserved
loop-block-preserved c =
    let e = c.in_ok-push.ensures.items in (
      ap length e ∙ length-append c.loop-block.order.items _ ∙ ap (λ (z : ℕ). z + 1) c.loop-block.invariant.0,
      subst (λ (z : List ℕ). (k d : ℕ) → k < c.loop-block.block + 1 → slice_index_or z k d ≡ k) (sym e)
          (next c.loop-block.order.items c.loop-block.block c.loop-block.invariant.0 c.loop-block.invariant.1),
    )

pub returns-clause-within : goal.returns-clause-within
returns-clause-within c = λ k d less.
    let small : k < c.loop-block.block = omega (arith, c.loop-block.invariant.0) in
    omega (arith, c.loop-block.invariant.1 k d small, small)

pub returns-clause-all : goal.returns-clause-all
returns-clause-all c = λ b less.
    let small : b < c.loop-block.block = omega (arith, less) in
    (b, omega (arith, small, c.loop-block.invariant.0), c.loop-block.invariant.1 b b small)
