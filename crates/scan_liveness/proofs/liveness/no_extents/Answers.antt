use Rattle.std.proofs.Common.{◌≡◌, ℕ, zero, suc, ◌+◌, List, [], ◌∷◌, ◌++◌, length, slice_index_or, Option, None, refl, sym, ap, ◌∙◌, subst, length-append}
use Rattle.scan_liveness.specs.declared.extents.Extent.{Extent}
use Rattle.scan_liveness.proofs.liveness.no_extents.Goals as goal

one_more : (os : List (Option Extent)) → ((k : ℕ) → slice_index_or os k None ≡ None) → (k : ℕ) → slice_index_or (os ++ None ∷ []) k None ≡ None
one_more [] none zero = refl
one_more [] none (suc k) = refl
one_more (o ∷ os) none zero = none 0
one_more (o ∷ os) none (suc k) = one_more os (λ j. none (suc j)) k

pub loop-init : goal.loop-init
loop-init c = record {
  long = ap length c.in_ok-extents.ensures.items;
  none = λ k. ap (λ (os : List (Option Extent)). slice_index_or os k None) c.in_ok-extents.ensures.items;
}

pub loop-preserved : goal.loop-preserved
loop-preserved c =
    let e = c.in_ok-push.ensures.items in
    record {
      long = ap length e ∙ length-append c.loop.extents.items (None ∷ []) ∙ ap (λ (n : ℕ). n + 1) c.loop.invariant.long;
      none = λ k. ap (λ (os : List (Option Extent)). slice_index_or os k None) e ∙ one_more c.loop.extents.items c.loop.invariant.none k;
    }

pub returns-clause-none : goal.returns-clause-none
returns-clause-none c = record { count = refl; masked = λ r lt. refl; wide = λ k lt. c.loop.invariant.none k }
