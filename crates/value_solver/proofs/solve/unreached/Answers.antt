use Rattle.std.proofs.Common.{◌≡◌, ◌+◌, ℕ, zero, suc, List, [], ◌∷◌, ◌++◌, length, false, Some, None, sym, ap, ◌∙◌, subst, length-append}
use Rattle.std.specs.Prelude.{slice_get}
use Rattle.value_solver.specs.declared.entry.BlockEntry.{BlockEntry}
use Rattle.value_solver.proofs.solve.unreached.Goals as goal

abbrev Unknown : BlockEntry → Type 0
Unknown e = e ≡ record { reached = false; classes = []; given = [] }

more : (xs : List BlockEntry) (y : BlockEntry) → Unknown y → ((b : ℕ) (e : BlockEntry) → slice_get xs b ≡ Some e → Unknown e) →
    (b : ℕ) (e : BlockEntry) → slice_get (xs ++ y ∷ []) b ≡ Some e → Unknown e
more [] y is h zero e at = let same : y ≡ e = cc in sym same ∙ is
more [] y is h (suc b) e at = absurd (no_more e at) where
  no_more : (e : BlockEntry) → None ≡ Some e → ⊥
  no_more e at = cc
more (x ∷ xs) y is h zero e at = h zero e at
more (x ∷ xs) y is h (suc b) e at = more xs y is (λ k. h (suc k)) b e at

pub loop-preserved : goal.loop-preserved
loop-preserved c =
    let e = c.in_ok-push.ensures.items in (
      ap length e ∙ length-append c.loop.entries.items _ ∙ ap (λ (z : ℕ). z + 1) c.loop.invariant.0,
      subst (λ (z : List BlockEntry). (b : ℕ) (x : BlockEntry) → slice_get z b ≡ Some x → Unknown x) (sym e)
          (more c.loop.entries.items _ (λ z. record { reached = false; classes = c.new.ensures z; given = c.new-in-loop.ensures z }) c.loop.invariant.1),
    )
