-- Sweeps and the fixpoint, of any analysis.
use Rattle.std.proofs.Common.{◌≡◌, ℕ, ◌+◌, ◌<◌, ◌≤◌, List, length, Bool, true, false, cond, refl, sym, ◌∙◌, subst, arith, get_or, ltb-true, ltb-false}
use Rattle.std.specs.Prelude.{nat_lt}
use Rattle.std.proofs.lemmas.Bool.{false≢true}
use Rattle.std.proofs.lemmas.List.{get_or_default}
use Rattle.std.specs.List.Sorted.{IsPermutation}
use Rattle.std.proofs.lemmas.List.Sorted.{All-permutation, Contains-permutation}
use Rattle.dataflow.specs.Graph.{IsOrder}
use Rattle.dataflow.specs.Fixpoint.{Visited, SweepStep, Fixpoint}

-- an order in another order
pub order_permuted : (blocks : ℕ) (old new : List ℕ) → IsPermutation old new → IsOrder blocks old → IsOrder blocks new
order_permuted blocks old new p o = record {
  within = All-permutation (λ (b : ℕ). b < blocks) old new p o.within;
  all = λ b less. Contains-permutation old new b p (o.all b less);
}

module _ {S : Type 0} (IsValid : S → Type 0) (IsClosed : S → ℕ → Type 0) (height : S → ℕ) where
  -- a sweep past the first k blocks of an order
  pub record Sweeping (old new : S) (order : List ℕ) (k : ℕ) (changed : Bool) : Type 0 where
    pub valid : IsValid new
    pub level : height new ≤ height old
    pub lower : changed ≡ true → height new < height old
    pub closed : changed ≡ false → (j : ℕ) → j < k → IsClosed new (get_or order j 0)

  pub sweep_begins : (old : S) (order : List ℕ) → IsValid old → Sweeping old old order 0 false
  sweep_begins old order valid = record {
    valid = valid;
    level = omega arith;
    lower = λ e. absurd (false≢true e);
    closed = λ e j less. absurd (omega arith);
  }

  pub sweep_more : (old now new : S) (order : List ℕ) (k : ℕ) (changed visited : Bool) → Sweeping old now order k changed →
      Visited IsValid IsClosed height now new (get_or order k 0) visited → Sweeping old new order (k + 1) (cond visited true changed)
  sweep_more old now new order k changed true s v = record {
    valid = v.valid;
    level = omega (arith, s.level, v.level);
    lower = λ e. omega (arith, s.level, v.lower refl);
    closed = λ e. absurd (false≢true (sym e));
  }
  sweep_more old now new order k changed false s v = record {
    valid = v.valid;
    level = omega (arith, s.level, v.level);
    lower = λ e. omega (arith, s.lower e, v.level);
    closed = λ e j less. by_case e j less (nat_lt j k) refl;
  } where
    by_case : changed ≡ false → (j : ℕ) → j < k + 1 → (z : Bool) → nat_lt j k ≡ z → IsClosed new (get_or order j 0)
    by_case e j less true h = v.kept refl (get_or order j 0) (s.closed e j (ltb-true j k h))
    by_case e j less false h =
        let same : k ≡ j = omega (arith, ltb-false j k h) in
        subst (λ (i : ℕ). IsClosed new (get_or order i 0)) same (v.closed refl)

  pub sweep_ends : (old new : S) (order : List ℕ) (k : ℕ) (changed : Bool) → length order ≤ k → Sweeping old new order k changed →
      SweepStep IsValid IsClosed height old new order changed
  sweep_ends old new order k changed far s = record {
    valid = s.valid;
    level = s.level;
    lower = s.lower;
    closed = λ e b (j, less, is). subst (IsClosed new) (get_or_default order j 0 b less ∙ is) (s.closed e j (omega arith));
  }

  -- so many sweeps were begun
  pub record Solving (old new : S) (sweeps : ℕ) : Type 0 where
    pub valid : IsValid new
    pub few : sweeps + height new ≤ height old + 1

  pub solving_begins : (old : S) → IsValid old → Solving old old 1
  solving_begins old valid = record { valid = valid; few = omega arith }

  pub solving_more : (old now new : S) (order : List ℕ) (sweeps more : ℕ) (changed : Bool) → changed ≡ true → more ≤ sweeps + 1 → Solving old now sweeps →
      SweepStep IsValid IsClosed height now new order changed → Solving old new more
  solving_more old now new order sweeps more changed e le s w = record { valid = w.valid; few = omega (arith, le, s.few, w.lower e) }

  pub solving_ends : (blocks : ℕ) (old now new : S) (order : List ℕ) (sweeps : ℕ) (changed : Bool) → changed ≡ false → IsOrder blocks order →
      Solving old now sweeps → SweepStep IsValid IsClosed height now new order changed → Fixpoint IsValid IsClosed height blocks old new sweeps
  solving_ends blocks old now new order sweeps changed e all s w = record {
    valid = w.valid;
    closed = λ b less. w.closed e b (all.all b less);
    few = omega (arith, s.few, w.level);
  }
