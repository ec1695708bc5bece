-- A walk asks of physical registers alone when they are free and where they are clear.
use Rattle.std.proofs.Common.{◌≡◌, ℕ, suc, ◌<◌, List, [], ◌∷◌, Contains, Option, Some, None, Bool, cond, ◌&&◌, nat_eq, nat_le, refl, ap, ◌∙◌, arith}
use Rattle.scan_intervals.specs.declared.interval.LiveInterval.{LiveInterval}
use Rattle.scan_allocation.specs.Walk.{find_in, is_open, free_after, walk}

-- the same is found by tests that agree on the list
find_same : (p q : ℕ → Bool) (rs : List ℕ) → ((r : ℕ) → Contains rs r → p r ≡ q r) → find_in p rs ≡ find_in q rs
find_same p q [] same = refl
find_same p q (r ∷ rs) same =
    let here = same r (0, omega arith, refl) in
    let more = find_same p q rs (λ s k. same s (suc k.0, (let lt = k.1 in omega (arith, lt)), k.2)) in
    λ t. cond (here t) (Some r) (more t)

module _ (order : List ℕ) (small : (r : ℕ) → Contains order r → r < 32) (clear clear' : LiveInterval → ℕ → Bool)
    (same : (i : LiveInterval) (r : ℕ) → r < 32 → clear i r ≡ clear' i r) where
  pub open_same : (free free' : ℕ → ℕ) (i : LiveInterval) → ((r : ℕ) → r < 32 → free r ≡ free' r) →
      find_in (is_open clear free i) order ≡ find_in (is_open clear' free' i) order
  open_same free free' i at =
      find_same (is_open clear free i) (is_open clear' free' i) order
      (λ r k t. nat_le (at r (small r k) t) i.start && same i r (small r k) t)

  after_same : (free free' : ℕ → ℕ) (i : LiveInterval) (o o' : Option ℕ) → ((r : ℕ) → r < 32 → free r ≡ free' r) → o ≡ o' → (r : ℕ) → r < 32 →
      free_after free i o r ≡ free_after free' i o' r
  after_same free free' i o o' at is r lt = ap (λ (x : Option ℕ). free_after free i x r) is ∙ by_given o' where
    by_given : (x : Option ℕ) → free_after free i x r ≡ free_after free' i x r
    by_given None = at r lt
    by_given (Some q) = ap (λ (n : ℕ). cond (nat_eq r q) (suc i.end) n) (at r lt)

  pub walk_same : (free free' : ℕ → ℕ) (is : List LiveInterval) → ((r : ℕ) → r < 32 → free r ≡ free' r) →
      walk clear order free is ≡ walk clear' order free' is
  walk_same free free' [] at = refl
  walk_same free free' (i ∷ is) at =
      let given = open_same free free' i at in
      let rest = walk_same (free_after free i (find_in (is_open clear free i) order)) (free_after free' i (find_in (is_open clear' free' i) order)) is
      (after_same free free' i (find_in (is_open clear free i) order) (find_in (is_open clear' free' i) order) at given) in
      λ t. record { register = i.register; given = given t } ∷ rest t
