-- The bounds of passes, one after another.
use Rattle.std.proofs.Common.{◌≡◌, ℕ, ◌+◌, ◌*◌, ◌≤◌, sym, ◌∙◌, ap, subst, arith, List}
use Rattle.std.proofs.Math.Nat.{mul-le-mul, mul-le-mul_left, mul-le-mul_right, mul-add, add-mul, mul_assoc, mul_comm, le_trans, le_refl}
use Rattle.sem_simulation.specs.mir_func.declared.debug_substitution.DebugSubstitution.{DebugSubstitution}
use Rattle.sem_simulation.specs.mir_func.Function.{Function}
use Rattle.sem_simulation.specs.mir_func.Limits.{MAX_BLOCKS, MAX_SLOTS}
use Rattle.pass_trait.specs.Change.{change}
use Rattle.pass_trait.specs.Sizes.{most, item_count, code_count, KeepsSizes}

-- what is multiplied by 1 at least doesn't fall
pub le_times : (n k : ℕ) → 1 ≤ k → n ≤ n * k
le_times n k h = let e : n * 1 ≤ n * k = mul-le-mul_left n h in omega (arith, e)

pub le_times_left : (k n : ℕ) → 1 ≤ k → n ≤ k * n
le_times_left k n h = let e : 1 * n ≤ k * n = mul-le-mul_right n h in omega (arith, e)

replaced : (p q r s t : ℕ) → r ≡ p + q → t ≤ q → r ≤ s → p + t ≤ s
replaced p q r s t e f g = omega (arith, e, f, g)

-- what the one makes of x items, and the room that the other asks for beside
inner : (a m b n x : ℕ) → 1 ≤ a → 1 ≤ b → most a m x + MAX_BLOCKS * n ≤ a * (x + MAX_BLOCKS * (m * b + n))
inner a m b n x ha hb =
    let w : ℕ = x + MAX_BLOCKS * m in
    let wide : w + MAX_BLOCKS * n ≤ x + MAX_BLOCKS * (m * b + n) = let k = le_times m b hb in omega (arith, k) in
    let k : ℕ = MAX_BLOCKS * n in
    replaced (a * w) (a * k) (a * (w + k)) (a * (x + MAX_BLOCKS * (m * b + n))) k (mul-add a w k) (le_times_left a k ha) (mul-le-mul_left a wide)

-- the items that the other makes of those that the one made
pub most_then : (a m b n x y : ℕ) → 1 ≤ a → 1 ≤ b → y ≤ most a m x → most b n y ≤ most (a * b) (m * b + n) x
most_then a m b n x y ha hb h =
    let w : ℕ = x + MAX_BLOCKS * (m * b + n) in
    let room : y + MAX_BLOCKS * n ≤ a * w = let k = inner a m b n x ha hb in omega (arith, k, h) in
    let e : b * (a * w) ≡ a * b * w = sym (mul_assoc b a w) ∙ ap (λ k. k * w) (mul_comm b a) in
    subst (λ v. most b n y ≤ v) e (mul-le-mul_left b room)

pub most_first : (a m b n x : ℕ) → 1 ≤ a → 1 ≤ b → most a m x ≤ most (a * b) (m * b + n) x
most_first a m b n x ha hb =
    let k : most b n (most a m x) ≤ most (a * b) (m * b + n) x = most_then a m b n x (most a m x) ha hb (le_refl (most a m x)) in
    let j : most a m x + MAX_BLOCKS * n ≤ most b n (most a m x) = le_times_left b (most a m x + MAX_BLOCKS * n) hb in
    omega (arith, k, j)

-- the numbers that both may add
pub numbers_then : (a m b n x y : ℕ) → 1 ≤ a → 1 ≤ b → y ≤ most a m x → m * most a m x + n * most b n y ≤ (m * b + n) * most (a * b) (m * b + n) x
numbers_then a m b n x y ha hb h =
    let r : ℕ = most (a * b) (m * b + n) x in
    let one : m * most a m x ≤ m * b * r = mul-le-mul (le_times m b hb) (most_first a m b n x ha hb) in
    let other : n * most b n y ≤ n * r = mul-le-mul_left n (most_then a m b n x y ha hb h) in
    let e : (m * b + n) * r ≡ m * b * r + n * r = add-mul (m * b) n r in
    omega (arith, one, other, e)

pub numbers_first : (a m b n x : ℕ) → 1 ≤ a → 1 ≤ b → m * most a m x ≤ (m * b + n) * most (a * b) (m * b + n) x
numbers_first a m b n x ha hb = let k = numbers_then a m b n x (most a m x) ha hb (le_refl (most a m x)) in omega (arith, k)

-- the slots that both may add
pub slots_then : (m b n : ℕ) → 1 ≤ b → MAX_SLOTS * m + MAX_SLOTS * n ≤ MAX_SLOTS * (m * b + n)
slots_then m b n hb = let k = le_times m b hb in omega (arith, k)

-- the bounds of both
pub sizes_then : (a m b n : ℕ) (f : Function) (fs : List DebugSubstitution) (g : Function) (gs : List DebugSubstitution) (h : Function)
    (hs : List DebugSubstitution) → 1 ≤ a → 1 ≤ b →
    KeepsSizes a m (change f fs g gs) → KeepsSizes b n (change g gs h hs) →
    KeepsSizes (a * b) (m * b + n) (change f fs h hs)
sizes_then a m b n f fs g gs h hs ha hb x y = record {
  items = le_trans y.items (most_then a m b n (item_count f) (item_count g) ha hb x.items);
  code = le_trans y.code (most_then a m b n (code_count f) (code_count g) ha hb x.code);
  calls = le_trans y.calls x.calls;
  physical = λ p. y.physical (x.physical p);
  numbers = let k = numbers_then a m b n (item_count f) (item_count g) ha hb x.items in let u = x.numbers in let v = y.numbers in omega (arith, k, u, v);
  slots = let k = slots_then m b n hb in let u = x.slots in let v = y.slots in omega (arith, k, u, v);
}
