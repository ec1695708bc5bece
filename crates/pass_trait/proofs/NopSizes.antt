-- A function without its no-operations is no larger.
use Rattle.std.proofs.Common.{◌≡◌, ℕ, ◌+◌, ◌*◌, ◌≤◌, List, [], ◌∷◌, ◌++◌, filter, length, count_by, Bool, true, false, cond, sym, subst, arith}
use Rattle.std.specs.List.{flat_map}
use Rattle.std.proofs.lemmas.List.{append_assoc}
use Rattle.std.proofs.lemmas.List.Sums.{length-filter, count_by-le-length, sum_by-cons}
use Rattle.std.proofs.Math.Nat.{le-max_left, le-max_right, max-le, le_trans, le_refl}
use Rattle.sem_simulation.specs.mir_func.declared.debug_substitution.DebugSubstitution.{DebugSubstitution}
use Rattle.sem_simulation.specs.mir_func.declared.item.Item.{Item}
use Rattle.sem_simulation.specs.mir_func.Function.{Function}
use Rattle.sem_simulation.specs.mir_func.Limits.{MAX_BLOCKS, MAX_SLOTS}
use Rattle.sem_simulation.specs.mir_func.Sound.{items_of}
use Rattle.sem_simulation.specs.mir_func.SoundFrame.{HasPhysical}
use Rattle.sem_simulation.specs.mir_func.Calls.{is_call_kind}
use Rattle.sem_simulation.specs.sem_mir.Align.{is_code}
use Rattle.pass_trait.specs.Change.{change}
use Rattle.pass_trait.specs.Sizes.{greatest, most_numbers, numbers_of, KeepsSizes}
use Rattle.pass_trait.specs.Nops.{stays, thinned_blocks}
use Rattle.pass_trait.proofs.NopFollows.{each_left}
use Rattle.pass_trait.proofs.NopSound.{items_thin}

-- what is left has no more that pass a test, and is no longer
count_step : (z w : Bool) (n m : ℕ) → n ≤ m → cond z (cond w 1 0 + n) n ≤ cond w 1 0 + m
count_step true w n m h = omega (arith, h)
count_step false w n m h = omega (arith, h)

pub count_thin : (p keep : Item → Bool) (xs : List Item) → count_by p (filter keep xs) ≤ count_by p xs
count_thin p keep [] = le_refl 0
count_thin p keep (x ∷ xs) =
    let f : Item → ℕ = λ y. cond (p y) 1 0 in
    let e : count_by p (x ∷ xs) ≡ cond (p x) 1 0 + count_by p xs = sum_by-cons f x xs in
    let d : count_by p (filter keep (x ∷ xs)) ≤ cond (p x) 1 0 + count_by p xs = by_test (keep x) (count_thin p keep xs) in
    subst (λ (n : ℕ). count_by p (filter keep (x ∷ xs)) ≤ n) (sym e) d where
      by_test : (z : Bool) → count_by p (filter keep xs) ≤ count_by p xs →
          count_by p (cond z (x ∷ filter keep xs) (filter keep xs)) ≤ cond (p x) 1 0 + count_by p xs
      by_test true h = let e : count_by p (x ∷ filter keep xs) ≡ cond (p x) 1 0 + count_by p (filter keep xs) =
          sum_by-cons (λ y. cond (p y) 1 0) x (filter keep xs) in omega (arith, e, h)
      by_test false h = omega (arith, h)

length_thin : (keep : Item → Bool) (xs : List Item) → length (filter keep xs) ≤ length xs
length_thin keep xs = let e = length-filter keep xs in let h = count_by-le-length keep xs in omega (arith, e, h)

-- numbers that are left are no greater
pub greatest_more : (n : ℕ) (ns ms : List ℕ) → greatest ns ≤ greatest ms → greatest (n ∷ ns) ≤ greatest (n ∷ ms)
greatest_more n ns ms h = max-le (le-max_left n (greatest ms)) (le_trans h (le-max_right n (greatest ms)))

pub greatest_front : (ls ns ms : List ℕ) → greatest ns ≤ greatest ms → greatest (ls ++ ns) ≤ greatest (ls ++ ms)
greatest_front [] ns ms h = h
greatest_front (l ∷ ls) ns ms h = greatest_more l (ls ++ ns) (ls ++ ms) (greatest_front ls ns ms h)

pub greatest_past : (ls ns ms : List ℕ) → greatest ns ≤ greatest ms → greatest ns ≤ greatest (ls ++ ms)
greatest_past [] ns ms h = h
greatest_past (l ∷ ls) ns ms h = le_trans (greatest_past ls ns ms h) (le-max_right l (greatest (ls ++ ms)))

numbers_thin : (h : Item → List ℕ) (keep : Item → Bool) (xs : List Item) (ms : List ℕ) →
    greatest (flat_map h (filter keep xs) ++ ms) ≤ greatest (flat_map h xs ++ ms)
numbers_thin h keep [] ms = le_refl (greatest ms)
numbers_thin h keep (x ∷ xs) ms =
    subst (λ (ns : List ℕ). greatest (flat_map h (filter keep (x ∷ xs)) ++ ms) ≤ greatest ns) (sym (append_assoc (h x) (flat_map h xs) ms))
    (by_test (keep x) (numbers_thin h keep xs ms)) where
      by_test : (z : Bool) → greatest (flat_map h (filter keep xs) ++ ms) ≤ greatest (flat_map h xs ++ ms) →
          greatest (flat_map h (cond z (x ∷ filter keep xs) (filter keep xs)) ++ ms) ≤ greatest (h x ++ (flat_map h xs ++ ms))
      by_test true k = subst (λ (ns : List ℕ). greatest ns ≤ greatest (h x ++ (flat_map h xs ++ ms)))
          (sym (append_assoc (h x) (flat_map h (filter keep xs)) ms)) (greatest_front (h x) (flat_map h (filter keep xs) ++ ms) (flat_map h xs ++ ms) k)
      by_test false k = greatest_past (h x) (flat_map h (filter keep xs) ++ ms) (flat_map h xs ++ ms) k

le_more : (n m : ℕ) → n ≤ n + m
le_more n m = omega arith

pub sizes_thin : (busy : Bool) (f : Function) (subs : List DebugSubstitution) →
    KeepsSizes 1 0 (change f subs (record f { blocks = thinned_blocks busy f.blocks }) subs)
sizes_thin busy f subs =
    let keep : Item → Bool = stays busy in
    let xs : List Item = items_of f.blocks in
    let entries : List ℕ = flat_map (λ s. s.src.number ∷ s.dst.number ∷ []) subs in
    let e : items_of (thinned_blocks busy f.blocks) ≡ filter keep xs = items_thin keep f.blocks in
    record {
      items = subst (λ (ys : List Item). length ys ≤ 1 * (length xs + MAX_BLOCKS * 0)) (sym e) (let k = length_thin keep xs in omega (arith, k));
      code = subst (λ (ys : List Item). count_by (λ i. is_code i.kind) ys ≤ 1 * (count_by (λ i. is_code i.kind) xs + MAX_BLOCKS * 0)) (sym e)
          (let k = count_thin (λ i. is_code i.kind) keep xs in omega (arith, k));
      calls = subst (λ (ys : List Item). count_by (λ i. is_call_kind i.kind) ys ≤ count_by (λ i. is_call_kind i.kind) xs) (sym e)
          (count_thin (λ i. is_call_kind i.kind) keep xs);
      physical = λ h. each_left keep (λ b i. HasPhysical i.kind) (λ b i. HasPhysical i.kind) (λ b i k. k) f.blocks h;
      numbers = le_trans (subst (λ (ys : List Item). greatest (flat_map (λ i. numbers_of i.kind) ys ++ entries) ≤ greatest
          (flat_map (λ i. numbers_of i.kind) xs ++ entries)) (sym e) (numbers_thin (λ i. numbers_of i.kind) keep xs entries))
          (le_more (greatest (flat_map (λ i. numbers_of i.kind) xs ++ entries)) (most_numbers 1 0 f));
      slots = le_more (greatest f.slots) (MAX_SLOTS * 0);
    }
