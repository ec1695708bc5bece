-- The offsets of fixed objects from the stack pointer at entry, by their signs.
use Rattle.std.proofs.Common.{◌≡◌, ℕ, ℤ, pos, negsuc, true, false, List, Option, None, Some, refl, sym, subst, to_z, of_z, arith}
use Rattle.std.specs.Prelude.{All, int_lt, unsigned_abs, FitsSigned}
use Rattle.std.specs.Int.{w32}
use Rattle.std.proofs.lemmas.Int.{ints, to_z-of_z}
use Rattle.std.proofs.lemmas.List.Elements.{All-weaker}
use Rattle.mir_func.specs.declared.object.Object.{Object}
use Rattle.mir_func.specs.Objects.{depth_of, HasNoFixed, IsFixedAt}

-- ---- objects that aren't fixed

pub none_fixed : (area : ℕ) (os : List Object) → HasNoFixed os → All (λ o. IsFixedAt area o.offset o.fixed_offset) os
none_fixed area os none =
    All-weaker (λ (o : Object). o.fixed_offset ≡ None) (λ (o : Object). IsFixedAt area o.offset o.fixed_offset)
    (λ o is. subst (λ (f : Option ℤ). IsFixedAt area o.offset f) (sym is) tt) os none

-- ---- depths

deep : (i : ℤ) (n : ℕ) → int_lt i (pos 0) ≡ true → n ≡ unsigned_abs i → n ≡ depth_of (Some i)
deep (pos k) n less is = absurd (omega (arith, ints))
deep (negsuc k) n less is = is

none : (i : ℤ) → int_lt i (pos 0) ≡ false → 0 ≡ depth_of (Some i)
none (pos k) less = refl
none (negsuc k) less = absurd (omega (arith, ints))

-- the same of a number as code has it
pub depth_below : (i : ℤ) (n : ℕ) → FitsSigned w32 i → int_lt (to_z w32 (of_z w32 i)) (pos 0) ≡ true → n ≡ unsigned_abs (to_z w32 (of_z w32 i)) →
    n ≡ depth_of (Some i)
depth_below i n fits less is = let same = to_z-of_z w32 i fits in deep i n (rw same at less) (rw same at is)

pub depth_above : (i : ℤ) → FitsSigned w32 i → int_lt (to_z w32 (of_z w32 i)) (pos 0) ≡ false → 0 ≡ depth_of (Some i)
depth_above i fits less = let same = to_z-of_z w32 i fits in none i (rw same at less)
