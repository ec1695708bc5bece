-- The text of a number that is added to a symbol's address, by its sign.
use Rattle.std.proofs.Common.{◌≡◌, ℕ, ℤ, zero, suc, pos, negsuc, true, false, [], ◌++◌, refl, sym, ap, to_z, of_z, arith}
use Rattle.std.specs.Prelude.{codes, int_lt, unsigned_abs, FitsSigned}
use Rattle.std.specs.Int.{w32}
use Rattle.std.specs.Fmt.{decimal}
use Rattle.std.proofs.lemmas.Int.{ints, to_z-of_z}
use Rattle.mir_printer.specs.Spelling.{addend_text}

negative : (i : ℤ) (n : ℕ) → int_lt i (pos 0) ≡ true → n ≡ unsigned_abs i → addend_text i ≡ codes " - " ++ decimal n
negative (pos k) n less is = absurd (omega (arith, ints))
negative (negsuc k) n less is = ap (λ (m : ℕ). codes " - " ++ decimal m) (sym is)

positive : (i : ℤ) (n : ℕ) → int_lt (pos 0) i ≡ true → n ≡ unsigned_abs i → addend_text i ≡ codes " + " ++ decimal n
positive (pos zero) n more is = absurd (omega (arith, ints))
positive (pos (suc k)) n more is = ap (λ (m : ℕ). codes " + " ++ decimal m) (sym is)
positive (negsuc k) n more is = absurd (omega (arith, ints))

neither : (i : ℤ) → int_lt i (pos 0) ≡ false → int_lt (pos 0) i ≡ false → addend_text i ≡ []
neither (pos zero) less more = refl
neither (pos (suc k)) less more = absurd (omega (arith, ints))
neither (negsuc k) less more = absurd (omega (arith, ints))

-- the same of a number as code has it
pub negative_text : (i : ℤ) (n : ℕ) → FitsSigned w32 i → int_lt (to_z w32 (of_z w32 i)) (pos 0) ≡ true → n ≡ unsigned_abs (to_z w32 (of_z w32 i)) →
    addend_text i ≡ codes " - " ++ decimal n
negative_text i n fits less is = let same = to_z-of_z w32 i fits in negative i n (rw same at less) (rw same at is)

pub positive_text : (i : ℤ) (n : ℕ) → FitsSigned w32 i → int_lt (pos 0) (to_z w32 (of_z w32 i)) ≡ true → n ≡ unsigned_abs (to_z w32 (of_z w32 i)) →
    addend_text i ≡ codes " + " ++ decimal n
positive_text i n fits more is = let same = to_z-of_z w32 i fits in positive i n (rw same at more) (rw same at is)

pub no_text : (i : ℤ) → FitsSigned w32 i → int_lt (to_z w32 (of_z w32 i)) (pos 0) ≡ false → int_lt (pos 0) (to_z w32 (of_z w32 i)) ≡ false →
    addend_text i ≡ []
no_text i fits less more = let same = to_z-of_z w32 i fits in neither i (rw same at less) (rw same at more)
