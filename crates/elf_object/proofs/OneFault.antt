-- Bytes have at most one first wrong field.
use Rattle.std.specs.Prelude.{Option, Some}
use Rattle.std.proofs.Common.{◌≡◌, ℕ, ◌-◌, List, arith, sym, ◌∙◌, inl, inr, subst}
use Rattle.std.proofs.lemmas.Bool.{cases_lt}
use Rattle.elf_object.specs.FirstFault.{count_in, file_fault, null_fault, fault_after, last_fault_after, AreRight}
use Rattle.elf_object.specs.FirstFault.{FirstFault, InFileHeader, InNullHeader, InSection, InNames}
use Rattle.elf_object.proofs.ObjectRight.{some_none}

some_one : (a b : ℕ) (fault : Option ℕ) → fault ≡ Some a → fault ≡ Some b → a ≡ b
some_one a b fault e f = let same : Some a ≡ Some b = sym e ∙ f in cc

-- of two sections with a wrong field neither is before the other
sections_one : (bytes : List ℕ) (a b i j : ℕ) → AreRight bytes i → fault_after bytes i ≡ Some a → AreRight bytes j → fault_after bytes j ≡ Some b
    → a ≡ b
sections_one bytes a b i j before_i e before_j f =
    elim (cases_lt i j) [
      | inl lt ↦ absurd (some_none a (fault_after bytes i) e (before_j.sections i lt))
      | inr ge ↦ elim (cases_lt j i) [
        | inl lt ↦ absurd (some_none b (fault_after bytes j) f (before_i.sections j lt))
        | inr le ↦
            (let same : i ≡ j = omega (arith, ge, le) in
            some_one a b (fault_after bytes j) (subst (λ n. fault_after bytes n ≡ Some a) same e) f)
      ]
    ]

pub one_fault : (bytes : List ℕ) (a b : ℕ) → FirstFault bytes a → FirstFault bytes b → a ≡ b
one_fault bytes a b (InFileHeader e) (InFileHeader f) = some_one a b (file_fault bytes) e f
one_fault bytes a b (InFileHeader e) (InNullHeader right f) = absurd (some_none a (file_fault bytes) e right)
one_fault bytes a b (InFileHeader e) (InSection j right lt f) = absurd (some_none a (file_fault bytes) e right.file)
one_fault bytes a b (InFileHeader e) (InNames right f) = absurd (some_none a (file_fault bytes) e right.file)
one_fault bytes a b (InNullHeader left e) (InFileHeader f) = absurd (some_none b (file_fault bytes) f left)
one_fault bytes a b (InNullHeader left e) (InNullHeader right f) = some_one a b (null_fault bytes) e f
one_fault bytes a b (InNullHeader left e) (InSection j right lt f) = absurd (some_none a (null_fault bytes) e right.null)
one_fault bytes a b (InNullHeader left e) (InNames right f) = absurd (some_none a (null_fault bytes) e right.null)
one_fault bytes a b (InSection i left lt e) (InFileHeader f) = absurd (some_none b (file_fault bytes) f left.file)
one_fault bytes a b (InSection i left lt e) (InNullHeader right f) = absurd (some_none b (null_fault bytes) f left.null)
one_fault bytes a b (InSection i left lt e) (InSection j right lt_j f) = sections_one bytes a b i j left e right f
one_fault bytes a b (InSection i left lt e) (InNames right f) =
    absurd (some_none a (fault_after bytes i) e (right.sections i (omega (arith, lt))))
one_fault bytes a b (InNames left e) (InFileHeader f) = absurd (some_none b (file_fault bytes) f left.file)
one_fault bytes a b (InNames left e) (InNullHeader right f) = absurd (some_none b (null_fault bytes) f left.null)
one_fault bytes a b (InNames left e) (InSection j right lt f) =
    absurd (some_none b (fault_after bytes j) f (left.sections j (omega (arith, lt))))
one_fault bytes a b (InNames left e) (InNames right f) = some_one a b (last_fault_after bytes (count_in bytes - 2)) e f
