-- The calls of a function as they are written: with a list of what is left.
use Rattle.std.specs.Prelude.{ℕ, suc, ◌+◌, ◌<◌, List, [], ◌∷◌, ◌++◌, drop, cond, nat_eq, Option, Some}
use Rattle.std.specs.Option.{option_eq}
use Rattle.dwarf_info.specs.declared.inlined.InlinedCall.{InlinedCall}
use Rattle.dwarf_info.specs.declared.calls.Left.{Left}
use Rattle.dwarf_info.specs.declared.calls.Left.TheVariants.{Call, End}
use Rattle.dwarf_info.specs.Inlined.{calls_within}

-- the numbers of those calls, of calls from number k on, that are in the code of one
abbrev pub numbers_within : (k : ℕ) → List InlinedCall → (around : Option ℕ) → List ℕ
numbers_within k [] around = []
numbers_within k (c ∷ cs) around = cond (option_eq nat_eq c.parent around) (k ∷ numbers_within (suc k) cs around) (numbers_within (suc k) cs around)

-- the numbers of the calls in the code of each one
abbrev pub numbers_inside : List InlinedCall → ℕ → List ℕ
numbers_inside calls k = numbers_within 0 calls (Some k)

-- the first of calls from number k on, with those in its code
abbrev pub first_bytes : (bytes : ℕ → InlinedCall → List ℕ) → (k : ℕ) → List InlinedCall → List ℕ
first_bytes bytes k [] = []
first_bytes bytes k (c ∷ cs) = bytes k c ++ calls_within bytes (suc k) cs (Some k) ++ 0 ∷ []

-- what is left to write: a call with those in its code, or the end of one
abbrev pub left_bytes : (bytes : ℕ → InlinedCall → List ℕ) → List InlinedCall → Left → List ℕ
left_bytes bytes calls (Call k) = first_bytes bytes k (drop k calls)
left_bytes bytes calls End = 0 ∷ []

-- the bytes of what is left, of which the last is next
abbrev pub all_left : (bytes : ℕ → InlinedCall → List ℕ) → List InlinedCall → List Left → List ℕ
all_left bytes calls [] = []
all_left bytes calls (l ∷ ls) = all_left bytes calls ls ++ left_bytes bytes calls l

-- what is left is of these calls
abbrev pub IsLeft : (count : ℕ) → Left → Type 0
IsLeft count (Call k) = k < count
IsLeft count End = Unit {0}
