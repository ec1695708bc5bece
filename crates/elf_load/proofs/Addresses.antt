-- The addresses of symbols.
use Rattle.std.specs.Prelude.{◌==◌, if◌then◌else◌}
use Rattle.std.specs.List.{AllByRecursion}
use Rattle.std.proofs.Common.{◌≡◌, ℕ, zero, suc, ◌+◌, ◌^◌, ◌<◌, Bool, true, false, List, [], ◌∷◌, length, drop, get_or}
use Rattle.std.proofs.Common.{arith, ap, sym, refl, subst}
use Rattle.std.proofs.lemmas.Bool.{eqb-false}
use Rattle.std.proofs.lemmas.List.{get_or-drop}
use Rattle.elf_object.specs.declared.symbols.Symbol.{Symbol}
use Rattle.elf_object.specs.Standard.{SHN_UNDEF}
use Rattle.elf_load.specs.Load.{addresses, IsPlaced}

sized : (t : Bool) (x y n : ℕ) (xs ys : List ℕ) → length xs ≡ n → length ys ≡ n → length (if t then x ∷ xs else y ∷ ys) ≡ suc n
sized true x y n xs ys e f = ap suc e
sized false x y n xs ys e f = ap suc f

pub length-addresses : (base : ℕ) (undefined : List ℕ) (symbols : List Symbol) → length (addresses base undefined symbols) ≡ length symbols
length-addresses base undefined [] = refl
length-addresses base undefined (s ∷ rest) =
    sized (s.section == SHN_UNDEF) (get_or undefined 0 0) (base + s.value) (length rest) (addresses base (drop 1 undefined) rest)
    (addresses base undefined rest) (length-addresses base (drop 1 undefined) rest) (length-addresses base undefined rest)

-- addresses have 64 bits
abbrev pub AreWords : List ℕ → Type 0
AreWords xs = (k : ℕ) → get_or xs k 0 < 2 ^ 64

no_words : AreWords []
no_words zero = omega arith
no_words (suc k) = omega arith

more_words : (x : ℕ) (xs : List ℕ) → x < 2 ^ 64 → AreWords xs → AreWords (x ∷ xs)
more_words x xs lt are zero = lt
more_words x xs lt are (suc k) = are k

later_words : (xs : List ℕ) → AreWords xs → AreWords (drop 1 xs)
later_words xs are k = subst (λ n. n < 2 ^ 64) (sym (get_or-drop 1 xs k 0)) (are (1 + k))

chosen : (t : Bool) (x y : ℕ) (xs ys : List ℕ) → x < 2 ^ 64 → (t ≡ false → y < 2 ^ 64) → AreWords xs → AreWords ys
    → AreWords (if t then x ∷ xs else y ∷ ys)
chosen true x y xs ys low other are others = more_words x xs low are
chosen false x y xs ys low other are others = more_words y ys (other refl) others

pub are_words : (base : ℕ) (undefined : List ℕ) (symbols : List Symbol) → AreWords undefined → AllByRecursion (IsPlaced base) symbols
    → AreWords (addresses base undefined symbols)
are_words base undefined [] are placed = no_words
are_words base undefined (s ∷ rest) are placed =
    chosen (s.section == SHN_UNDEF) (get_or undefined 0 0) (base + s.value) (addresses base (drop 1 undefined) rest)
    (addresses base undefined rest) (are 0) (λ e. placed.0 (eqb-false s.section SHN_UNDEF e))
    (are_words base (drop 1 undefined) rest (later_words undefined are) placed.1) (are_words base undefined rest are placed.1)
