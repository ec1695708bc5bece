-- The bytes of `.text` depend only on the code of functions, not on their debug items.
use Rattle.std.specs.Prelude.{◌≡◌, ℕ, ◌+◌, ◌*◌, List, [], ◌∷◌, ◌++◌, length, map}
use Rattle.mir_func.specs.Function.{Function}
use Rattle.mir_func.specs.Strip.{stripped}
use Rattle.emit_code.specs.BranchRelaxation.{IsSettled}
use Rattle.emit_code.specs.Rule.{Layout, words_of}
use Rattle.frame_rule.specs.Rule.{framed_of}
use Rattle.compile_theorem.specs.Compiled.{bytes_of}
use Rattle.invariance_code.specs.Alike.{HaveAlikeCode, HaveSameCode}
use Rattle.invariance_code.specs.Alone.{AreCodedAlike, AreCodedSame}

-- ---- one function

-- a layout of the function at an address: with its frame and the least set of long branches
pub record IsLaid (f : Function) (base : ℕ) (l : Layout) : Type 0 where
  pub framed : l.framed ≡ framed_of f
  pub from : l.base ≡ base
  pub settled : IsSettled l

-- The function without its debug items has a layout at the same address with the same machine code.
pub record HasCodeAlone (f : Function) (base : ℕ) (l : Layout) : Type 0 where
  pub layout : Layout
  pub laid : IsLaid (stripped f) base layout
  pub coded : AreCodedSame l layout

-- Every layout of a function has the same machine code as a layout of the function without its debug items.
abbrev pub IsCodedAlone : Type 0
IsCodedAlone = (f : Function) (base : ℕ) (l : Layout) → IsLaid f base l → HasCodeAlone f base l

-- Two functions with equal code up to positions have equal machine code up to positions.
abbrev pub AlikeIsCodedAlike : Type 0
AlikeIsCodedAlike = (f g : Function) (base : ℕ) (l m : Layout) → IsLaid f base l → IsLaid g base m → HaveAlikeCode f g → AreCodedAlike l m

-- Two functions with equal code and origins have equal machine code with its origins.
abbrev pub SameIsCodedSame : Type 0
SameIsCodedSame = (f g : Function) (base : ℕ) (l m : Layout) → IsLaid f base l → IsLaid g base m → HaveSameCode f g → AreCodedSame l m

-- ---- functions one after the other

-- The functions are laid out one after the other from address `base`, and `text` is exactly the bytes of their layouts.
abbrev pub AreLaid : (base : ℕ) → (text : List ℕ) → List Function → List Layout → Type 0
AreLaid base text [] [] = text ≡ []
AreLaid base text [] (l ∷ ls) = ⊥
AreLaid base text (f ∷ fs) [] = ⊥
AreLaid base text (f ∷ fs) (l ∷ ls) =
    IsLaid f base l × (more : List ℕ) × (text ≡ bytes_of l ++ more) × AreLaid (l.base + 4 * length (words_of l)) more fs ls

-- two lists of the same length, whose elements are related by R pairwise
abbrev pub OneByOne : {X Y : Type 0} → (X → Y → Type 0) → List X → List Y → Type 0
OneByOne R [] [] = Unit {0}
OneByOne R [] (y ∷ ys) = ⊥
OneByOne R (x ∷ xs) [] = ⊥
OneByOne R (x ∷ xs) (y ∷ ys) = R x y × OneByOne R xs ys

-- The functions without their debug items have layouts with the same `.text`, and with pairwise the same machine code.
pub record HaveCodeAlone (base : ℕ) (text : List ℕ) (fs : List Function) (ls : List Layout) : Type 0 where
  pub layouts : List Layout
  pub laid : AreLaid base text (map stripped fs) layouts
  pub coded : OneByOne AreCodedSame ls layouts

-- The `.text` of functions is that of the functions without their debug items.
abbrev pub HasTextAlone : Type 0
HasTextAlone = (fs : List Function) (base : ℕ) (text : List ℕ) (ls : List Layout) → AreLaid base text fs ls → HaveCodeAlone base text fs ls

-- Functions with pairwise equal code up to positions have the same `.text`, and pairwise equal machine code up to positions.
abbrev pub AlikeHasSameText : Type 0
AlikeHasSameText = (fs gs : List Function) (base : ℕ) (text other : List ℕ) (ls ms : List Layout) → OneByOne HaveAlikeCode fs gs →
    AreLaid base text fs ls → AreLaid base other gs ms → (text ≡ other) × OneByOne AreCodedAlike ls ms

-- Functions with pairwise equal code and origins have the same `.text`, and pairwise equal machine code with its origins.
abbrev pub SameHasSameText : Type 0
SameHasSameText = (fs gs : List Function) (base : ℕ) (text other : List ℕ) (ls ms : List Layout) → OneByOne HaveSameCode fs gs →
    AreLaid base text fs ls → AreLaid base other gs ms → (text ≡ other) × OneByOne AreCodedSame ls ms
