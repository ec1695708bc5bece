-- How many bytes the calls of a function have at least: one for each call, which ends its children. Each call is in the function's own code or in that of a
-- call before it, so none is left out.
use Rattle.std.proofs.Common.{◌≡◌, ℕ, zero, suc, ◌+◌, ◌<◌, ◌≤◌, Bool, true, cond, List, [], ◌∷◌, ◌++◌, length, Option, Some, None}
use Rattle.std.proofs.Common.{refl, ◌∙◌, ap, arith, nat_eq, length-append, subst, inl, inr}
use Rattle.std.specs.Prelude.{IfSome}
use Rattle.std.specs.Option.{option_eq}
use Rattle.std.proofs.lemmas.Bool.{eq-eqb, cases_eq}
use Rattle.dwarf_info.specs.declared.inlined.InlinedCall.{InlinedCall}
use Rattle.dwarf_info.specs.Inlined.{calls_within, AreCalls}

-- how many bytes those of the calls have that are in the function's own code or in that of one of the first n calls
abbrev total : (bytes : ℕ → InlinedCall → List ℕ) (k n : ℕ) → List InlinedCall → ℕ
total bytes k zero cs = length (calls_within bytes k cs None)
total bytes k (suc n) cs = length (calls_within bytes k cs (Some n)) + total bytes k n cs

module _ (bytes : ℕ → InlinedCall → List ℕ) (k : ℕ) (c : InlinedCall) (cs : List InlinedCall) where
  -- the bytes of those in the code of the first call, and of all of it
  abbrev inside : ℕ
  inside = length (calls_within bytes (suc k) cs (Some k))

  abbrev own : List ℕ
  own = bytes k c ++ calls_within bytes (suc k) cs (Some k) ++ 0 ∷ []

  long : inside + 1 ≤ length own
  long =
      let within = calls_within bytes (suc k) cs (Some k) in
      omega (arith, length-append (bytes k c ++ within) (0 ∷ []), length-append (bytes k c) within)

  -- the calls behind it are there too
  behind : (around : Option ℕ) → length (calls_within bytes (suc k) cs around) ≤ length (calls_within bytes k (c ∷ cs) around)
  behind around =
      let first = cond (option_eq nat_eq c.parent around) own [] in
      omega (arith, length-append first (calls_within bytes (suc k) cs around))

  here : (around : Option ℕ) → option_eq nat_eq c.parent around ≡ true
      → inside + 1 + length (calls_within bytes (suc k) cs around) ≤ length (calls_within bytes k (c ∷ cs) around)
  here around is =
      let others = calls_within bytes (suc k) cs around in
      let first : calls_within bytes k (c ∷ cs) around ≡ own ++ others = ap (λ (b : Bool). cond b own [] ++ others) is in
      let sizes : length (calls_within bytes k (c ∷ cs) around) ≡ length own + length others =
      ap (λ (xs : List ℕ). length xs) first ∙ length-append own others in
      omega (arith, sizes, long)

  all_behind : (n : ℕ) → total bytes (suc k) n cs ≤ total bytes k n (c ∷ cs)
  all_behind zero = behind None
  all_behind (suc n) = omega (arith, behind (Some n), all_behind n)

  of_none : (n : ℕ) → c.parent ≡ None → inside + 1 + total bytes (suc k) n cs ≤ total bytes k n (c ∷ cs)
  of_none zero none = here None (ap (λ (o : Option ℕ). option_eq nat_eq o None) none)
  of_none (suc n) none = omega (arith, of_none n none, behind (Some n))

  of_some : (n p : ℕ) → c.parent ≡ Some p → p < n → inside + 1 + total bytes (suc k) n cs ≤ total bytes k n (c ∷ cs)
  of_some zero p some below = absurd (omega (arith, below))
  of_some (suc n) p some below =
      elim (cases_eq p n) [
        | inl same ↦ omega (arith, here (Some n) (ap (λ (o : Option ℕ). option_eq nat_eq o (Some n)) some ∙ eq-eqb p n same), all_behind n)
        | inr other ↦ omega (arith, of_some n p some (omega (arith, below, other)), behind (Some n))
      ]

  counted : (parent : Option ℕ) → c.parent ≡ parent → IfSome c.parent (λ p. p < k) → inside + 1 + total bytes (suc k) k cs ≤ total bytes k k (c ∷ cs)
  counted None is before = of_none k is
  counted (Some p) is before = of_some k p is (subst (λ (o : Option ℕ). IfSome o (λ q. q < k)) is before)

all_counted : (bytes : ℕ → InlinedCall → List ℕ) (types abstracts k : ℕ) (cs : List InlinedCall) → AreCalls types abstracts k cs
    → length cs ≤ total bytes k k cs
all_counted bytes types abstracts k [] are = omega arith
all_counted bytes types abstracts k (c ∷ cs) are =
    omega (arith, all_counted bytes types abstracts (suc k) cs are.1, counted bytes k c cs c.parent refl are.0.parent)

pub calls_counted : (bytes : ℕ → InlinedCall → List ℕ) (types abstracts : ℕ) (cs : List InlinedCall) → AreCalls types abstracts 0 cs
    → length cs ≤ length (calls_within bytes 0 cs None)
calls_counted bytes types abstracts cs are = all_counted bytes types abstracts 0 cs are
