-- The calls of a function in prefix order: those in the code of one are the calls with its number as their parent, one after the other, and all of these stand
-- behind it.
use Rattle.std.proofs.Common.{◌≡◌, ℕ, suc, ◌+◌, ◌<◌, ◌≤◌, Bool, true, false, cond, List, [], ◌∷◌, ◌++◌, drop, Option, Some, None, refl, sym, ◌∙◌, ap}
use Rattle.std.proofs.Common.{arith}
use Rattle.std.proofs.Common.{nat_eq, subst}
use Rattle.std.specs.Prelude.{IfSome}
use Rattle.std.specs.List.{flat_map}
use Rattle.std.specs.Option.{option_eq}
use Rattle.std.proofs.lemmas.Bool.{ne_eqb}
use Rattle.dwarf_info.specs.declared.inlined.InlinedCall.{InlinedCall}
use Rattle.dwarf_info.specs.declared.calls.Left.TheVariants.{Call}
use Rattle.dwarf_info.specs.Inlined.{calls_within}
use Rattle.dwarf_info.specs.steps.Within.{numbers_within, first_bytes, left_bytes}

-- calls by their numbers: those from number k on are the list of all without the first k
pub by_numbers : (bytes : ℕ → InlinedCall → List ℕ) (all : List InlinedCall) (k : ℕ) (cs : List InlinedCall) (around : Option ℕ) → drop k all ≡ cs
    → ((j : ℕ) (c : InlinedCall) (rest : List InlinedCall) → drop j all ≡ c ∷ rest → drop (suc j) all ≡ rest)
    → calls_within bytes k cs around ≡ flat_map (λ j. left_bytes bytes all (Call j)) (numbers_within k cs around)
by_numbers bytes all k [] around from next = refl
by_numbers bytes all k (c ∷ cs) around from next =
    by (option_eq nat_eq c.parent around) (by_numbers bytes all (suc k) cs around (next k c cs from) next)
  where
    own : bytes k c ++ calls_within bytes (suc k) cs (Some k) ++ 0 ∷ [] ≡ left_bytes bytes all (Call k)
    own = sym (ap (first_bytes bytes k) from)

    by : (b : Bool) → calls_within bytes (suc k) cs around ≡ flat_map (λ j. left_bytes bytes all (Call j)) (numbers_within (suc k) cs around)
        → cond b (bytes k c ++ calls_within bytes (suc k) cs (Some k) ++ 0 ∷ []) [] ++ calls_within bytes (suc k) cs around
        ≡ flat_map (λ j. left_bytes bytes all (Call j)) (cond b (k ∷ numbers_within (suc k) cs around) (numbers_within (suc k) cs around))
    by true others =
        ap (λ (xs : List ℕ). xs ++ calls_within bytes (suc k) cs around) own ∙ ap (λ (xs : List ℕ). left_bytes bytes all (Call k) ++ xs) others
    by false others = others

-- no call up to number p has p as its parent
pub not_yet : (types abstracts p k : ℕ) (c : InlinedCall) (parent : Option ℕ) → c.parent ≡ parent → IfSome c.parent (λ q. q < k) → k ≤ p →
    option_eq nat_eq c.parent (Some p) ≡ false
not_yet types abstracts p k c None is below le = ap (λ (o : Option ℕ). option_eq nat_eq o (Some p)) is
not_yet types abstracts p k c (Some q) is below le =
    let under : q < k = subst (λ (o : Option ℕ). IfSome o (λ m. m < k)) is below in
    ap (λ (o : Option ℕ). option_eq nat_eq o (Some p)) is ∙ ne_eqb q p (λ e. let same : q ≡ p = e in omega (arith, same, under, le))
