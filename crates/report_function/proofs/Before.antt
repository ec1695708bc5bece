-- The words of a range are those before its end that aren't before its begin.
use Rattle.std.proofs.Common.{◌≡◌, ℕ, zero, suc, ◌+◌, ◌*◌, ◌<◌, ◌≤◌, List, [], ◌∷◌, ◌&&◌, cond, nat_le, nat_lt, sym, ap, ◌∙◌, arith}
use Rattle.std.proofs.Common.{length, get_or, drop, subst}
use Rattle.std.proofs.Math.Seq.{drop-cons}
use Rattle.std.specs.Prelude.{sum_by}
use Rattle.std.proofs.lemmas.List.Sums.{sum_by-cons}
use Rattle.std.proofs.lemmas.Bool.Decides.{nat_tests}
use Rattle.dwarf_loclists.specs.Ranges.{Ascend}
use Rattle.dwarf_loclists.specs.declared.range.Range.{Range}
use Rattle.report_function.specs.Report.{words_in}
use Rattle.report_function.specs.steps.Before.{words_before}

pub before_few : (base n x : ℕ) → words_before base n x ≤ n
unfolding words_before
before_few base n x = omega arith

pub before_grows : (base n x y : ℕ) → x ≤ y → words_before base n x ≤ words_before base n y
unfolding words_before
before_grows base n x y l = omega arith

-- one more word
next_before : (base n x : ℕ) → words_before base (suc n) x ≡ words_before base n x + cond (nat_lt (base + 4 * n) x) 1 0
unfolding words_before
next_before base n x = grind (arith, nat_tests)

next_in : (lo hi a : ℕ) → lo < hi → cond (nat_le lo a && nat_lt a hi) 1 0 + cond (nat_lt a lo) 1 0 ≡ cond (nat_lt a hi) 1 0
next_in lo hi a l = grind (arith, nat_tests)

pub in_between : (base n : ℕ) (r : Range) → r.lo < r.hi → words_in base n r + words_before base n r.lo ≡ words_before base n r.hi
unfolding words_before
in_between base zero r l = omega arith
in_between base (suc n) r l =
    let before = in_between base n r l in
    let lo = next_before base n r.lo in
    let hi = next_before base n r.hi in
    let one = next_in r.lo r.hi (base + 4 * n) l in
    omega (arith, before, lo, hi, one)

-- how many words may be counted before ranges: those before the first one
abbrev pub room : (base count : ℕ) → List Range → ℕ
room base n [] = n
room base n (r ∷ rest) = words_before base n r.lo

-- what is counted goes past a range
pub record Counts (base n total more : ℕ) (ranges : List Range) (all : ℕ) : Type 0 where
  pub ascend : Ascend ranges
  pub room : total + more ≤ room base n ranges
  pub few : total + more ≤ n
  pub sum : total + more + sum_by (words_in base n) ranges ≡ all

later : (r : Range) (rest : List Range) → Ascend (r ∷ rest) → Ascend rest
later r [] a = tt
later r (s ∷ rest) a = a.3

some : (r : Range) (rest : List Range) → Ascend (r ∷ rest) → r.lo < r.hi
some r [] a = a
some r (s ∷ rest) a = a.0

room_behind : (base n : ℕ) (r : Range) (rest : List Range) → Ascend (r ∷ rest) → words_before base n r.hi ≤ room base n rest
room_behind base n r [] a = before_few base n r.hi
room_behind base n r (s ∷ rest) a = before_grows base n r.hi s.lo a.1

pub counts_more : (base n total : ℕ) (ranges : List Range) (i : ℕ) (r : Range) (all : ℕ) → i < length ranges → r ≡ get_or ranges i r →
    Ascend (drop i ranges) → total ≤ room base n (drop i ranges) → total + sum_by (words_in base n) (drop i ranges) ≡ all →
    Counts base n total (words_in base n r) (drop (i + 1) ranges) all
counts_more base n total ranges i r all l is ascend few sum =
    let next : i + 1 ≡ suc i = omega arith in
    let rest = drop (i + 1) ranges in
    let here : drop i ranges ≡ r ∷ rest = drop-cons ranges i r l ∙ ap (λ (x : Range). x ∷ drop (suc i) ranges) (sym is)
    ∙ ap (λ (k : ℕ). r ∷ drop k ranges) (sym next) in
    let a = subst Ascend here ascend in
    let f = subst (λ (xs : List Range). total ≤ room base n xs) here few in
    let s = ap (λ (xs : List Range). total + sum_by (words_in base n) xs) (sym here) ∙ sum in
    let one = in_between base n r (some r rest a) in
    let behind = room_behind base n r rest a in
    let top = before_few base n r.hi in
    let first = sum_by-cons (words_in base n) r rest in
    record { ascend = later r rest a; room = omega (arith, f, one, behind); few = omega (arith, f, one, top); sum = omega (arith, s, first) }

pub first_some : (ranges : List Range) (i : ℕ) (r : Range) → i < length ranges → r ≡ get_or ranges i r → Ascend (drop i ranges) → r.lo < r.hi
first_some ranges i r l is ascend =
    let here : drop i ranges ≡ r ∷ drop (suc i) ranges = drop-cons ranges i r l ∙ ap (λ (x : Range). x ∷ drop (suc i) ranges) (sym is) in
    some r (drop (suc i) ranges) (subst Ascend here ascend)

pub starts : (base n : ℕ) (ranges : List Range) → 0 ≤ room base n ranges
starts base n ranges = omega arith
