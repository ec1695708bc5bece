-- The place of a number among numbers that ascend.
use Rattle.std.proofs.Common.{◌≡◌, ℕ, zero, suc, ◌+◌, ◌<◌, ◌≤◌, Bool, true, false, cond, eqb}
use Rattle.std.proofs.Common.{List, [], ◌∷◌, length, get_or, Result, Ok, Err, refl, sym, ap, ◌∙◌, arith}
use Rattle.std.specs.Prelude.{MatchResult, nat_lt}
use Rattle.std.specs.Ordering.{nat_cmp}
use Rattle.std.specs.List.Sorted.{IsBinarySearchResult}
use Rattle.std.proofs.lemmas.Bool.{ne_eqb, eq-eqb, eqb-true, eqb-false, ltb-true, ltb-false}
use Rattle.std.proofs.lemmas.List.Sorted.{searched}
use Rattle.read_types.specs.Indices.{Ascends, index_in}

at_front : (m n : ℕ) (ns : List ℕ) (b : Bool) → eqb m n ≡ b → index_in (m ∷ ns) n ≡ cond b 0 (index_in ns n + 1)
at_front m n ns b is = ap (λ (z : Bool). cond z 0 (index_in ns n + 1)) is

index_here : (ns : List ℕ) (n i : ℕ) → i < length ns → get_or ns i 0 ≡ n → ((k : ℕ) → k < i → get_or ns k 0 ≡ n → ⊥) → i ≡ index_in ns n
index_here [] n i lt at before = absurd (omega arith)
index_here (m ∷ ns) n zero lt at before = sym (at_front m n ns true (eq-eqb m n at))
index_here (m ∷ ns) n (suc i) lt at before =
    let here : i ≡ index_in ns n = index_here ns n i (omega arith) at (λ k less same. before (suc k) (omega arith) same) in
    let other : eqb m n ≡ false = ne_eqb m n (λ same. before 0 (omega arith) same) in
    omega (arith, here, at_front m n ns false other)

index_none : (ns : List ℕ) (n : ℕ) → ((k : ℕ) → k < length ns → get_or ns k 0 ≡ n → ⊥) → length ns ≡ index_in ns n
index_none [] n out = refl
index_none (m ∷ ns) n out =
    let rest : length ns ≡ index_in ns n = index_none ns n (λ k less same. out (suc k) (omega arith) same) in
    let other : eqb m n ≡ false = ne_eqb m n (λ same. out 0 (omega arith) same) in
    omega (arith, rest, at_front m n ns false other)

rises : (ns : List ℕ) → Ascends ns → (i j : ℕ) → i ≤ j → j < length ns → get_or ns i 0 ≤ get_or ns j 0
rises ns up i j le lt = by (eqb i j) refl
  where
    by : (b : Bool) → eqb i j ≡ b → get_or ns i 0 ≤ get_or ns j 0
    by true e = let same = eqb-true i j e in rw same (omega arith)
    by false e = let less : i < j = omega (arith, le, eqb-false i j e) in omega (arith, up i j less lt)

pub found : (ns : List ℕ) (n : ℕ) → Ascends ns → (r : Result ℕ ℕ) → IsBinarySearchResult (λ (y : ℕ). nat_cmp y n) ns r
    → MatchResult r (λ i. i ≡ index_in ns n) (λ i. length ns ≡ index_in ns n)
found ns n up (Ok i) is =
    let s = searched ns n (Ok i) is (rises ns up) in
    index_here ns n i s.0 s.1 (λ k less same. omega (arith, up k i less s.0, s.1, same))
found ns n up (Err i) is =
    let s = searched ns n (Err i) is (rises ns up) in
    index_none ns n (λ k less same. apart k less same (nat_lt k i) refl)
  where
    apart : (k : ℕ) → k < length ns → get_or ns k 0 ≡ n → (b : Bool) → nat_lt k i ≡ b → ⊥
    apart k less same true e =
        let s = searched ns n (Err i) is (rises ns up) in omega (arith, s.1 k (ltb-true k i e), same)
    apart k less same false e =
        let s = searched ns n (Err i) is (rises ns up) in omega (arith, s.2 k (ltb-false k i e) less, same)
