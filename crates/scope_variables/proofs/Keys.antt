-- Tests of numbers.
use Rattle.std.proofs.Common.{◌≡◌, ℕ, ◌<◌, Ordering, Less, Equal, Greater, eqb, nat_eq, refl, sym, ap, arith}
use Rattle.std.proofs.Common.{true, Option, Some, None, true≢false}
use Rattle.std.specs.Option.{option_eq}
use Rattle.std.specs.Ordering.{nat_cmp, is_eq, MatchOrdering}
use Rattle.std.proofs.lemmas.Bool.{ne_eqb, eq-eqb, eqb-true}
use Rattle.std.proofs.lemmas.Cmp.{ranked}

by_order : (k q : ℕ) (o : Ordering) → MatchOrdering o (k < q) (k ≡ q) (q < k) → is_eq o ≡ eqb k q
by_order k q Less lt = sym (ne_eqb k q (λ e. omega (arith, lt, e)))
by_order k q Equal e = sym (eq-eqb k q e)
by_order k q Greater gt = sym (ne_eqb k q (λ e. omega (arith, gt, e)))

pub same_key : (k q : ℕ) → is_eq (nat_cmp k q) ≡ eqb k q
same_key k q = by_order k q (nat_cmp k q) (ranked k q (nat_cmp k q) refl)

-- the other way round
back_by_order : (k q : ℕ) (o : Ordering) → MatchOrdering o (k < q) (k ≡ q) (q < k) → is_eq o ≡ eqb q k
back_by_order k q Less lt = sym (ne_eqb q k (λ e. omega (arith, lt, e)))
back_by_order k q Equal e = sym (eq-eqb q k (sym e))
back_by_order k q Greater gt = sym (ne_eqb q k (λ e. omega (arith, gt, e)))

pub same_key_back : (k q : ℕ) → is_eq (nat_cmp k q) ≡ eqb q k
same_key_back k q = back_by_order k q (nat_cmp k q) (ranked k q (nat_cmp k q) refl)

pub same_option : (a b : Option ℕ) → option_eq nat_eq a b ≡ true → a ≡ b
same_option None None e = refl
same_option None (Some n) e = absurd (true≢false (sym e))
same_option (Some m) None e = absurd (true≢false (sym e))
same_option (Some m) (Some n) e = ap Some (eqb-true m n e)
