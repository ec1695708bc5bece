-- Bits in words: one set or cleared, and those of two lists together.
use Rattle.std.proofs.Common.{◌≡◌, ◌⊎◌, ℕ, zero, suc, ◌-◌, ◌*◌, ◌/◌, ◌%◌, ◌^◌, ◌<◌, ◌≤◌, ◌||◌, ◌&&◌, not, nat_eq, Bool, true, false, List, length, get_or}
use Rattle.std.proofs.Common.{slice_set, bit_and, bit_or, w64, refl, sym, ap, ◌∙◌, inl, inr, arith, max}
use Rattle.std.specs.Int.{bit_at}
use Rattle.std.proofs.lemmas.Bool.{cases_eq, ne_eqb, eq-eqb}
use Rattle.std.proofs.lemmas.List.{get_or-set_other, get_or-set_same}
use Rattle.std.proofs.lemmas.Nat.{and_le_l}
use Rattle.std.proofs.lemmas.Nat.Bits.{bit_at_set_same, bit_at_set_other, bit_at_clear_same, bit_at_clear_other, bit_at_or, bit_at-zero, bit_at-lt}
use Rattle.pass_liveness.specs.Sets.{has_bit}

-- ---- one word changed

at_same : (words : List ℕ) (k w i : ℕ) → k < length words → i / 64 ≡ k → has_bit (slice_set words k w) i ≡ nat_eq (bit_at w (i % 64)) 1
at_same words k w i l e =
    ap (λ (x : ℕ). nat_eq (bit_at x (i % 64)) 1) (ap (λ (j : ℕ). get_or (slice_set words k w) j 0) e ∙ get_or-set_same words k w 0 l)

at_other : (words : List ℕ) (k w i : ℕ) → (i / 64 ≡ k → ⊥) → has_bit (slice_set words k w) i ≡ has_bit words i
at_other words k w i ne = ap (λ (x : ℕ). nat_eq (bit_at x (i % 64)) 1) (get_or-set_other words k (i / 64) w 0 ne)

at_word : (words : List ℕ) (k i : ℕ) → i / 64 ≡ k → nat_eq (bit_at (get_or words k 0) (i % 64)) 1 ≡ has_bit words i
at_word words k i e = ap (λ (j : ℕ). nat_eq (bit_at (get_or words j 0) (i % 64)) 1) (sym e)

one_bit : (b i : ℕ) → i / 64 ≡ b / 64 → i % 64 ≡ b % 64 → b ≡ i
one_bit b i e f = omega arith

other_bit : (b i : ℕ) → (i / 64 ≡ b / 64 → ⊥) → b ≡ i → ⊥
other_bit b i ne e = ne (ap (λ (j : ℕ). j / 64) (sym e))

other_rest : (b i : ℕ) → (i % 64 ≡ b % 64 → ⊥) → b ≡ i → ⊥
other_rest b i ne e = ne (ap (λ (j : ℕ). j % 64) (sym e))

or_false : (a : Bool) → (false || a) ≡ a
or_false a = refl

and_true : (a : Bool) → (a && true) ≡ a
and_true true = refl
and_true false = refl

and_false : (a : Bool) → (a && false) ≡ false
and_false true = refl
and_false false = refl

module _ (words : List ℕ) (b : ℕ) (l : b / 64 < length words) where
  w : ℕ
  w = get_or words (b / 64) 0

  within : b % 64 < 64
  within = omega arith

  -- a bit is set
  pub bit_set : (i : ℕ) → has_bit (slice_set words (b / 64) (bit_or (get_or words (b / 64) 0) (1 * 2 ^ (b % 64) % 18446744073709551616))) i
      ≡ (nat_eq b i || has_bit words i)
  bit_set i = by_word (cases_eq (i / 64) (b / 64)) where
    v : ℕ
    v = bit_or (get_or words (b / 64) 0) (1 * 2 ^ (b % 64) % 18446744073709551616)

    by_bit : i / 64 ≡ b / 64 → (i % 64 ≡ b % 64) ⊎ (i % 64 ≡ b % 64 → ⊥) → has_bit (slice_set words (b / 64) v) i ≡ (nat_eq b i || has_bit words i)
    by_bit e (inl f) =
        at_same words (b / 64) v i l e
        ∙ (ap (λ (j : ℕ). nat_eq (bit_at v j) 1) f
        ∙ (ap (λ (x : ℕ). nat_eq x 1) (bit_at_set_same w64 (get_or words (b / 64) 0) (b % 64) within)
        ∙ sym (ap (λ (t : Bool). t || has_bit words i) (eq-eqb b i (one_bit b i e f)))))
    by_bit e (inr ne) =
        at_same words (b / 64) v i l e
        ∙ (ap (λ (x : ℕ). nat_eq x 1) (bit_at_set_other w64 (get_or words (b / 64) 0) (b % 64) within (i % 64) ne)
        ∙ (at_word words (b / 64) i e
        ∙ sym (ap (λ (t : Bool). t || has_bit words i) (ne_eqb b i (other_rest b i ne)))))

    by_word : (i / 64 ≡ b / 64) ⊎ (i / 64 ≡ b / 64 → ⊥) → has_bit (slice_set words (b / 64) v) i ≡ (nat_eq b i || has_bit words i)
    by_word (inl e) = by_bit e (cases_eq (i % 64) (b % 64))
    by_word (inr ne) = at_other words (b / 64) v i ne ∙ sym (ap (λ (t : Bool). t || has_bit words i) (ne_eqb b i (other_bit b i ne)))

  -- a bit is cleared
  pub bit_cleared : (i : ℕ) →
      has_bit (slice_set words (b / 64) (bit_and (get_or words (b / 64) 0) (18446744073709551615 - 1 * 2 ^ (b % 64) % 18446744073709551616))) i
      ≡ (has_bit words i && not (nat_eq b i))
  bit_cleared i = by_word (cases_eq (i / 64) (b / 64)) where
    v : ℕ
    v = bit_and (get_or words (b / 64) 0) (18446744073709551615 - 1 * 2 ^ (b % 64) % 18446744073709551616)

    by_bit : i / 64 ≡ b / 64 → (i % 64 ≡ b % 64) ⊎ (i % 64 ≡ b % 64 → ⊥) → has_bit (slice_set words (b / 64) v) i ≡ (has_bit words i && not (nat_eq b i))
    by_bit e (inl f) =
        at_same words (b / 64) v i l e
        ∙ (ap (λ (j : ℕ). nat_eq (bit_at v j) 1) f
        ∙ (ap (λ (x : ℕ). nat_eq x 1) (bit_at_clear_same w64 (get_or words (b / 64) 0) (b % 64) within)
        ∙ (sym (and_false (has_bit words i))
        ∙ sym (ap (λ (t : Bool). has_bit words i && not t) (eq-eqb b i (one_bit b i e f))))))
    by_bit e (inr ne) =
        at_same words (b / 64) v i l e
        ∙ (ap (λ (x : ℕ). nat_eq x 1) (bit_at_clear_other w64 (get_or words (b / 64) 0) (b % 64) within (i % 64) (omega arith) ne)
        ∙ (at_word words (b / 64) i e
        ∙ (sym (and_true (has_bit words i))
        ∙ sym (ap (λ (t : Bool). has_bit words i && not t) (ne_eqb b i (other_rest b i ne))))))

    by_word : (i / 64 ≡ b / 64) ⊎ (i / 64 ≡ b / 64 → ⊥) → has_bit (slice_set words (b / 64) v) i ≡ (has_bit words i && not (nat_eq b i))
    by_word (inl e) = by_bit e (cases_eq (i % 64) (b % 64))
    by_word (inr ne) = at_other words (b / 64) v i ne
        ∙ (sym (and_true (has_bit words i)) ∙ sym (ap (λ (t : Bool). has_bit words i && not t) (ne_eqb b i (other_bit b i ne))))

-- a word that is 0 stays 0 where a bit is cleared
pub zero_stays : (words : List ℕ) (at mask k : ℕ) → at < length words → get_or words k 0 ≡ 0 →
    get_or (slice_set words at (bit_and (get_or words at 0) mask)) k 0 ≡ 0
zero_stays words at mask k l z = by_index (cases_eq k at) where
  v : ℕ
  v = bit_and (get_or words at 0) mask

  by_index : (k ≡ at) ⊎ (k ≡ at → ⊥) → get_or (slice_set words at v) k 0 ≡ 0
  by_index (inl e) =
      let here : get_or (slice_set words at v) k 0 ≡ v = ap (λ (j : ℕ). get_or (slice_set words at v) j 0) e ∙ get_or-set_same words at v 0 l in
      let old : get_or words at 0 ≡ 0 = ap (λ (j : ℕ). get_or words j 0) (sym e) ∙ z in
      let least : v ≤ get_or words at 0 = and_le_l (get_or words at 0) mask in
      omega arith
  by_index (inr other) = get_or-set_other words at k v 0 other ∙ z

-- ---- all words together

max_is_one : (a b : ℕ) → a < 2 → b < 2 → nat_eq (max a b) 1 ≡ (nat_eq a 1 || nat_eq b 1)
max_is_one zero zero l m = refl
max_is_one zero (suc zero) l m = refl
max_is_one zero (suc (suc b)) l m = absurd (omega arith)
max_is_one (suc zero) zero l m = refl
max_is_one (suc zero) (suc zero) l m = refl
max_is_one (suc zero) (suc (suc b)) l m = absurd (omega arith)
max_is_one (suc (suc a)) b l m = absurd (omega arith)

-- a word is that of two together
pub bits_of_both : (all old others : List ℕ) (i : ℕ) → get_or all (i / 64) 0 ≡ bit_or (get_or old (i / 64) 0) (get_or others (i / 64) 0) →
    has_bit all i ≡ (has_bit old i || has_bit others i)
bits_of_both all old others i e =
    let a = get_or old (i / 64) 0 in
    let b = get_or others (i / 64) 0 in
    ap (λ (x : ℕ). nat_eq (bit_at x (i % 64)) 1) e
    ∙ (ap (λ (x : ℕ). nat_eq x 1) (bit_at_or a b (i % 64))
    ∙ max_is_one (bit_at a (i % 64)) (bit_at b (i % 64)) (bit_at-lt a (i % 64)) (bit_at-lt b (i % 64)))

-- no bit is set past the words, nor in a word that is 0
pub no_bit : (words : List ℕ) (i : ℕ) → get_or words (i / 64) 0 ≡ 0 → has_bit words i ≡ false
no_bit words i e = ap (λ (x : ℕ). nat_eq (bit_at x (i % 64)) 1) e ∙ ap (λ (x : ℕ). nat_eq x 1) (bit_at-zero (i % 64))
