-- Places in sets: one added, one taken out.
use Rattle.std.proofs.Common.{◌≡◌, ◌⊎◌, ℕ, zero, suc, ◌+◌, ◌/◌, ◌%◌, ◌<◌, ◌≤◌, Bool, true, false, ◌||◌, ◌&&◌, not, List, [], ◌∷◌, length, get_or}
use Rattle.std.proofs.Common.{nat_eq, Option, Some, None}
use Rattle.std.proofs.Common.{refl, sym, ap, ◌∙◌, inl, inr, arith}
use Rattle.std.specs.Int.{bit_at}
use Rattle.std.proofs.lemmas.Nat.Bits.{bit_at-zero}
use Rattle.std.proofs.lemmas.Bool.{cases_eq, ne_eqb, eq-eqb}
use Rattle.rv64_instr.specs.declared.place.Place.{Place}
use Rattle.rv64_instr.specs.declared.place.Place.TheVariants.{Register, Slot, Const}
use Rattle.mir_func.specs.Sound.{PlaceIn}
use Rattle.pass_liveness.specs.Index.{index_in}
use Rattle.pass_liveness.specs.Sets.{bit_of, has_bit, has_at, has, is_place}
use Rattle.pass_liveness.proofs.Indices.{index_is, index_there}

pub and_true : (a : Bool) → (a && true) ≡ a
and_true true = refl
and_true false = refl

pub and_false : (a : Bool) → (a && false) ≡ false
and_false true = refl
and_false false = refl

pub or_false : (a : Bool) → (a || false) ≡ a
or_false true = refl
or_false false = refl

shifted : (r s : ℕ) → nat_eq (256 + s) (256 + r) ≡ nat_eq r s
shifted r s = by_case (cases_eq r s) where
  by_case : (r ≡ s) ⊎ (r ≡ s → ⊥) → nat_eq (256 + s) (256 + r) ≡ nat_eq r s
  by_case (inl e) = eq-eqb (256 + s) (256 + r) (omega arith) ∙ sym (eq-eqb r s e)
  by_case (inr ne) = ne_eqb (256 + s) (256 + r) (λ e. ne (omega arith)) ∙ sym (ne_eqb r s ne)

module _ (slots : List ℕ) (few : length slots ≤ 256) where
  far : (n r i : ℕ) → index_in slots n ≡ Some i → i ≡ 256 + r → ⊥
  far n r i e f = let h = index_is slots n i e in let l : i < length slots = h.0 in omega arith

  -- two places have one bit exactly where they are one
  same_bit : (x p : Place) (i bit : ℕ) → bit_of slots x ≡ Some i → bit_of slots p ≡ Some bit → nat_eq bit i ≡ is_place x (Some p)
  same_bit (Register r) (Register s) i bit e f =
      let a : i ≡ 256 + r = cc in
      let b : bit ≡ 256 + s = cc in
      ap (λ (k : ℕ). nat_eq k i) b ∙ (ap (nat_eq (256 + s)) a ∙ shifted r s)
  same_bit (Register r) (Slot m) i bit e f = let a : i ≡ 256 + r = cc in ne_eqb bit i (λ k. far m r bit f (k ∙ a))
  same_bit (Register r) (Const c) i bit e f = absurd cc
  same_bit (Slot n) (Register s) i bit e f = let b : bit ≡ 256 + s = cc in ne_eqb bit i (λ k. far n s i e (sym k ∙ b))
  same_bit (Slot n) (Slot m) i bit e f = by_case (cases_eq m n) where
    by_case : (m ≡ n) ⊎ (m ≡ n → ⊥) → nat_eq bit i ≡ nat_eq m n
    by_case (inl s) =
        let k : bit ≡ i = cc in
        eq-eqb bit i k ∙ sym (eq-eqb m n s)
    by_case (inr ne) =
        let a = index_is slots n i e in
        let b = index_is slots m bit f in
        ne_eqb bit i (λ k. ne (sym b.1 ∙ (ap (λ (j : ℕ). get_or slots j 0) k ∙ a.1))) ∙ sym (ne_eqb m n ne)
  same_bit (Slot n) (Const c) i bit e f = absurd cc
  same_bit (Const d) p i bit e f = absurd cc

  no_bit : (x p : Place) (bit : ℕ) → bit_of slots x ≡ None → bit_of slots p ≡ Some bit → is_place x (Some p) ≡ false
  no_bit (Register r) p bit e f = absurd cc
  no_bit (Slot n) (Register s) bit e f = refl
  no_bit (Slot n) (Slot m) bit e f = ne_eqb m n (λ s. let k : None ≡ Some bit = sym e ∙ (ap (index_in slots) (sym s) ∙ f) in cc)
  no_bit (Slot n) (Const c) bit e f = refl
  no_bit (Const d) p bit e f = refl

  module _ (old new : List ℕ) (p : Place) (bit : ℕ) (at : bit_of slots p ≡ Some bit) where
    -- a place is added
    pub place_added : ((i : ℕ) → has_bit new i ≡ (nat_eq bit i || has_bit old i)) → (x : Place) → has slots new x ≡ (is_place x (Some p) || has slots old x)
    unfolding has
    place_added h x = by_bit (bit_of slots x) refl where
      by_bit : (o : Option ℕ) → bit_of slots x ≡ o → has_at new o ≡ (is_place x (Some p) || has_at old o)
      by_bit None e = sym (ap (λ (b : Bool). b || false) (no_bit x p bit e at))
      by_bit (Some i) e = h i ∙ ap (λ (b : Bool). b || has_bit old i) (same_bit x p i bit e at)

    -- a place is taken out
    pub place_removed : ((i : ℕ) → has_bit new i ≡ (has_bit old i && not (nat_eq bit i))) → (x : Place) →
        has slots new x ≡ (has slots old x && not (is_place x (Some p)))
    unfolding has
    place_removed h x = by_bit (bit_of slots x) refl where
      by_bit : (o : Option ℕ) → bit_of slots x ≡ o → has_at new o ≡ (has_at old o && not (is_place x (Some p)))
      by_bit None e = refl
      by_bit (Some i) e = h i ∙ ap (λ (b : Bool). has_bit old i && not b) (same_bit x p i bit e at)

-- a place without a bit is in no set
pub placeless : (slots old : List ℕ) (p : Place) → bit_of slots p ≡ None → (x : Place) → has slots old x ≡ (has slots old x && not (is_place x (Some p)))
unfolding has
placeless slots old (Register r) e x = absurd cc
placeless slots old (Slot m) e (Register r) = sym (and_true (has slots old (Register r)))
placeless slots old (Slot m) e (Slot n) = by_case (cases_eq m n) where
  by_case : (m ≡ n) ⊎ (m ≡ n → ⊥) → has_at old (index_in slots n) ≡ (has_at old (index_in slots n) && not (nat_eq m n))
  by_case (inl s) =
      let out : has_at old (index_in slots n) ≡ false = ap (has_at old) (ap (index_in slots) (sym s) ∙ e) in
      out ∙ sym (ap (λ (b : Bool). b && not (nat_eq m n)) out)
  by_case (inr ne) = sym (and_true (has_at old (index_in slots n))) ∙ sym (ap (λ (b : Bool). has_at old (index_in slots n) && not b) (ne_eqb m n ne))
placeless slots old (Slot m) e (Const c) = refl
placeless slots old (Const d) e (Register r) = sym (and_true (has slots old (Register r)))
placeless slots old (Const d) e (Slot n) = sym (and_true (has slots old (Slot n)))
placeless slots old (Const d) e (Const c) = refl

get_or_any : (xs : List ℕ) (k d e : ℕ) → k < length xs → get_or xs k d ≡ get_or xs k e
get_or_any [] k d e l = absurd (omega arith)
get_or_any (x ∷ xs) zero d e l = refl
get_or_any (x ∷ xs) (suc k) d e l = get_or_any xs k d e (omega arith)

-- what is read at a place's bit is whether it is there
pub has_by : (slots words : List ℕ) (p : Place) (o : Option ℕ) → o ≡ bit_of slots p → has_at words o ≡ has slots words p
unfolding has
has_by slots words p o e = ap (has_at words) e

-- a place that is there, and has no bit, is a constant
pub unbitted : (slots old : List ℕ) (p : Place) → bit_of slots p ≡ None → PlaceIn slots (Some p) → (x : Place) →
    has slots old x ≡ (is_place x (Some p) || has slots old x)
unbitted slots old (Register r) e there x = absurd cc
unbitted slots old (Slot m) e there x = let f = index_there slots m there.0 there.1 (get_or_any slots there.0 0 m there.1 ∙ there.2) in absurd cc
unbitted slots old (Const d) e there (Register r) = refl
unbitted slots old (Const d) e there (Slot n) = refl
unbitted slots old (Const d) e there (Const c) = refl

-- two sets together, and the empty one
pub has_united : (slots old other new : List ℕ) → ((i : ℕ) → has_bit new i ≡ (has_bit old i || has_bit other i)) → (x : Place) →
    has slots new x ≡ (has slots old x || has slots other x)
unfolding has
has_united slots old other new h x = by_bit (bit_of slots x) where
  by_bit : (o : Option ℕ) → has_at new o ≡ (has_at old o || has_at other o)
  by_bit None = refl
  by_bit (Some i) = h i

pub has_none : (slots new : List ℕ) → ((i : ℕ) → has_bit new i ≡ false) → (x : Place) → has slots new x ≡ false
unfolding has
has_none slots new h x = by_bit (bit_of slots x) where
  by_bit : (o : Option ℕ) → has_at new o ≡ false
  by_bit None = refl
  by_bit (Some i) = h i

-- nothing is in no words at all
pub has_nothing : (slots : List ℕ) (x : Place) → has slots [] x ≡ false
has_nothing slots x = has_none slots [] (λ i. bare i (i / 64)) x where
  bare : (i k : ℕ) → nat_eq (bit_at (get_or [] k 0) (i % 64)) 1 ≡ false
  bare i k = ap (λ (b : ℕ). nat_eq b 1) (bit_at-zero (i % 64))
