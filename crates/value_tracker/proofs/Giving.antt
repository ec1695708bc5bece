-- A loop over operands gives pairs their registers' classes.
use Rattle.std.proofs.Common.{◌≡◌, ℕ, ◌+◌, ◌<◌, ◌≤◌, List, length, get_or, arith, refl, sym, ◌∙◌, ap, inl, inr, eq-eqb, ne_eqb}
use Rattle.std.specs.Prelude.{Option, Some, None, Bool, true, false, cond, ◌&&◌, nat_eq, nat_lt, slice_get}
use Rattle.std.proofs.lemmas.Bool.Decides.{nat_tests, eqb_tells}
use Rattle.std.proofs.lemmas.Option.{slice_get_past, slice_get_read}
use Rattle.rv64_instr.specs.declared.operand.Operand.{Operand}
use Rattle.mir_substitution.specs.Index.{is_key}
use Rattle.sem_mir.specs.Step.{defined}
use Rattle.value_tracker.specs.LocationTracker.{operand_class}

abbrev pub GivenBelow : (call : Bool) (k : ℕ) (operands : List Operand) (places : List ℕ) (old : ℕ × ℕ → Option ℕ) → ℕ → (ℕ × ℕ → Option ℕ) → Type 0
GivenBelow call k operands places old i new = (m p : ℕ) →
    new (m, p) ≡ cond (nat_eq k m && nat_lt p i) (operand_class places (defined call (slice_get operands p)) (old (m, p))) (old (m, p))

and_false : (b : Bool) → (b && false) ≡ false
and_false true = refl
and_false false = refl

and_true : (b : Bool) → (b && true) ≡ b
and_true true = refl
and_true false = refl

module _ (call : Bool) (k : ℕ) (operands : List Operand) (places : List ℕ) (old : ℕ × ℕ → Option ℕ) where
  pub given_more : (i : ℕ) (operand : Operand) (now new : ℕ × ℕ → Option ℕ) → i < length operands → operand ≡ get_or operands i operand →
      GivenBelow call k operands places old i now →
      ((q : ℕ × ℕ) → new q ≡ cond (is_key (k, i) q) (operand_class places (defined call (Some operand)) (now q)) (now q)) →
      GivenBelow call k operands places old (i + 1) new
  given_more i operand now new within is below step m p = elim (eqb_tells p i) [
    | inl h ↦ at_this h.1
    | inr h ↦
        let off : is_key (k, i) (m, p) ≡ false = ap (λ (z : Bool). nat_eq k m && z) (ne_eqb i p (λ e. h.1 (sym e))) ∙ and_false (nat_eq k m) in
        step (m, p) ∙ (ap (λ (z : Bool). cond z (operand_class places (defined call (Some operand)) (now (m, p))) (now (m, p))) off
        ∙ (below m p ∙ ap (λ (z : Bool). cond (nat_eq k m && z) (operand_class places (defined call (slice_get operands p)) (old (m, p))) (old (m, p)))
        (other p h.1)))
  ] where
    other : (p : ℕ) → (p ≡ i → ⊥) → nat_lt p i ≡ nat_lt p (i + 1)
    other p ne = grind (arith, nat_tests)

    item : slice_get operands i ≡ Some operand
    item = slice_get_read operands (length operands) i operand refl within is

    at_this : p ≡ i → new (m, p) ≡ cond (nat_eq k m && nat_lt p (i + 1)) (operand_class places (defined call (slice_get operands p)) (old (m, p))) (old (m, p))
    at_this e =
        let on : nat_lt p (i + 1) ≡ true = grind (arith, nat_tests, e) in
        let was : nat_lt p i ≡ false = grind (arith, nat_tests, e) in
        let key : is_key (k, i) (m, p) ≡ nat_eq k m = ap (λ (z : Bool). nat_eq k m && z) (eq-eqb i p (sym e)) ∙ and_true (nat_eq k m) in
        let before : now (m, p) ≡ old (m, p) = below m p ∙ ap (λ (z : Bool). cond z (operand_class places (defined call (slice_get operands p)) (old
        (m, p))) (old (m, p)))
        (ap (λ (z : Bool). nat_eq k m && z) was ∙ and_false (nat_eq k m)) in
        let at_operand : Some operand ≡ slice_get operands p = sym item ∙ ap (slice_get operands) (sym e) in
        step (m, p) ∙ (ap (λ (z : Bool). cond z (operand_class places (defined call (Some operand)) (now (m, p))) (now (m, p))) key
        ∙ (ap (λ (z : Option ℕ). cond (nat_eq k m) (operand_class places (defined call (Some operand)) z) z) before
        ∙ (ap (λ (z : Option Operand). cond (nat_eq k m) (operand_class places (defined call z) (old (m, p))) (old (m, p))) at_operand
        ∙ ap (λ (z : Bool). cond z (operand_class places (defined call (slice_get operands p)) (old (m, p))) (old (m, p)))
        (sym (ap (λ (z : Bool). nat_eq k m && z) on ∙ and_true (nat_eq k m))))))

  pub given_all : (i : ℕ) (now : ℕ × ℕ → Option ℕ) → length operands ≤ i → GivenBelow call k operands places old i now →
      (m p : ℕ) → now (m, p) ≡ cond (nat_eq k m) (operand_class places (defined call (slice_get operands p)) (old (m, p))) (old (m, p))
  given_all i now end below m p = below m p ∙ by_test (nat_lt p i) refl where
    nothing : (x : Option Operand) (b : Bool) → x ≡ None → old (m, p) ≡ cond b (operand_class places (defined call x) (old (m, p))) (old (m, p))
    nothing None true e = refl
    nothing None false e = refl
    nothing (Some x) b e = cc

    by_test : (b : Bool) → nat_lt p i ≡ b →
        cond (nat_eq k m && b) (operand_class places (defined call (slice_get operands p)) (old (m, p))) (old (m, p))
        ≡ cond (nat_eq k m) (operand_class places (defined call (slice_get operands p)) (old (m, p))) (old (m, p))
    by_test true e = ap (λ (z : Bool). cond z (operand_class places (defined call (slice_get operands p)) (old (m, p))) (old (m, p))) (and_true (nat_eq k m))
    by_test false e =
        let le : length operands ≤ p = grind (arith, nat_tests, e, end) in
        ap (λ (z : Bool). cond z (operand_class places (defined call (slice_get operands p)) (old (m, p))) (old (m, p))) (and_false (nat_eq k m))
        ∙ nothing (slice_get operands p) (nat_eq k m) (slice_get_past operands p le)
