-- Code with a number gives its pairs one operand after the other.
use Rattle.std.proofs.Common.{◌≡◌, ℕ, ◌+◌, ◌<◌, ◌≤◌, List, length, Option, Some, None, Bool, true, false, cond, refl, sym, ap, ◌∙◌, inl, inr, arith, get_or}
use Rattle.std.specs.Prelude.{nat_eq, nat_lt, ◌&&◌, slice_get}
use Rattle.std.proofs.lemmas.Bool.{cases_eq, cases_lt, eq-eqb, ne_eqb, lt-ltb, le-ltb}
use Rattle.std.proofs.lemmas.Option.{slice_get-get_or, slice_get_past}
use Rattle.rv64_instr.specs.declared.operand.Operand.{Operand}
use Rattle.sem_mir.specs.State.{Core, content, updated}
use Rattle.sem_mir.specs.Step.{defined, given, numbered}
use Rattle.sem_interpreter.specs.StandsFor.{PairsHold}

-- the pairs once the operands below an index have given theirs
abbrev pub given_below : Bool → ℕ → List Operand → ℕ → Core → ℕ → ℕ → Option ℕ
given_below call k operands i s q o = cond (nat_eq q k && nat_lt o i) (given true (defined call (slice_get operands o)) (s.pairs q o) s) (s.pairs q o)

-- pairs that agree hold alike
pub pairs_alike : (es : List ((ℕ × ℕ) × Option ℕ)) (f g : ℕ → ℕ → Option ℕ) → ((q o : ℕ) → f q o ≡ g q o) → PairsHold es f → PairsHold es g
pairs_alike es f g same holds q o = sym (same q o) ∙ holds q o

-- an operand that defines nothing
pub below_skips : (call : Bool) (k : ℕ) (operands : List Operand) (i : ℕ) (d : Operand) (s : Core) → i < length operands →
    None ≡ defined call (Some (get_or operands i d)) →
    (q o : ℕ) → given_below call k operands i s q o ≡ given_below call k operands (i + 1) s q o
below_skips call k operands i d s lt none q o =
    elim (cases_eq o i) [
      | inl e ↦
          let here : slice_get operands o ≡ Some (get_or operands i d) = ap (slice_get operands) e ∙ slice_get-get_or operands i d lt in
          let nothing : given true (defined call (slice_get operands o)) (s.pairs q o) s ≡ s.pairs q o = ap
          (λ x. given true (defined call x) (s.pairs q o) s) here ∙ sym (ap (λ x. given true x (s.pairs q o) s) none) in
          either (nat_eq q k && nat_lt o i) (given true (defined call (slice_get operands o)) (s.pairs q o) s) (s.pairs q o) nothing
          ∙ sym (either (nat_eq q k && nat_lt o (i + 1)) (given true (defined call (slice_get operands o)) (s.pairs q o) s) (s.pairs q o) nothing)
      | inr ne ↦
          ap (λ (b : Bool). cond (nat_eq q k && b) (given true (defined call (slice_get operands o)) (s.pairs q o) s) (s.pairs q o)) (next o i ne)
    ]
  where
    either : (b : Bool) (x y : Option ℕ) → x ≡ y → cond b x y ≡ y
    either true x y e = e
    either false x y e = refl

    next : (o i : ℕ) → (o ≡ i → ⊥) → nat_lt o i ≡ nat_lt o (i + 1)
    next o i ne =
        elim (cases_lt o i) [ inl lt ↦ lt-ltb o i lt ∙ sym (lt-ltb o (i + 1) (omega arith)) | inr le ↦ le-ltb o i le ∙ sym (le-ltb o (i + 1) (omega arith)) ]

-- an operand that defines a register
pub below_gives : (call : Bool) (k : ℕ) (operands : List Operand) (i : ℕ) (d : Operand) (r : ℕ) (s : Core) → i < length operands →
    Some r ≡ defined call (Some (get_or operands i d)) →
    (q o : ℕ) → updated k (updated i (content s.regs r) (given_below call k operands i s k))
    (given_below call k operands i s) q o ≡ given_below call k operands (i + 1) s q o
below_gives call k operands i d r s lt some q o =
    elim (cases_eq q k) [
      | inl e ↦
          ap (λ (b : Bool). cond b (updated i (content s.regs r) (given_below call k operands i s k)) (given_below call k operands i s q) o) (eq-eqb q k e) ∙
          (elim (cases_eq o i) [
            | inl h ↦
                let here : slice_get operands o ≡ Some (get_or operands i d) = ap (slice_get operands) h ∙ slice_get-get_or operands i d lt in
                ap (λ (b : Bool). cond b (content s.regs r) (given_below call k operands i s k o)) (eq-eqb o i h)
                ∙ ap (λ x. given true x (s.pairs q o) s) (some ∙ sym (ap (defined call) here))
                ∙ sym (λ j. cond (eq-eqb q k e j && lt-ltb o (i + 1) (omega arith) j) (given true (defined call (slice_get operands o)) (s.pairs q o) s)
                (s.pairs q o))
            | inr ne ↦
                ap (λ (b : Bool). cond b (content s.regs r) (given_below call k operands i s k o)) (ne_eqb o i ne)
                ∙ ap (λ (l : ℕ). given_below call k operands i s l o) (sym e)
                ∙ ap (λ (b : Bool). cond (nat_eq q k && b) (given true (defined call (slice_get operands o)) (s.pairs q o) s) (s.pairs q o)) (next o i ne)
          ])
      | inr ne ↦
          ap (λ (b : Bool). cond b (updated i (content s.regs r) (given_below call k operands i s k)) (given_below call k operands i s q) o) (ne_eqb q k ne)
          ∙ ap (λ (b : Bool). cond (b && nat_lt o i) (given true (defined call (slice_get operands o)) (s.pairs q o) s) (s.pairs q o)) (ne_eqb q k ne)
          ∙ sym (ap (λ (b : Bool). cond (b && nat_lt o (i + 1)) (given true (defined call (slice_get operands o)) (s.pairs q o) s) (s.pairs q o))
          (ne_eqb q k ne))
    ]
  where
    next : (o i : ℕ) → (o ≡ i → ⊥) → nat_lt o i ≡ nat_lt o (i + 1)
    next o i ne =
        elim (cases_lt o i) [ inl lt ↦ lt-ltb o i lt ∙ sym (lt-ltb o (i + 1) (omega arith)) | inr le ↦ le-ltb o i le ∙ sym (le-ltb o (i + 1) (omega arith)) ]

-- all operands have given theirs
pub below_all : (call : Bool) (k : ℕ) (operands : List Operand) (i : ℕ) (s : Core) → length operands ≤ i → (q o : ℕ) →
    given_below call k operands i s q o ≡ (numbered true call (Some k) operands s).pairs q o
below_all call k operands i s le q o =
    elim (cases_eq q k) [
      | inl e ↦
          (elim (cases_lt o i) [
            | inl lt ↦ (λ j. cond (eq-eqb q k e j && lt-ltb o i lt j) (given true (defined call (slice_get operands o)) (s.pairs q o) s) (s.pairs q o))
            | inr ge ↦
                let past : slice_get operands o ≡ None = slice_get_past operands o (omega arith) in
                (λ j. cond (eq-eqb q k e j && le-ltb o i ge j) (given true (defined call (slice_get operands o)) (s.pairs q o) s) (s.pairs q o))
                ∙ sym (ap (λ x. given true (defined call x) (s.pairs q o) s) past)
          ])
          ∙ ap (λ (l : ℕ). given true (defined call (slice_get operands o)) (s.pairs l o) s) e
          ∙ sym (ap (λ (b : Bool). cond b (λ p. given true (defined call (slice_get operands p)) (s.pairs k p) s) (s.pairs q) o) (eq-eqb q k e))
      | inr ne ↦
          ap (λ (b : Bool). cond (b && nat_lt o i) (given true (defined call (slice_get operands o)) (s.pairs q o) s) (s.pairs q o)) (ne_eqb q k ne)
          ∙ sym (ap (λ (b : Bool). cond b (λ p. given true (defined call (slice_get operands p)) (s.pairs k p) s) (s.pairs q) o) (ne_eqb q k ne))
    ]
