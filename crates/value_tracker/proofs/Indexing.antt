-- An index gets one more thing.
use Rattle.std.proofs.Common.{◌≡◌, ℕ, ◌+◌, ◌<◌, List, arith, refl, sym, ◌∙◌, ap, subst, inl, inr, eqb-true, eq-eqb}
use Rattle.std.specs.Prelude.{Option, Some, IsSome, Bool, true, false, cond, nat_eq, slice_get}
use Rattle.std.specs.HashMap.{get}
use Rattle.std.proofs.lemmas.Bool.{and_parts, and_from}
use Rattle.std.proofs.lemmas.Bool.Decides.{eqb_tells}
use Rattle.mir_func.specs.declared.debug_substitution.OperandPair.{OperandPair}
use Rattle.mir_substitution.specs.Index.{is_key}
use Rattle.value_solver.specs.declared.tracked.Tracked.{Tracked}
use Rattle.value_solver.specs.declared.tracked.Tracked.TheVariants.{Pair, Number}
use Rattle.value_tracker.specs.declared.index.TrackedIndex.{TrackedIndex}
use Rattle.value_tracker.specs.Things.{IndexesBelow}

pair_of : {p q : OperandPair} → Some (Pair p) ≡ Some (Pair q) → p ≡ q
pair_of e = cc

some_if : (b : Bool) (i : ℕ) (o : Option ℕ) → IsSome o → IsSome (cond b (Some i) o)
some_if true i o h = refl
some_if false i o h = h

module _ (things : List Tracked) (i : ℕ) (old new : TrackedIndex) where
  -- a thing that the index needs not find
  pub index_other : (x : Tracked) → slice_get things i ≡ Some x → ((c : ℕ) → x ≡ Number c → ⊥) → ((k o : ℕ) → x ≡ Pair (record { number = k; operand = o }) →
      ⊥) →
      ((c : ℕ) → get nat_eq new.numbers c ≡ get nat_eq old.numbers c) → ((q : ℕ × ℕ) → get is_key new.pairs q ≡ get is_key old.pairs q) →
      IndexesBelow i things old → IndexesBelow (i + 1) things new
  index_other x at no_number no_pair numbers pairs are = record {
    numbers = λ c j e. let h = are.numbers c j (sym (numbers c) ∙ e) in (omega (arith, h.0), h.1);
    each_number = λ c j lt e. subst IsSome (sym (numbers c)) (are.each_number c j (below j lt (λ is. no_number c (is_thing j is (Number c) e))) e);
    pairs = λ k o j e. let h = are.pairs k o j (sym (pairs (k, o)) ∙ e) in (omega (arith, h.0), h.1);
    each_pair = λ k o j lt e. subst IsSome (sym (pairs (k, o)))
        (are.each_pair k o j (below j lt (λ is. no_pair k o (is_thing j is (Pair (record { number = k; operand = o })) e))) e);
  } where
    below : (j : ℕ) → j < i + 1 → (j ≡ i → ⊥) → j < i
    below j lt ne = omega (arith, lt, ne)

    is_thing : (j : ℕ) → j ≡ i → (y : Tracked) → slice_get things j ≡ Some y → x ≡ y
    is_thing j is y e = let both : Some x ≡ Some y = sym at ∙ (ap (slice_get things) (sym is) ∙ e) in cc

  pub index_number : (c : ℕ) → slice_get things i ≡ Some (Number c) →
      ((q : ℕ) → get nat_eq new.numbers q ≡ cond (nat_eq c q) (Some i) (get nat_eq old.numbers q)) → ((q : ℕ × ℕ) →
      get is_key new.pairs q ≡ get is_key old.pairs q) →
      IndexesBelow i things old → IndexesBelow (i + 1) things new
  index_number c at numbers pairs are = record {
    numbers = λ q j e. found q j (sym (numbers q) ∙ e);
    each_number = λ q j lt e. subst IsSome (sym (numbers q)) (each q j lt e);
    pairs = λ k o j e. let h = are.pairs k o j (sym (pairs (k, o)) ∙ e) in (omega (arith, h.0), h.1);
    each_pair = λ k o j lt e. subst IsSome (sym (pairs (k, o))) (are.each_pair k o j (before k o j lt e) e);
  } where
    found : (q j : ℕ) → cond (nat_eq c q) (Some i) (get nat_eq old.numbers q) ≡ Some j → (j < i + 1) × (slice_get things j ≡ Some (Number q))
    found q j e = elim (eqb_tells c q) [
      | inl h ↦ let is : Some i ≡ Some j = subst (λ (z : Bool). cond z (Some i) (get nat_eq old.numbers q) ≡ Some j) h.0 e in
          let same : i ≡ j = cc in
          (omega (arith, same), ap (slice_get things) (sym same) ∙ (at ∙ ap (λ (z : ℕ). Some (Number z)) h.1))
      | inr h ↦ let k = are.numbers q j (subst (λ (z : Bool). cond z (Some i) (get nat_eq old.numbers q) ≡ Some j) h.0 e) in (omega (arith, k.0), k.1)
    ]

    each : (q j : ℕ) → j < i + 1 → slice_get things j ≡ Some (Number q) → IsSome (cond (nat_eq c q) (Some i) (get nat_eq old.numbers q))
    each q j lt e = elim (eqb_tells c q) [
      | inl h ↦ subst (λ (z : Bool). IsSome (cond z (Some i) (get nat_eq old.numbers q))) (sym h.0) refl
      | inr h ↦ some_if (nat_eq c q) i (get nat_eq old.numbers q) (are.each_number q j (apart q j lt e h.1) e)
    ] where
      apart : (q j : ℕ) → j < i + 1 → slice_get things j ≡ Some (Number q) → (c ≡ q → ⊥) → j < i
      apart q j lt e ne = elim (eqb_tells j i) [
        | inl h ↦ absurd (ne (let both : Some (Number c) ≡ Some (Number q) = sym at ∙ (ap (slice_get things) (sym h.1) ∙ e) in cc))
        | inr h ↦ omega (arith, lt, h.1)
      ]

    before : (k o j : ℕ) → j < i + 1 → slice_get things j ≡ Some (Pair (record { number = k; operand = o })) → j < i
    before k o j lt e = elim (eqb_tells j i) [
      | inl h ↦ absurd (let both : Some (Number c) ≡ Some (Pair (record { number = k; operand = o })) = sym at ∙ (ap (slice_get things) (sym h.1) ∙ e) in cc)
      | inr h ↦ omega (arith, lt, h.1)
    ]

  pub index_pair : (k o : ℕ) → slice_get things i ≡ Some (Pair (record { number = k; operand = o })) →
      ((c : ℕ) → get nat_eq new.numbers c ≡ get nat_eq old.numbers c) →
      ((q : ℕ × ℕ) → get is_key new.pairs q ≡ cond (is_key (k, o) q) (Some i) (get is_key old.pairs q)) →
      IndexesBelow i things old → IndexesBelow (i + 1) things new
  index_pair k o at numbers pairs are = record {
    numbers = λ c j e. let h = are.numbers c j (sym (numbers c) ∙ e) in (omega (arith, h.0), h.1);
    each_number = λ c j lt e. subst IsSome (sym (numbers c)) (are.each_number c j (before c j lt e) e);
    pairs = λ m p j e. found m p j (is_key (k, o) (m, p)) refl (sym (pairs (m, p)) ∙ e);
    each_pair = λ m p j lt e. subst IsSome (sym (pairs (m, p))) (each m p j lt e (is_key (k, o) (m, p)) refl);
  } where
    same_key : (m p : ℕ) → is_key (k, o) (m, p) ≡ true → (k ≡ m) × (o ≡ p)
    same_key m p e = let both = and_parts (nat_eq k m) (nat_eq o p) e in (eqb-true k m both.0, eqb-true o p both.1)

    is_same_key : (m p : ℕ) → k ≡ m → o ≡ p → is_key (k, o) (m, p) ≡ true
    is_same_key m p e f = and_from (nat_eq k m) (nat_eq o p) (eq-eqb k m e) (eq-eqb o p f)

    found : (m p j : ℕ) (b : Bool) → is_key (k, o) (m, p) ≡ b → cond b (Some i) (get is_key old.pairs (m, p)) ≡ Some j →
        (j < i + 1) × (slice_get things j ≡ Some (Pair (record { number = m; operand = p })))
    found m p j true at_key e =
        let same : i ≡ j = cc in
        let h = same_key m p at_key in
        (omega (arith, same), ap (slice_get things) (sym same) ∙ (at ∙ (λ z. Some (Pair (record { number = h.0 z; operand = h.1 z })))))
    found m p j false at_key e = let h = are.pairs m p j e in (omega (arith, h.0), h.1)

    each : (m p j : ℕ) → j < i + 1 → slice_get things j ≡ Some (Pair (record { number = m; operand = p })) → (b : Bool) → is_key (k, o) (m, p) ≡ b →
        IsSome (cond b (Some i) (get is_key old.pairs (m, p)))
    each m p j lt e true at_key = refl
    each m p j lt e false at_key = are.each_pair m p j (apart m p j lt e at_key) e where
      apart : (m p j : ℕ) → j < i + 1 → slice_get things j ≡ Some (Pair (record { number = m; operand = p })) → is_key (k, o) (m, p) ≡ false → j < i
      apart m p j lt e off = elim (eqb_tells j i) [
        | inl h ↦ absurd (
            let both : Some (Pair (record { number = k; operand = o })) ≡ Some (Pair (record { number = m; operand = p })) =
            sym at ∙ (ap (slice_get things) (sym h.1) ∙ e) in
            let pair : record { number = k; operand = o } ≡ record { number = m; operand = p } = pair_of both in
            let on : is_key (k, o) (m, p) ≡ true = is_same_key m p (ap (λ (z : OperandPair). z.number) pair) (ap (λ (z : OperandPair). z.operand) pair) in
            cc)
        | inr h ↦ omega (arith, lt, h.1)
      ]

    before : (c j : ℕ) → j < i + 1 → slice_get things j ≡ Some (Number c) → j < i
    before c j lt e = elim (eqb_tells j i) [
      | inl h ↦ absurd (let both : Some (Pair (record { number = k; operand = o })) ≡ Some (Number c) = sym at ∙ (ap (slice_get things) (sym h.1) ∙ e) in cc)
      | inr h ↦ omega (arith, lt, h.1)
    ]
