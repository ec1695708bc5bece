-- Registers that pass a test, as a list of them.
use Rattle.std.proofs.Common.{◌≡◌, ◌⊎◌, inl, inr, ℕ, zero, suc, ◌<◌, List, [], ◌∷◌, filter, length, Contains, Bool, true, false, cond, ◌||◌, nat_eq}
use Rattle.std.proofs.Common.{refl, sym, ap, ◌∙◌, subst, arith, eqb-true, eq-eqb, slice_index}
use Rattle.std.proofs.lemmas.Bool.{or_right}
use Rattle.std.specs.Prelude.{Result, Ok, Err, IfOk}
use Rattle.pass_liveness.specs.mir_func.declared.block.Block.{Block}
use Rattle.pass_liveness.specs.mir_func.Sound.{ids_of, LastCloses}
use Rattle.pass_liveness.specs.sem_mir.InitialState.{first_of}
use Rattle.spill_select.specs.Incoming.{is_among}

or_cases : (a b : Bool) → (a || b) ≡ true → (a ≡ true) ⊎ (b ≡ true)
or_cases true b e = inl refl
or_cases false b e = inr e

module _ (p : ℕ → Bool) (r : ℕ) where
  passes_head : (x : ℕ) (xs : List ℕ) (z : Bool) → p x ≡ z → is_among (cond z (x ∷ xs) xs) r ≡ true → (is_among xs r ≡ true → p r ≡ true) → p r ≡ true
  passes_head x xs true h e more =
      elim (or_cases (nat_eq x r) (is_among xs r) e) [ inl k ↦ subst (λ (n : ℕ). p n ≡ true) (eqb-true x r k) h | inr k ↦ more k ]
  passes_head x xs false h e more = more e

  -- what is among those that pass a test passes it
  pub passes : (xs : List ℕ) → is_among (filter p xs) r ≡ true → p r ≡ true
  passes [] e = cc
  passes (x ∷ xs) e = passes_head x (filter p xs) (p x) refl e (passes xs)

  stays_head : (x : ℕ) (xs : List ℕ) (z : Bool) → p x ≡ z → is_among xs r ≡ true → is_among (cond z (x ∷ xs) xs) r ≡ true
  stays_head x xs true h e = or_right (nat_eq x r) (is_among xs r) e
  stays_head x xs false h e = e

  found_head : (x : ℕ) (xs : List ℕ) (z : Bool) → p x ≡ z → x ≡ r → p r ≡ true → is_among (cond z (x ∷ xs) xs) r ≡ true
  found_head x xs true h is e = ap (λ (b : Bool). b || is_among xs r) (eq-eqb x r is)
  found_head x xs false h is e = (let bad : false ≡ true = sym h ∙ ap p is ∙ e in cc)

  -- and what passes it is among them
  pub found : (xs : List ℕ) → Contains xs r → p r ≡ true → is_among (filter p xs) r ≡ true
  found [] (k, lt, is) e = absurd (omega (arith, lt))
  found (x ∷ xs) (zero, lt, is) e = found_head x (filter p xs) (p x) refl is e
  found (x ∷ xs) (suc k, lt, is) e = stays_head x (filter p xs) (p x) refl (found xs (k, omega (arith, lt), is) e)

-- ---- the first block

pub some_block : (bs : List Block) → LastCloses bs → 0 < length bs
some_block [] h = absurd h
some_block (b ∷ bs) h = omega arith

pub first_is : (bs : List Block) → LastCloses bs → slice_index (ids_of bs) 0 ≡ first_of bs
first_is [] h = absurd h
first_is (b ∷ bs) h = refl

-- what follows from what holds of a result
pub if_ok : {T E : Type 0} (r : Result T E) (P Q : T → Type 0) → IfOk r P → ((v : T) → P v → Q v) → IfOk r Q
if_ok (Ok v) P Q h f = f v h
if_ok (Err e) P Q h f = tt
