-- The registers whose place code takes, one after the other.
use Rattle.std.proofs.Common.{◌≡◌, ◌⊎◌, inl, inr, ℕ, ℤ, zero, suc, ◌+◌, ◌-◌, ◌<◌, ◌≤◌, List, [], ◌∷◌, length, slice_index_or, Option, Some, None, is_some}
use Rattle.std.proofs.Common.{Bool, true, false, cond, ◌||◌, ◌&&◌, not, nat_eq, nat_lt, nat_le, refl, sym, ap, ◌∙◌, subst, arith}
use Rattle.std.specs.List.{list_any, list_all}
use Rattle.std.proofs.lemmas.Bool.{cases_eq, cases_lt, eq-eqb, ne_eqb, eqb-true, lt-ltb, ltb-true, le-leb, leb-true, and_parts}
use Rattle.rv64_instr.specs.declared.place.Place.{Place}
use Rattle.rv64_instr.specs.declared.place.Place.TheVariants.{Register, Slot, Const}
use Rattle.pass_liveness.specs.Sets.{is_place}
use Rattle.scan_choice.specs.scan_allocation.Coloring.{now_by, now}
use Rattle.scan_choice.specs.Given.{given_by}
use Rattle.scan_stale.specs.Flow.{Places, takes_place, taken_by, is_unset}
use Rattle.scan_stale.specs.Written.{AreReal}

or_cases : (a b : Bool) → (a || b) ≡ true → (a ≡ true) ⊎ (b ≡ true)
or_cases true b e = inl refl
or_cases false b e = inr e

or_left : (a b : Bool) → a ≡ true → (a || b) ≡ true
or_left true b e = refl
or_left false b e = absurd cc

or_right : (a b : Bool) → b ≡ true → (a || b) ≡ true
or_right true b e = refl
or_right false b e = e

not_less : (m n : ℕ) → n ≤ m → nat_lt m n ≡ false
not_less m n le = by_test (nat_lt m n) refl where
  by_test : (z : Bool) → nat_lt m n ≡ z → nat_lt m n ≡ false
  by_test false e = e
  by_test true e = let lt = ltb-true m n e in absurd (omega (arith, lt, le))

-- ---- a loop over registers

-- a test of registers with lower numbers alone
abbrev pub below : ℕ → Places → Places
below n t (Register r) = nat_lt r n && t (Register r)
below n t (Slot m) = false
below n t (Const c) = false

pub none_below : (t : Places) (x : Place) (old : Bool) → old ≡ (below 0 t x || old)
none_below t (Register r) old = sym (ap (λ (z : Bool). (z && t (Register r)) || old) (not_less r 0 (omega arith)))
none_below t (Slot m) old = refl
none_below t (Const c) old = refl

and_true : (a : Bool) → (a && true) ≡ a
and_true true = refl
and_true false = refl

and_false : (a b : Bool) → ((a && false) || b) ≡ b
and_false true b = refl
and_false false b = refl

-- one register more
pub one_more : (t : Places) (n : ℕ) (x : Place) (more old : Bool) → more ≡ t (Register n) →
    ((more && is_place x (Some (Register n))) || (below n t x || old)) ≡ (below (n + 1) t x || old)
one_more t n (Slot m) more old e = and_false more old
one_more t n (Const c) more old e = and_false more old
one_more t n (Register r) more old e = elim (cases_eq r n)
    as (λ _. ((more && nat_eq r n) || ((nat_lt r n && t (Register r)) || old)) ≡ ((nat_lt r (n + 1) && t (Register r)) || old)) [
      | inl same ↦
          let here : more ≡ t (Register r) = e ∙ ap (λ (m : ℕ). t (Register m)) (sym same) in
          let not_yet : nat_lt r n ≡ false = not_less r n (omega (arith, same)) in
          let now_true : nat_lt r (n + 1) ≡ true = lt-ltb r (n + 1) (omega (arith, same)) in
          ap (λ (z : Bool). (more && z) || ((nat_lt r n && t (Register r)) || old)) (eq-eqb r n same) ∙
          ap (λ (z : Bool). (more && true) || ((z && t (Register r)) || old)) not_yet ∙
          ap (λ (z : Bool). z || old) (and_true more) ∙ ap (λ (z : Bool). z || old) here ∙
          sym (ap (λ (z : Bool). (z && t (Register r)) || old) now_true)
      | inr ne ↦
          ap (λ (z : Bool). (more && z) || ((nat_lt r n && t (Register r)) || old)) (ne_eqb r n ne) ∙
          and_false more ((nat_lt r n && t (Register r)) || old) ∙ ap (λ (z : Bool). (z && t (Register r)) || old) (same_less ne)
    ] where
      same_less : (r ≡ n → ⊥) → nat_lt r n ≡ nat_lt r (n + 1)
      same_less ne = elim (cases_lt r n) as (λ _. nat_lt r n ≡ nat_lt r (n + 1)) [
        | inl lt ↦ lt-ltb r n lt ∙ sym (lt-ltb r (n + 1) (omega (arith, lt)))
        | inr ge ↦ elim (cases_lt n r) as (λ _. nat_lt r n ≡ nat_lt r (n + 1)) [
          | inl gt ↦ not_less r n ge ∙ sym (not_less r (n + 1) (omega (arith, gt)))
          | inr le ↦ absurd (ne (omega (arith, ge, le)))
        ]
      ]

-- past all registers that pass
pub all_below : (t : Places) (n : ℕ) → ((r : ℕ) → n ≤ r → t (Register r) ≡ false) → ((m : ℕ) → t (Slot m) ≡ false) → ((c : ℤ) → t (Const c) ≡ false) →
    (x : Place) → below n t x ≡ t x
all_below t n beyond slots consts (Slot m) = sym (slots m)
all_below t n beyond slots consts (Const c) = sym (consts c)
all_below t n beyond slots consts (Register r) = elim (cases_lt r n) as (λ _. (nat_lt r n && t (Register r)) ≡ t (Register r)) [
  | inl lt ↦ ap (λ (z : Bool). z && t (Register r)) (lt-ltb r n lt)
  | inr ge ↦ ap (λ (z : Bool). z && t (Register r)) (not_less r n ge) ∙ sym (beyond r ge)
]

-- ---- registers past the table

past_list : (xs : List (Option ℕ)) (k : ℕ) → length xs ≤ k → slice_index_or xs k None ≡ None
past_list [] k le = refl
past_list (x ∷ xs) zero le = absurd (omega (arith, le))
past_list (x ∷ xs) (suc k) le = past_list xs k (omega (arith, le))

pub past_table : (given : List (Option ℕ)) (r : ℕ) → length given + 32 ≤ r → given_by given r ≡ None
past_table given r le =
    ap (λ (z : Bool). cond z (slice_index_or given (r - 32) None) None) (le-leb 32 r (omega (arith, le))) ∙
    past_list given (r - 32) (omega (arith, le))

low_table : (given : List (Option ℕ)) (r : ℕ) → r < 32 → given_by given r ≡ None
low_table given r lt = by_test (nat_le 32 r) refl where
  by_test : (z : Bool) → nat_le 32 r ≡ z → cond z (slice_index_or given (r - 32) None) None ≡ None
  by_test false e = refl
  by_test true e = let le = leb-true 32 r e in absurd (omega (arith, le, lt))

stays_now : (given : ℕ → Option ℕ) (r : ℕ) → given r ≡ None → now given r ≡ r
stays_now given r e = ap (now_by r) e

module _ (given : List (Option ℕ)) (real : AreReal (given_by given)) (r : ℕ) (le : length given + 32 ≤ r) where
  here : (s : ℕ) → now (given_by given) s ≡ now (given_by given) r → nat_eq r s ≡ true
  here s e = by_given (given_by given s) refl where
    stays : now (given_by given) r ≡ r
    stays = stays_now (given_by given) r (past_table given r le)

    by_given : (o : Option ℕ) → given_by given s ≡ o → nat_eq r s ≡ true
    by_given None h = eq-eqb r s (sym (sym (stays_now (given_by given) s h) ∙ e ∙ stays))
    by_given (Some q) h =
        let is : q ≡ r = sym (ap (now_by s) h) ∙ e ∙ stays in
        let low = real s q h in
        absurd (omega (arith, low, is, le))

  none_other : (rs : List ℕ) → list_any (λ s. nat_eq (now (given_by given) s) (now (given_by given) r)) rs ≡ true → list_any (nat_eq r) rs ≡ true
  none_other [] e = cc
  none_other (s ∷ rs) e =
      elim (or_cases (nat_eq (now (given_by given) s) (now (given_by given) r))
      (list_any (λ s. nat_eq (now (given_by given) s) (now (given_by given) r)) rs) e) as (λ _. list_any (nat_eq r) (s ∷ rs) ≡ true) [
        | inl h ↦ or_left (nat_eq r s) (list_any (nat_eq r) rs) (here s (eqb-true (now (given_by given) s) (now (given_by given) r) h))
        | inr h ↦ or_right (nat_eq r s) (list_any (nat_eq r) rs) (none_other rs h)
      ]

  -- their place isn't taken
  pub none_taken : (rs : List ℕ) → takes_place (given_by given) rs r ≡ false
  none_taken rs =
      by_any (list_any (λ s. nat_eq (now (given_by given) s) (now (given_by given) r)) rs) refl (list_any (nat_eq r) rs) refl where
        by_any : (a : Bool) → list_any (λ s. nat_eq (now (given_by given) s) (now (given_by given) r)) rs ≡ a → (b : Bool) → list_any (nat_eq r) rs ≡ b →
            (a && not b) ≡ false
        by_any false e b f = refl
        by_any true e true f = refl
        by_any true e false f = let bad : false ≡ true = sym f ∙ none_other rs e in cc

  -- and they get none
  pub none_unset : is_some (given_by given r) ≡ false
  none_unset = ap (λ (o : Option ℕ). is_some o) (past_table given r le)

-- ---- calls

eq_turned : (a b : ℕ) → nat_eq a b ≡ nat_eq b a
eq_turned a b = elim (cases_eq a b) as (λ _. nat_eq a b ≡ nat_eq b a) [
  | inl e ↦ eq-eqb a b e ∙ sym (eq-eqb b a (sym e))
  | inr ne ↦ ne_eqb a b ne ∙ sym (ne_eqb b a (λ e. ne (sym e)))
]

-- physical registers are in their own places
pub saved_places : (given : List (Option ℕ)) (q : ℕ) (rs : List ℕ) → list_all (λ s. nat_lt s 32) rs ≡ true →
    list_any (λ s. nat_eq (now (given_by given) s) q) rs ≡ list_any (nat_eq q) rs
saved_places given q [] small = refl
saved_places given q (s ∷ rs) small =
    let parts = and_parts (nat_lt s 32) (list_all (λ s. nat_lt s 32) rs) small in
    let own : now (given_by given) s ≡ s = stays_now (given_by given) s (low_table given s (ltb-true s 32 parts.0)) in
    let more = saved_places given q rs parts.1 in
    let first : nat_eq (now (given_by given) s) q ≡ nat_eq q s = ap (λ (n : ℕ). nat_eq n q) own ∙ eq_turned s q in
    λ t. first t || more t

pub one_place : (a b : Bool) → (a && not b) ≡ ((a || false) && not (b || false))
one_place true true = refl
one_place true false = refl
one_place false b = refl

pub or_turned : (a b : Bool) → (a || b) ≡ (b || a)
or_turned true true = refl
or_turned true false = refl
or_turned false true = refl
or_turned false false = refl
