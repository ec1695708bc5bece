-- The registers that share a place.
use Rattle.std.proofs.Common.{◌≡◌, ◌⊎◌, inl, inr, ℕ, zero, suc, ◌+◌, ◌<◌, ◌≤◌, List, [], ◌∷◌, ◌++◌, length, slice_index_or, Option, Some, None}
use Rattle.std.proofs.Common.{Bool, true, false, ◌||◌, ◌&&◌, not, nat_eq, refl, sym, ap, ◌∙◌, subst, arith}
use Rattle.std.proofs.lemmas.Bool.{cases_eq, cases_lt, eq-eqb, ne_eqb, eqb-true}
use Rattle.rv64_instr.specs.declared.place.Place.{Place}
use Rattle.rv64_instr.specs.declared.place.Place.TheVariants.{Register, Slot, Const}
use Rattle.pass_liveness.specs.Sets.{is_place}
use Rattle.scan_choice.specs.scan_allocation.Coloring.{now_by, now}
use Rattle.scan_choice.specs.Given.{given_by}
use Rattle.scan_stale.specs.Flow.{taken_by}
use Rattle.scan_stale.specs.Shared.{is_sharing}
use Rattle.scan_stale.specs.Written.{AreReal}
use Rattle.scan_stale.proofs.Taken.{one_place, past_table}

-- ---- a set with another one's members but one

or_none : (w : Bool) → (w || false) ≡ w
or_none true = refl
or_none false = refl

or_turned : (a b : Bool) → (a || b) ≡ (b || a)
or_turned true true = refl
or_turned true false = refl
or_turned false true = refl
or_turned false false = refl

pub others_kept : (p o w : Bool) → (p ≡ true → w ≡ true) → (w || o) ≡ ((o && not p) || w)
others_kept true o true h = sym (and_never o)
  where
    and_never : (z : Bool) → ((z && false) || true) ≡ true
    and_never true = refl
    and_never false = refl
others_kept true o false h = let bad : false ≡ true = h refl in cc
others_kept false true w h = or_turned w true
others_kept false false w h = or_none w

pub others_left : (p o w : Bool) → (p ≡ true → w ≡ false) → ((w || o) && not p) ≡ ((o && not p) || w)
others_left true true true h = let bad : true ≡ false = h refl in cc
others_left true false true h = let bad : true ≡ false = h refl in cc
others_left true true false h = refl
others_left true false false h = refl
others_left false true true h = refl
others_left false false true h = refl
others_left false true false h = refl
others_left false false false h = refl

-- the place is the register
pub is_that : (x : Place) (s : ℕ) → is_place x (Some (Register s)) ≡ true → x ≡ Register s
is_that (Register r) s e = ap Register (eqb-true r s e)
is_that (Slot n) s e = cc
is_that (Const c) s e = cc

-- ---- what a register takes

pub sharing_taken : (given : ℕ → Option ℕ) (s q : ℕ) (x : Place) → now given s ≡ q →
    (is_sharing given q x && not (is_place x (Some (Register s)))) ≡ taken_by given (s ∷ []) x
sharing_taken given s q (Register r) e =
    one_place (nat_eq q (now given r)) (nat_eq r s) ∙
    ap (λ (n : ℕ). (nat_eq n (now given r) || false) && not (nat_eq r s || false)) (sym e)
sharing_taken given s q (Slot n) e = refl
sharing_taken given s q (Const c) e = refl

-- a register in a place of its own takes no other's
pub nothing_taken : (given : ℕ → Option ℕ) → AreReal given → (s : ℕ) → 32 ≤ now given s → (x : Place) → taken_by given (s ∷ []) x ≡ false
nothing_taken given real s high (Slot n) = refl
nothing_taken given real s high (Const c) = refl
nothing_taken given real s high (Register r) = by_test (nat_eq (now given s) (now given r)) refl where
  own : (r : ℕ) → 32 ≤ now given r → now given r ≡ r
  own r le = by_given (given r) refl where
    by_given : (o : Option ℕ) → given r ≡ o → now given r ≡ r
    by_given None h = ap (now_by r) h
    by_given (Some q) h = let low = real r q h in let is : now given r ≡ q = ap (now_by r) h in absurd (omega (arith, low, is, le))

  by_test : (z : Bool) → nat_eq (now given s) (now given r) ≡ z → ((z || false) && not (nat_eq r s || false)) ≡ false
  by_test false e = refl
  by_test true e =
      let same : now given s ≡ now given r = eqb-true (now given s) (now given r) e in
      let one : r ≡ s = sym (own r (omega (arith, high, same))) ∙ sym same ∙ own s high in
      ap (λ (z : Bool). not (z || false)) (eq-eqb r s one)

-- code that sets no register takes no place
pub none_written : (given : ℕ → Option ℕ) (x : Place) (old : Bool) → old ≡ (taken_by given [] x || old)
none_written given (Register r) old = refl
none_written given (Slot n) old = refl
none_written given (Const c) old = refl

-- registers past the table share no physical one
pub none_sharing : (given : List (Option ℕ)) (q r : ℕ) → q < 32 → length given + 32 ≤ r → nat_eq q (now (given_by given) r) ≡ false
none_sharing given q r lt le =
    let stays : now (given_by given) r ≡ r = ap (now_by r) (past_table given r le) in
    ne_eqb q (now (given_by given) r) (λ e. omega (arith, e, stays, lt, le))

-- ---- a list of sets, one after the other

module _ (P : ℕ → List ℕ → Type 0) where
  at_end : (xs : List (List ℕ)) (x : List ℕ) → slice_index_or (xs ++ x ∷ []) (length xs) [] ≡ x
  at_end [] x = refl
  at_end (y ∷ ys) x = at_end ys x

  before_end : (xs : List (List ℕ)) (x : List ℕ) (q : ℕ) → q < length xs → slice_index_or (xs ++ x ∷ []) q [] ≡ slice_index_or xs q []
  before_end [] x q lt = absurd (omega (arith, lt))
  before_end (y ∷ ys) x zero lt = refl
  before_end (y ∷ ys) x (suc q) lt = before_end ys x q (omega (arith, lt))

  pub each_pushed : (xs : List (List ℕ)) (x : List ℕ) (n : ℕ) → length xs ≡ n → ((q : ℕ) → q < n → P q (slice_index_or xs q [])) → P n x → (q : ℕ) →
      q < n + 1 → P q (slice_index_or (xs ++ x ∷ []) q [])
  each_pushed xs x n long each last q lt = elim (cases_eq q n) as (λ _. P q (slice_index_or (xs ++ x ∷ []) q [])) [
    | inl same ↦
        subst (λ (m : ℕ). P m (slice_index_or (xs ++ x ∷ []) m [])) (long ∙ sym same)
        (subst (λ (m : ℕ). P m (slice_index_or (xs ++ x ∷ []) (length xs) [])) (sym long) (subst (P n) (sym (at_end xs x)) last))
    | inr ne ↦
        let less : q < n = lower q n ne lt in
        subst (P q) (sym (before_end xs x q (omega (arith, less, long)))) (each q less)
  ] where
    lower : (q n : ℕ) → (q ≡ n → ⊥) → q < n + 1 → q < n
    lower q n ne lt = by_order (cases_lt q n) where
      by_order : (q < n) ⊎ (n ≤ q) → q < n
      by_order (inl less) = less
      by_order (inr le) = absurd (ne (omega (arith, lt, le)))
