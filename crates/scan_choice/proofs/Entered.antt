-- A table in which assignments are entered.
use Rattle.std.proofs.Common.{◌≡◌, ◌⊎◌, inl, inr, ℕ, zero, suc, ◌+◌, ◌-◌, ◌<◌, ◌≤◌, List, [], ◌∷◌, ◌++◌, length, slice_index_or, slice_set, Option, None}
use Rattle.std.proofs.Common.{Bool, true, false, cond, nat_eq, nat_le, refl, sym, ap, ◌∙◌, append_assoc, subst, arith}
use Rattle.std.specs.Prelude.{All}
use Rattle.std.proofs.lemmas.Bool.{cases_eq, cases_lt, eq-eqb, ne_eqb, le-leb, leb-true}
use Rattle.std.proofs.lemmas.List.{get_or-set_other, get_or-set_same}
use Rattle.std.proofs.lemmas.List.Elements.{All-head, All-tail}
use Rattle.scan_liveness.specs.scan_allocation.declared.assignment.RegisterAssignment.{RegisterAssignment}
use Rattle.scan_liveness.specs.scan_allocation.Walk.{given_to}
use Rattle.scan_choice.specs.Given.{given_by}

-- in an empty table there is nothing
pub nothing_by : (given : List (Option ℕ)) → ((k : ℕ) → slice_index_or given k None ≡ None) → (r : ℕ) → given_by given r ≡ None
nothing_by given empty r = either (nat_le 32 r) (slice_index_or given (r - 32) None) (empty (r - 32)) where
  either : (z : Bool) (o : Option ℕ) → o ≡ None → cond z o None ≡ None
  either true o e = e
  either false o e = refl

-- tables with the same entries
pub same_entries : (old new : List (Option ℕ)) → ((k : ℕ) → slice_index_or new k None ≡ slice_index_or old k None) → (r : ℕ) →
    given_by new r ≡ given_by old r
same_entries old new same r = ap (λ (o : Option ℕ). cond (nat_le 32 r) o None) (same (r - 32))

pub one_longer : (os : List (Option ℕ)) (k : ℕ) → slice_index_or (os ++ None ∷ []) k None ≡ slice_index_or os k None
one_longer [] zero = refl
one_longer [] (suc k) = refl
one_longer (o ∷ os) zero = refl
one_longer (o ∷ os) (suc k) = one_longer os k

-- one entry
module _ (given : List (Option ℕ)) (r : ℕ) (low : 32 ≤ r) (inside : r - 32 < length given) (o : Option ℕ) where
  pub entered_at : given_by (slice_set given (r - 32) o) r ≡ o
  entered_at =
      ap (λ (z : Bool). cond z (slice_index_or (slice_set given (r - 32) o) (r - 32) None) None) (is_low r low) ∙
      get_or-set_same given (r - 32) o None inside where
        is_low : (n : ℕ) → 32 ≤ n → nat_le 32 n ≡ true
        is_low n le = le-leb 32 n le

  pub entered_others : (q : ℕ) → (q ≡ r → ⊥) → given_by (slice_set given (r - 32) o) q ≡ given_by given q
  entered_others q ne = by_low (nat_le 32 q) refl where
    by_low : (z : Bool) → nat_le 32 q ≡ z →
        cond z (slice_index_or (slice_set given (r - 32) o) (q - 32) None) None ≡ cond z (slice_index_or given (q - 32) None) None
    by_low false e = refl
    by_low true e =
        let le = leb-true 32 q e in
        get_or-set_other given (r - 32) (q - 32) o None (λ same. ne (omega (arith, le, low, same)))

-- the table has the assignments below those that are left
pub record Entered (all above : List RegisterAssignment) (given : List (Option ℕ)) : Type 0 where
  pub below : List RegisterAssignment
  pub whole : all ≡ above ++ below
  pub few : length given ≤ 4096
  pub has : (r : ℕ) → given_by given r ≡ given_to below r

nothing_behind : (xs : List RegisterAssignment) → xs ≡ xs ++ []
nothing_behind [] = refl
nothing_behind (x ∷ xs) = ap (λ (r : List RegisterAssignment). x ∷ r) (nothing_behind xs)

pub entered_begins : (all : List RegisterAssignment) (given : List (Option ℕ)) → given ≡ [] → Entered all all given
entered_begins all given e = record {
  below = [];
  whole = nothing_behind all;
  few = subst (λ (os : List (Option ℕ)). length os ≤ 4096) (sym e) (omega arith);
  has = λ r. ap (λ (os : List (Option ℕ)). given_by os r) e ∙ nothing_by [] (λ k. refl) r;
}

of_middle : (P : RegisterAssignment → Type 0) (rest : List RegisterAssignment) (x : RegisterAssignment) (below : List RegisterAssignment) →
    All P ((rest ++ x ∷ []) ++ below) → P x
of_middle P [] x below all = All-head P x below all
of_middle P (y ∷ ys) x below all = of_middle P ys x below (All-tail P y ((ys ++ x ∷ []) ++ below) all)

-- the last of those that are left is one of all
pub among : (P : RegisterAssignment → Type 0) {all above : List RegisterAssignment} {given : List (Option ℕ)} → Entered all above given →
    (rest : List RegisterAssignment) (x : RegisterAssignment) → above ≡ rest ++ x ∷ [] → All P all → P x
among P {all} {above} {given} w rest x e each =
    of_middle P rest x w.below
    (subst (λ (xs : List RegisterAssignment). All P xs) (w.whole ∙ ap (λ (xs : List RegisterAssignment). xs ++ w.below) e) each)

pub entered_goes_on : {all above : List RegisterAssignment} {given : List (Option ℕ)} → Entered all above given → (rest : List RegisterAssignment)
    (x : RegisterAssignment) → above ≡ rest ++ x ∷ [] → (more : List (Option ℕ)) → length more ≤ 4096 → given_by more x.register ≡ x.given →
    ((r : ℕ) → (r ≡ x.register → ⊥) → given_by more r ≡ given_by given r) → Entered all rest more
entered_goes_on {all} {above} {given} w rest x e more few at others = record {
  below = x ∷ w.below;
  whole = w.whole ∙ (ap (λ (xs : List RegisterAssignment). xs ++ w.below) e ∙ append_assoc rest (x ∷ []) w.below);
  few = few;
  has = λ r. elim (cases_eq x.register r) as (λ _. given_by more r ≡ given_to (x ∷ w.below) r) [
    | inl same ↦
        ap (given_by more) (sym same) ∙ at ∙ sym (ap (λ (z : Bool). cond z x.given (given_to w.below r)) (eq-eqb x.register r same))
    | inr ne ↦
        others r (λ s. ne (sym s)) ∙ w.has r ∙ sym (ap (λ (z : Bool). cond z x.given (given_to w.below r)) (ne_eqb x.register r ne))
  ];
}

pub entered_ends : {all above : List RegisterAssignment} {given : List (Option ℕ)} → Entered all above given → above ≡ [] → (r : ℕ) →
    given_by given r ≡ given_to all r
entered_ends {all} {above} {given} w e r =
    w.has r ∙ ap (λ (xs : List RegisterAssignment). given_to xs r) (sym (w.whole ∙ ap (λ (xs : List RegisterAssignment). xs ++ w.below) e))
