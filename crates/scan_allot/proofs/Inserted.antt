-- A set to which the registers are added that the elements of a list name.
use Rattle.std.proofs.Common.{◌≡◌, ℕ, zero, suc, ◌+◌, ◌<◌, ◌≤◌, List, [], ◌∷◌, drop, drop-cons, get_or, length, Bool, true, false, ◌||◌}
use Rattle.std.proofs.Common.{refl, sym, ap, ◌∙◌, arith}
use Rattle.std.specs.List.{list_any}
use Rattle.pass_liveness.specs.Sets.{has_bit}

module _ {A : Type 0} (test : ℕ → A → Bool) (all : List A) (old : List ℕ) where
  -- once the registers of the rest are added, those of all are
  abbrev pub Inserts : (rest : List A) → (now : List ℕ) → Type 0
  Inserts rest now = (r : ℕ) → (list_any (test r) rest || has_bit now r) ≡ (list_any (test r) all || has_bit old r)

  first_all : (xs : List A) → drop 0 xs ≡ xs
  first_all [] = refl
  first_all (x ∷ xs) = refl

  pub inserts_begin : Inserts (drop 0 all) old
  inserts_begin r = ap (λ (xs : List A). list_any (test r) xs || has_bit old r) (first_all all)

  or_moved : (l t n : Bool) → (l || (t || n)) ≡ ((t || l) || n)
  or_moved true true n = refl
  or_moved true false n = refl
  or_moved false true n = refl
  or_moved false false n = refl

  pub inserts_go_on : (now : List ℕ) {j : ℕ} → Inserts (drop j all) now → (x : A) → j < length all → x ≡ get_or all j x → (more : List ℕ) →
      ((r : ℕ) → has_bit more r ≡ (test r x || has_bit now r)) → Inserts (drop (j + 1) all) more
  inserts_go_on now {j} w x lt at more each r =
      let next : j + 1 ≡ suc j = omega arith in
      let split : drop j all ≡ x ∷ drop (j + 1) all = drop-cons all j x lt ∙ (λ t. sym at t ∷ drop (sym next t) all) in
      ap (λ (z : Bool). list_any (test r) (drop (j + 1) all) || z) (each r) ∙
      or_moved (list_any (test r) (drop (j + 1) all)) (test r x) (has_bit now r) ∙
      ap (λ (xs : List A). list_any (test r) xs || has_bit now r) (sym split) ∙ w r

  past : (xs : List A) (n : ℕ) → length xs ≤ n → drop n xs ≡ []
  past [] zero le = refl
  past [] (suc n) le = refl
  past (x ∷ xs) zero le = absurd (omega (arith, le))
  past (x ∷ xs) (suc n) le = past xs n (omega (arith, le))

  pub inserts_end : (now : List ℕ) {j : ℕ} → Inserts (drop j all) now → length all ≤ j → (r : ℕ) → has_bit now r ≡ (list_any (test r) all || has_bit old r)
  inserts_end now {j} w le r = ap (λ (xs : List A). list_any (test r) xs || has_bit now r) (sym (past all j le)) ∙ w r
