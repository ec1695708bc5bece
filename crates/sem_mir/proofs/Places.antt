-- What is written leaves all else: registers, slots, bytes of memory and pairs.
use Rattle.std.proofs.Common.{◌≡◌, ℕ, zero, suc, ◌+◌, ◌%◌, ◌^◌, ◌<◌, List, [], ◌∷◌, length, Contains, Option, Some, refl, ap, ◌∙◌, eq-eqb, ne_eqb, inl, inr}
use Rattle.std.proofs.Common.{arith, ◌++◌, All, None, Bool, true, false, cond, nat_eq, sym, subst}
use Rattle.std.specs.Prelude.{◌||◌}
use Rattle.std.specs.List.{list_any}
use Rattle.std.proofs.lemmas.Bool.{cases_eq, cases_Bool, eqb-true, or_left, or_right}
use Rattle.std.proofs.lemmas.Map.Made.{Contains-tail}
use Rattle.std.proofs.lemmas.List.Elements.{All-head, All-tail, All-nil, All-cons}
use Rattle.sem_mir.specs.State.{updated, without, content, put, put_all, stored, written}

-- the value that was changed, and another
pub updated_same : {A : Type 0} (k : ℕ) (v : A) (f : ℕ → A) → updated k v f k ≡ v
updated_same k v f = rw (eq-eqb k k refl) refl

pub updated_other : {A : Type 0} (k q : ℕ) (v : A) (f : ℕ → A) → (q ≡ k → ⊥) → updated k v f q ≡ f q
updated_other k q v f ne = rw (ne_eqb q k ne) refl

-- a register that is set, and another
pub put_same : (r v : ℕ) (regs : ℕ → Option ℕ) → (r ≡ 0 → ⊥) → content (put r v regs) r ≡ Some v
put_same zero v regs ne = absurd (ne refl)
put_same (suc r) v regs ne = updated_same (suc r) (Some v) regs

pub put_other : (r q v : ℕ) (regs : ℕ → Option ℕ) → (q ≡ r → ⊥) → content (put r v regs) q ≡ content regs q
put_other zero q v regs ne = refl
put_other (suc r) zero v regs ne = refl
put_other (suc r) (suc q) v regs ne = updated_other (suc r) (suc q) (Some v) regs ne

-- membership in a list, by its head
pub contains_head : {A : Type 0} (x : A) (xs : List A) → Contains (x ∷ xs) x
contains_head x xs = (0, omega arith, refl)

pub contains_tail : {A : Type 0} (x y : A) (xs : List A) → Contains xs y → Contains (x ∷ xs) y
contains_tail x y xs (k, lt, e) = (suc k, omega (arith, lt), e)

-- a number is among some where the test finds it
pub in_any : (q : ℕ) (rs : List ℕ) → Contains rs q → list_any (nat_eq q) rs ≡ true
in_any q [] k = absurd (omega (arith, k.1))
in_any q (r ∷ rs) k =
    elim (cases_eq r q) as (λ _. list_any (nat_eq q) (r ∷ rs) ≡ true) [
      | inl e ↦ or_left (nat_eq q r) (list_any (nat_eq q) rs) (eq-eqb q r (sym e))
      | inr ne ↦ or_right (nat_eq q r) (list_any (nat_eq q) rs) (in_any q rs (Contains-tail r rs q ne k))
    ]

pub any_in : (q : ℕ) (rs : List ℕ) → list_any (nat_eq q) rs ≡ true → Contains rs q
any_in q [] e = cc
any_in q (r ∷ rs) e = by_test (λ k. any_in q rs k) (nat_eq q r) refl e where
  by_test : (list_any (nat_eq q) rs ≡ true → Contains rs q) → (z : Bool) → nat_eq q r ≡ z → (z || list_any (nat_eq q) rs) ≡ true → Contains (r ∷ rs) q
  by_test later true t e = subst (λ (k : ℕ). Contains (r ∷ rs) k) (sym (eqb-true q r t)) (contains_head r rs)
  by_test later false t e = contains_tail r q rs (later e)

-- a slot that is among those without a value, and another
pub without_among : {A : Type 0} (ns : List ℕ) (n : ℕ) (f : ℕ → Option A) → Contains ns n → without ns f n ≡ None
without_among ns n f k = ap (λ (b : Bool). cond b None (f n)) (in_any n ns k)

pub without_other : {A : Type 0} (ns : List ℕ) (n : ℕ) (f : ℕ → Option A) → (Contains ns n → ⊥) → without ns f n ≡ f n
without_other ns n f ne = elim (cases_Bool (list_any (nat_eq n) ns)) as (λ _. cond (list_any (nat_eq n) ns) None (f n) ≡ f n) [
  | inl here ↦ absurd (ne (any_in n ns here))
  | inr not ↦ ap (λ (b : Bool). cond b None (f n)) not
]

-- one that has a value has it without these
pub without_some : {A : Type 0} (ns : List ℕ) (n : ℕ) (v : A) (f : ℕ → Option A) → without ns f n ≡ Some v → f n ≡ Some v
without_some ns n v f e = by_test (list_any (nat_eq n) ns) e where
  by_test : (b : Bool) → cond b None (f n) ≡ Some v → f n ≡ Some v
  by_test true e = cc
  by_test false e = e

-- membership in two lists, one behind the other
pub contains_back : {A : Type 0} (xs ys : List A) (y : A) → Contains ys y → Contains (xs ++ ys) y
contains_back [] ys y h = h
contains_back (x ∷ xs) ys y h = contains_tail x y (xs ++ ys) (contains_back xs ys y h)

pub contains_front : {A : Type 0} (xs ys : List A) (y : A) → Contains xs y → Contains (xs ++ ys) y
contains_front [] ys y (k, lt, e) = absurd (omega (arith, lt))
contains_front (x ∷ xs) ys y (zero, lt, e) = (0, omega arith, e)
contains_front (x ∷ xs) ys y (suc k, lt, e) = contains_tail x y (xs ++ ys) (contains_front xs ys y (k, omega (arith, lt), e))

-- what holds of all of two lists, one behind the other
pub all_front : {A : Type 0} (P : A → Type 0) (xs ys : List A) → All P (xs ++ ys) → All P xs
all_front P [] ys h = All-nil P
all_front P (x ∷ xs) ys h = All-cons P x xs (All-head P x (xs ++ ys) h) (all_front P xs ys (All-tail P x (xs ++ ys) h))

pub all_back : {A : Type 0} (P : A → Type 0) (xs ys : List A) → All P (xs ++ ys) → All P ys
all_back P [] ys h = h
all_back P (x ∷ xs) ys h = all_back P xs ys (All-tail P x (xs ++ ys) h)

-- a register that isn't among those that are set
pub put_all_other : (rs vs : List ℕ) (q : ℕ) (regs : ℕ → Option ℕ) → (Contains rs q → ⊥) → content (put_all rs vs regs) q ≡ content regs q
put_all_other [] vs q regs ne = refl
put_all_other (r ∷ rs) [] q regs ne =
    put_all_other rs [] q (put r 0 regs) (λ h. ne (contains_tail r q rs h)) ∙ put_other r q 0 regs (λ e. ne (rw e (contains_head r rs)))
put_all_other (r ∷ rs) (v ∷ vs) q regs ne =
    put_all_other rs vs q (put r v regs) (λ h. ne (contains_tail r q rs h)) ∙ put_other r q v regs (λ e. ne (rw e (contains_head r rs)))

-- a byte of memory that isn't among those that are written
pub stored_other : (bytes : List ℕ) (m : ℕ → ℕ) (a x : ℕ) → ((j : ℕ) → j < length bytes → x ≡ (a + j) % 2 ^ 64 → ⊥) → stored m a bytes x ≡ m x
stored_other [] m a x ne = refl
stored_other (b ∷ bs) m a x ne =
    let first : x ≡ a % 2 ^ 64 → ⊥ = λ e. ne 0 (omega arith) (let z : a + 0 ≡ a = omega arith in rw z e) in
    stored_other bs (updated (a % 2 ^ 64) b m) (a + 1) x (λ j lt e. ne (suc j) (omega (arith, lt)) (let z : a + suc j ≡ (a + 1) + j = omega arith in
    rw z e)) ∙ updated_other (a % 2 ^ 64) x b m first

pub written_other : (ws : List (ℕ × ℕ)) (m : ℕ → ℕ) (x : ℕ) → ((w : ℕ × ℕ) → Contains ws w → x ≡ w.0 → ⊥) → written m ws x ≡ m x
written_other [] m x ne = refl
written_other (w ∷ ws) m x ne =
    written_other ws (updated w.0 w.1 m) x (λ v h. ne v (contains_tail w v ws h)) ∙ updated_other w.0 x w.1 m (ne w (contains_head w ws))

-- the pair that is written, and another
pub pair_same : (k o : ℕ) (v : Option ℕ) (pairs : ℕ → ℕ → Option ℕ) → updated k (updated o v (pairs k)) pairs k o ≡ v
pair_same k o v pairs = rw (updated_same k (updated o v (pairs k)) pairs) (updated_same o v (pairs k))

pub pair_other : (k o k' o' : ℕ) (v : Option ℕ) (pairs : ℕ → ℕ → Option ℕ) → ((k' ≡ k) × (o' ≡ o) → ⊥) →
    updated k (updated o v (pairs k)) pairs k' o' ≡ pairs k' o'
pair_other k o k' o' v pairs ne =
    elim (cases_eq k' k) as (λ z. updated k (updated o v (pairs k)) pairs k' o' ≡ pairs k' o') [
      | inl e ↦ rw e (ap (λ (f : ℕ → Option ℕ). f o') (updated_same k (updated o v (pairs k)) pairs) ∙ updated_other o o' v (pairs k) (λ h. ne (e, h)))
      | inr d ↦ ap (λ (f : ℕ → Option ℕ). f o') (updated_other k k' (updated o v (pairs k)) pairs d)
    ]
