-- Where numbers stand in a list that grows, and what stands where a number is found.
use Rattle.std.proofs.Common.{◌≡◌, ◌⊎◌, ℕ, zero, suc, ◌+◌, ◌<◌, Bool, true, false, cond, List, [], ◌∷◌, ◌++◌, length, get_or, take, nat_eq, Option, Some, None}
use Rattle.std.proofs.Common.{refl, sym, ap, ◌∙◌, inl, inr, arith, subst}
use Rattle.std.specs.Prelude.{option_map}
use Rattle.std.specs.Option.{is_some}
use Rattle.std.proofs.Math.Seq.{take-suc}
use Rattle.std.proofs.lemmas.List.{length-take-le}
use Rattle.std.proofs.lemmas.Bool.{cases_eq, ne_eqb, eq-eqb, eqb-true}
use Rattle.pass_liveness.specs.Index.{index_in}

abbrev first_of : Option ℕ → Option ℕ → Option ℕ
first_of (Some j) o = Some j
first_of None o = o

later : (a : Option ℕ) (b : Bool) (n : ℕ) → option_map suc (first_of a (cond b (Some n) None)) ≡ first_of (option_map suc a) (cond b (Some (suc n)) None)
later (Some j) b n = refl
later None true n = refl
later None false n = refl

after_head : (m x q : ℕ) (ms : List ℕ) (here : Bool) → index_in (ms ++ x ∷ []) q ≡ first_of (index_in ms q) (cond (nat_eq x q) (Some (length ms)) None) →
    cond here (Some 0) (option_map suc (index_in (ms ++ x ∷ []) q))
    ≡ first_of (cond here (Some 0) (option_map suc (index_in ms q))) (cond (nat_eq x q) (Some (suc (length ms))) None)
after_head m x q ms true h = refl
after_head m x q ms false h = ap (λ (o : Option ℕ). option_map suc o) h ∙ later (index_in ms q) (nat_eq x q) (length ms)

index_more : (xs : List ℕ) (x q : ℕ) → index_in (xs ++ x ∷ []) q ≡ first_of (index_in xs q) (cond (nat_eq x q) (Some (length xs)) None)
index_more [] x q = by_test (nat_eq x q) where
  by_test : (b : Bool) → cond b (Some 0) (option_map suc None) ≡ cond b (Some 0) None
  by_test true = refl
  by_test false = refl
index_more (m ∷ ms) x q = after_head m x q ms (nat_eq m q) (index_more ms x q)

-- one more number, which wasn't there
pub index_new : (xs : List ℕ) (x q n : ℕ) → length xs ≡ n → index_in xs x ≡ None → index_in (xs ++ x ∷ []) q ≡ cond (nat_eq x q) (Some n) (index_in xs q)
index_new xs x q n long absent = index_more xs x q ∙ by_place (cases_eq x q) where
  kept : (o : Option ℕ) → first_of o None ≡ o
  kept None = refl
  kept (Some j) = refl

  by_place : (x ≡ q) ⊎ (x ≡ q → ⊥) → first_of (index_in xs q) (cond (nat_eq x q) (Some (length xs)) None) ≡ cond (nat_eq x q) (Some n) (index_in xs q)
  by_place (inl e) =
      let none : index_in xs q ≡ None = subst (λ (k : ℕ). index_in xs k ≡ None) e absent in
      ap (λ (o : Option ℕ). first_of o (cond (nat_eq x q) (Some (length xs)) None)) none
      ∙ (ap (λ (b : Bool). cond b (Some (length xs)) None) (eq-eqb x q e)
      ∙ (ap (λ (k : ℕ). Some k) long ∙ sym (ap (λ (b : Bool). cond b (Some n) (index_in xs q)) (eq-eqb x q e))))
  by_place (inr ne) =
      ap (λ (b : Bool). first_of (index_in xs q) (cond b (Some (length xs)) None)) (ne_eqb x q ne)
      ∙ (kept (index_in xs q) ∙ sym (ap (λ (b : Bool). cond b (Some n) (index_in xs q)) (ne_eqb x q ne)))

-- one more number, which was there
pub index_known : (xs : List ℕ) (x q j : ℕ) → index_in xs x ≡ Some j → index_in (xs ++ x ∷ []) q ≡ index_in xs q
index_known xs x q j there = index_more xs x q ∙ by_place (cases_eq x q) where
  kept : (o : Option ℕ) → first_of o None ≡ o
  kept None = refl
  kept (Some i) = refl

  found : (o : Option ℕ) (i : ℕ) (r : Option ℕ) → o ≡ Some i → first_of o r ≡ o
  found None i r e = absurd cc
  found (Some k) i r e = refl

  by_place : (x ≡ q) ⊎ (x ≡ q → ⊥) → first_of (index_in xs q) (cond (nat_eq x q) (Some (length xs)) None) ≡ index_in xs q
  by_place (inl e) = found (index_in xs q) j (cond (nat_eq x q) (Some (length xs)) None) (subst (λ (k : ℕ). index_in xs k ≡ Some j) e there)
  by_place (inr ne) = ap (λ (b : Bool). first_of (index_in xs q) (cond b (Some (length xs)) None)) (ne_eqb x q ne) ∙ kept (index_in xs q)

-- what stands where a number is found
found_in : (m q : ℕ) (ms : List ℕ) (b : Bool) (o : Option ℕ) (i : ℕ) → nat_eq m q ≡ b → index_in ms q ≡ o → cond b (Some 0) (option_map suc o) ≡ Some i →
    ((j : ℕ) → o ≡ Some j → (j < length ms) × (get_or ms j 0 ≡ q)) → (i < length (m ∷ ms)) × (get_or (m ∷ ms) i 0 ≡ q)
found_in m q ms true o i here rest e h =
    let zero_is : i ≡ 0 = cc in
    (omega arith, subst (λ (k : ℕ). get_or (m ∷ ms) k 0 ≡ q) (sym zero_is) (eqb-true m q here))
found_in m q ms false None i here rest e h = absurd cc
found_in m q ms false (Some j) i here rest e h =
    let next : i ≡ suc j = cc in
    let r = h j refl in
    let l : j < length ms = r.0 in
    (omega arith, subst (λ (k : ℕ). get_or (m ∷ ms) k 0 ≡ q) (sym next) r.1)

pub index_is : (ns : List ℕ) (q i : ℕ) → index_in ns q ≡ Some i → (i < length ns) × (get_or ns i 0 ≡ q)
index_is [] q i e = absurd cc
index_is (m ∷ ms) q i e = found_in m q ms (nat_eq m q) (index_in ms q) i refl refl e (λ j f. index_is ms q j f)

-- a number that is there is found
there_by : (ms : List ℕ) (q : ℕ) (b : Bool) → ((i : ℕ) × (index_in ms q ≡ Some i)) → (i : ℕ) × (cond b (Some 0) (option_map suc (index_in ms q)) ≡ Some i)
there_by ms q true h = (0, refl)
there_by ms q false h = (suc h.0, ap (λ (o : Option ℕ). option_map suc o) h.1)

pub index_there : (ns : List ℕ) (q k : ℕ) → k < length ns → get_or ns k 0 ≡ q → (i : ℕ) × (index_in ns q ≡ Some i)
index_there [] q k l e = absurd (omega arith)
index_there (m ∷ ms) q zero l e = (0, ap (λ (b : Bool). cond b (Some 0) (option_map suc (index_in ms q))) (eq-eqb m q e))
index_there (m ∷ ms) q (suc k) l e = there_by ms q (nat_eq m q) (index_there ms q k (omega arith) e)

-- the first so many numbers, and one more: by whether a table has it already
none_from : (o : Option ℕ) → is_some o ≡ false → o ≡ None
none_from None e = refl
none_from (Some j) e = absurd cc

some_from : (o : Option ℕ) → is_some o ≡ true → (j : ℕ) × (o ≡ Some j)
some_from None e = absurd cc
some_from (Some j) e = (j, refl)

pub index_turn_new : (list : List ℕ) (i q : ℕ) (o : Option ℕ) → i < length list → o ≡ index_in (take i list) (get_or list i 0) → is_some o ≡ false →
    index_in (take (i + 1) list) q ≡ cond (nat_eq (get_or list i 0) q) (Some i) (index_in (take i list) q)
index_turn_new list i q o l e absent =
    let one : i + 1 ≡ suc i = omega arith in
    let long : length (take i list) ≡ i = length-take-le i list (omega arith) in
    ap (λ (n : ℕ). index_in (take n list) q) one ∙ (ap (λ (xs : List ℕ). index_in xs q) (take-suc list i 0 l)
    ∙ index_new (take i list) (get_or list i 0) q i long (sym e ∙ none_from o absent))

pub index_turn_known : (list : List ℕ) (i q : ℕ) (o : Option ℕ) → i < length list → o ≡ index_in (take i list) (get_or list i 0) → is_some o ≡ true →
    index_in (take (i + 1) list) q ≡ index_in (take i list) q
index_turn_known list i q o l e known =
    let one : i + 1 ≡ suc i = omega arith in
    let found = some_from o known in
    ap (λ (n : ℕ). index_in (take n list) q) one ∙ (ap (λ (xs : List ℕ). index_in xs q) (take-suc list i 0 l)
    ∙ index_known (take i list) (get_or list i 0) q found.0 (sym e ∙ found.1))
