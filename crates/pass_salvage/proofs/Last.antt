-- The last of some items that a test passes.
use Rattle.std.proofs.Common.{◌≡◌, ℕ, zero, suc, ◌<◌, ◌≤◌, List, [], ◌∷◌, ◌++◌, length, drop, Option, Some, None, Bool, true, false, cond, ◌||◌, is_some}
use Rattle.std.proofs.Common.{nat_lt, refl, sym, ap, ◌∙◌, arith}
use Rattle.std.proofs.lemmas.Bool.{ltb-true, ltb-false, lt-ltb, le-ltb}
use Rattle.std.specs.List.{list_any}
use Rattle.mir_func.specs.declared.item.Item.{Item}
use Rattle.pass_salvage.specs.SalvageAction.{further}
use Rattle.pass_salvage.specs.Above.{is_past}
use Rattle.pass_salvage.specs.Salvage.{with_number, numbered_at}

past_one : (d : ℕ) (last : Option ℕ) (here : Bool) → is_past (suc d) (further last here) ≡ is_past d last
past_one d (Some n) here = by_test (nat_lt d n) refl where
  by_test : (z : Bool) → nat_lt d n ≡ z → nat_lt (suc d) (suc n) ≡ z
  by_test true e = (let h : d < n = ltb-true d n e in lt-ltb (suc d) (suc n) (omega (arith, h)))
  by_test false e = (let h : n ≤ d = ltb-false d n e in le-ltb (suc d) (suc n) (omega (arith, h)))
past_one d None true = le-ltb (suc d) 0 (omega arith)
past_one d None false = refl

past_none : (last : Option ℕ) (here : Bool) → is_past zero (further last here) ≡ is_some last
past_none (Some n) here = lt-ltb 0 (suc n) (omega arith)
past_none None true = refl
past_none None false = refl

some_further : (last : Option ℕ) (here : Bool) → is_some (further last here) ≡ here || is_some last
some_further (Some n) true = refl
some_further (Some n) false = refl
some_further None true = refl
some_further None false = refl

-- f tells the index of the last item that passes
module _ (f : List Item → Option ℕ) (p : Item → Bool) (none : f [] ≡ None) (step : (x : Item) (xs : List Item) → f (x ∷ xs) ≡ further (f xs) (p x)) where
  -- one more item at the end
  pub last_more : (xs : List Item) (x : Item) → f (xs ++ x ∷ []) ≡ cond (p x) (Some (length xs)) (f xs)
  last_more [] x = step x [] ∙ ap (λ (z : Option ℕ). further z (p x)) none ∙ by_test (p x) ∙ ap (cond (p x) (Some 0)) (sym none) where
    by_test : (z : Bool) → further None z ≡ cond z (Some 0) None
    by_test true = refl
    by_test false = refl
  last_more (y ∷ ys) x =
      step y (ys ++ x ∷ []) ∙ ap (λ (z : Option ℕ). further z (p y)) (last_more ys x) ∙ by_test (p x) ∙ ap (cond (p x) (Some (length (y ∷ ys))))
      (sym (step y ys)) where
        by_test : (z : Bool) → further (cond z (Some (length ys)) (f ys)) (p y) ≡ cond z (Some (length (y ∷ ys))) (further (f ys) (p y))
        by_test true = refl
        by_test false = refl

  -- it is one of them
  pub last_within : (xs : List Item) (d : ℕ) → f xs ≡ Some d → d < length xs
  last_within [] d e = (let bad : ◌≡◌ {A = Option ℕ} None (Some d) = sym none ∙ e in cc)
  last_within (y ∷ ys) d e = by_last (λ n is. last_within ys n is) (f ys) refl (sym (step y ys) ∙ e) where
    by_last : ((n : ℕ) → f ys ≡ Some n → n < length ys) → (last : Option ℕ) → f ys ≡ last → further (f ys) (p y) ≡ Some d → d < length (y ∷ ys)
    by_last before (Some n) is w =
        let both : ◌≡◌ {A = Option ℕ} (Some (suc n)) (Some d) = ap (λ (z : Option ℕ). further z (p y)) (sym is) ∙ w in
        let same : suc n ≡ d = cc in
        let within : n < length ys = before n is in
        omega (arith, same, within)
    by_last before None is w = by_test (p y) (ap (λ (z : Option ℕ). further z (p y)) (sym is) ∙ w) where
      by_test : (z : Bool) → further None z ≡ Some d → d < length (y ∷ ys)
      by_test true v = (let same : 0 ≡ d = cc in omega (arith, same))
      by_test false v = cc

  any_all : (xs : List Item) → list_any p xs ≡ is_some (f xs)
  any_all [] = ap is_some (sym none)
  any_all (y ∷ ys) = ap (λ (z : Bool). p y || z) (any_all ys) ∙ sym (some_further (f ys) (p y)) ∙ ap is_some (sym (step y ys))

  -- one past an index passes exactly where the last is past it
  pub any_past : (xs : List Item) (d : ℕ) → list_any p (drop (suc d) xs) ≡ is_past d (f xs)
  any_past [] d = ap (is_past d) (sym none)
  any_past (y ∷ ys) zero = any_all ys ∙ sym (past_none (f ys) (p y)) ∙ ap (is_past zero) (sym (step y ys))
  any_past (y ∷ ys) (suc d) = any_past ys d ∙ sym (past_one d (f ys) (p y)) ∙ ap (is_past (suc d)) (sym (step y ys))

  -- it doesn't change where code gets a number that the test doesn't see
  pub last_numbered : (n : ℕ) → ((x : Item) → p (record x { kind = with_number n x.kind }) ≡ p x) → (d : ℕ) (xs : List Item) → f (numbered_at d n xs) ≡ f xs
  last_numbered n blind d [] = refl
  last_numbered n blind zero (x ∷ xs) = step _ xs ∙ ap (further (f xs)) (blind x) ∙ sym (step x xs)
  last_numbered n blind (suc d) (x ∷ xs) =
      step x (numbered_at d n xs) ∙ ap (λ (z : Option ℕ). further z (p x)) (last_numbered n blind d xs) ∙ sym (step x xs)
