-- Numbers by first appearance: the class of a pair is its place among the pairs met.
use Rattle.std.proofs.Common.{◌≡◌, ℕ, zero, suc, ◌+◌, ◌<◌, ◌≤◌, List, [], ◌∷◌, ◌++◌, length, Bool, true, false, cond, refl, sym, ap, ◌∙◌, subst, inl, inr}
use Rattle.std.proofs.Common.{eqb, arith, get_or, length-append, ltb-true, ltb-false}
use Rattle.std.specs.Prelude.{◌⊎◌, slice_index, nat_eq, nat_lt, not, ◌&&◌, ◌||◌}
use Rattle.std.specs.List.{position_or_len, list_any}
use Rattle.std.proofs.lemmas.List.Folds.{position_or_len_push}
use Rattle.std.proofs.lemmas.List.Sums.{passes_at_first}
use Rattle.std.proofs.lemmas.List.{get_or_append_left, get_or_past}
use Rattle.std.proofs.Math.Seq.{get_or-append_seam}
use Rattle.std.proofs.lemmas.Bool.{eqb-true, eqb-false, eq-eqb, and_parts, false≢true}
use Rattle.value_solver.specs.Numbering.{class_in, IsNumbered, IsMeet}
use Rattle.value_solver.specs.PairNumbers.{is_pair}

-- the place of a pair among the pairs met
abbrev pub place : ℕ × ℕ → List (ℕ × ℕ) → ℕ
place k K = position_or_len (is_pair k) K

abbrev pub met : List (ℕ × ℕ) → ℕ × ℕ → List (ℕ × ℕ)
met K k = cond (list_any (is_pair k) K) K (K ++ k ∷ [])

pub record SoFar (a b : List ℕ) (i : ℕ) (K : List (ℕ × ℕ)) (c : List ℕ) : Type 0 where
  pub long : length c ≡ i
  pub few : length K ≤ i + 1
  pub first : place (0, 0) K ≡ 0
  pub some : 0 < length K
  pub at : (j : ℕ) → j < i → (slice_index c j ≡ place (slice_index a j, slice_index b j) K) × (slice_index c j < length K)
  pub numbered : IsNumbered 1 c (length K)

pub same_refl : (k : ℕ × ℕ) → is_pair k k ≡ true
same_refl (p, q) = subst (λ (z : Bool). z && nat_eq q q ≡ true) (sym (eq-eqb p p refl)) (eq-eqb q q refl)

pub same_pair : (p q r s : ℕ) → is_pair (p, q) (r, s) ≡ true → (p ≡ r) × (q ≡ s)
same_pair p q r s e = let (x, y) = and_parts _ _ e in (eqb-true p r x, eqb-true q s y)

-- a pair that was met keeps its place
stays : (k y : ℕ × ℕ) (K : List (ℕ × ℕ)) → place k K < length K → place k (K ++ y ∷ []) ≡ place k K
stays k y K less = by_case (eqb (place k K) (length K)) refl where
  by_case : (z : Bool) → eqb (place k K) (length K) ≡ z → place k (K ++ y ∷ []) ≡ place k K
  by_case true e = absurd (omega (arith, eqb-true _ _ e))
  by_case false e = position_or_len_push (is_pair k) K y ∙ ap (λ (z : Bool). cond z (length K + cond (is_pair k y) 0 1) (place k K)) e

-- a pair that is looked up has its place among those met then
found : (k : ℕ × ℕ) (K : List (ℕ × ℕ)) → place k (met K k) ≡ place k K
found k K = by_case (list_any (is_pair k) K) (eqb (place k K) (length K)) refl where
  pushed : (z : Bool) → eqb (place k K) (length K) ≡ z → place k (K ++ k ∷ []) ≡ place k K
  pushed true e = position_or_len_push (is_pair k) K k ∙ ap (λ (z : Bool). cond z (length K + cond (is_pair k k) 0 1) (place k K)) e
      ∙ ap (λ (z : Bool). length K + cond z 0 1) (same_refl k) ∙ omega (arith, eqb-true _ _ e)
  pushed false e = position_or_len_push (is_pair k) K k ∙ ap (λ (z : Bool). cond z (length K + cond (is_pair k k) 0 1) (place k K)) e

  by_case : (any z : Bool) → eqb (place k K) (length K) ≡ z → place k (cond any K (K ++ k ∷ [])) ≡ place k K
  by_case true z e = refl
  by_case false z e = pushed z e

-- an older one too
kept : (k y : ℕ × ℕ) (K : List (ℕ × ℕ)) → place k K < length K → (place k (met K y) ≡ place k K) × (length K ≤ length (met K y))
kept k y K less = elim (list_any (is_pair y) K) as (λ z. (place k (cond z K (K ++ y ∷ [])) ≡ place k K) × (length K ≤ length (cond z K (K ++ y ∷ [])))) [
  | true ↦ (refl, omega arith)
  | false ↦ (stays k y K less, simp length-append (omega arith))
]

no_place_more : (p : ℕ × ℕ → Bool) (x : ℕ × ℕ) (xs : List (ℕ × ℕ)) (z : Bool) → p x ≡ z → list_any p (x ∷ xs) ≡ false →
    (list_any p xs ≡ false → position_or_len p xs ≡ length xs) → position_or_len p (x ∷ xs) ≡ suc (length xs)
no_place_more p x xs true f e h = absurd (false≢true (sym e ∙ ap (λ (z : Bool). z || list_any p xs) f))
no_place_more p x xs false f e h = ap (λ (z : Bool). cond (not z) (1 + position_or_len p xs) 0) f
    ∙ ap (λ (n : ℕ). 1 + n) (h (ap (λ (z : Bool). z || list_any p xs) (sym f) ∙ e)) ∙ omega arith

no_place : (p : ℕ × ℕ → Bool) (K : List (ℕ × ℕ)) → list_any p K ≡ false → position_or_len p K ≡ length K
no_place p [] e = refl
no_place p (x ∷ xs) e = no_place_more p x xs (p x) refl e (λ f. no_place p xs f)

any_place_more : (p : ℕ × ℕ → Bool) (x : ℕ × ℕ) (xs : List (ℕ × ℕ)) (z : Bool) → p x ≡ z → list_any p (x ∷ xs) ≡ true →
    (list_any p xs ≡ true → position_or_len p xs < length xs) → position_or_len p (x ∷ xs) < length (x ∷ xs)
any_place_more p x xs true f e h =
    let here : position_or_len p (x ∷ xs) ≡ 0 = ap (λ (z : Bool). cond (not z) (1 + position_or_len p xs) 0) f in omega (arith, here)
any_place_more p x xs false f e h =
    let on : position_or_len p (x ∷ xs) ≡ 1 + position_or_len p xs = ap (λ (z : Bool). cond (not z) (1 + position_or_len p xs) 0) f in
    let rest : position_or_len p xs < length xs = h (sym (ap (λ (z : Bool). z || list_any p xs) f) ∙ e) in
    omega (arith, on, rest)

any_place : (p : ℕ × ℕ → Bool) (K : List (ℕ × ℕ)) → list_any p K ≡ true → position_or_len p K < length K
any_place p [] e = absurd (false≢true e)
any_place p (x ∷ xs) e = any_place_more p x xs (p x) refl e (λ f. any_place p xs f)

-- a pair that was met adds nothing
pub found_place : (k : ℕ × ℕ) (K : List (ℕ × ℕ)) → place k K < length K → K ≡ met K k
found_place k K less = by_case (list_any (is_pair k) K) refl where
  by_case : (z : Bool) → list_any (is_pair k) K ≡ z → K ≡ cond z K (K ++ k ∷ [])
  by_case true e = refl
  by_case false e = let none = no_place (is_pair k) K e in absurd (omega (arith, less, none))

-- one that wasn't comes last
pub no_place_met : (k : ℕ × ℕ) (K : List (ℕ × ℕ)) → length K ≤ place k K → (met K k ≡ K ++ k ∷ []) × (place k K ≡ length K)
no_place_met k K far = by_case (list_any (is_pair k) K) refl where
  by_case : (z : Bool) → list_any (is_pair k) K ≡ z → (cond z K (K ++ k ∷ []) ≡ K ++ k ∷ []) × (place k K ≡ length K)
  by_case true e = let less = any_place (is_pair k) K e in absurd (omega (arith, far, less))
  by_case false e = (refl, no_place (is_pair k) K e)

-- the next number is one that was used, or the first one that wasn't
pub numbered_push : (n m : ℕ) (cs : List ℕ) (c m' : ℕ) → IsNumbered n cs m → ((c < m) × (m' ≡ m)) ⊎ ((c ≡ m) × (m' ≡ suc m)) → IsNumbered n (cs ++ c ∷ []) m'
numbered_push n m [] c m' e (inl (less, same)) = inl (omega (arith, e), e ∙ sym same)
numbered_push n m [] c m' e (inr (here, next)) = inr (here ∙ sym e, ap suc e ∙ sym next)
numbered_push n m (d ∷ cs) c m' (inl (less, h)) s = inl (less, numbered_push n m cs c m' h s)
numbered_push n m (d ∷ cs) c m' (inr (here, h)) s = inr (here, numbered_push (suc n) m cs c m' h s)

next_number : (k : ℕ × ℕ) (K : List (ℕ × ℕ)) (r : ℕ) → r ≡ place k K → r < length (met K k) →
    ((r < length K) × (length (met K k) ≡ length K)) ⊎ ((r ≡ length K) × (length (met K k) ≡ suc (length K)))
next_number k K r here less = by_case (list_any (is_pair k) K) refl less where
  by_case : (z : Bool) → list_any (is_pair k) K ≡ z → r < length (cond z K (K ++ k ∷ [])) →
      ((r < length K) × (length (cond z K (K ++ k ∷ [])) ≡ length K)) ⊎ ((r ≡ length K) × (length (cond z K (K ++ k ∷ [])) ≡ suc (length K)))
  by_case true e h = inl (h, refl)
  by_case false e h = inr (here ∙ no_place (is_pair k) K e, simp length-append (omega arith))

-- the first pair
pub so_far_none : (a b : List ℕ) → SoFar a b 0 ((0, 0) ∷ []) []
so_far_none a b = record {
  long = refl;
  few = omega arith;
  first = refl;
  some = omega arith;
  at = λ j h. absurd (omega arith);
  numbered = refl;
}

-- one more
pub so_far_next : (a b : List ℕ) (i : ℕ) (K L : List (ℕ × ℕ)) (c : List ℕ) (r : ℕ) → SoFar a b i K c → L ≡ met K (slice_index a i, slice_index b i) →
    r ≡ place (slice_index a i, slice_index b i) K → r < length L → SoFar a b (suc i) L (c ++ r ∷ [])
so_far_next a b i K L c r s is here less =
    subst (λ (z : List (ℕ × ℕ)). SoFar a b (suc i) z (c ++ r ∷ [])) (sym is) (grown (subst (λ (z : List (ℕ × ℕ)). r < length z) is less)) where
      k : ℕ × ℕ
      k = (slice_index a i, slice_index b i)

      number : r < length (met K k) → ((r < length K) × (length (met K k) ≡ length K)) ⊎ ((r ≡ length K) × (length (met K k) ≡ suc (length K)))
      number h = next_number k K r here h

      bound : ((r < length K) × (length (met K k) ≡ length K)) ⊎ ((r ≡ length K) × (length (met K k) ≡ suc (length K))) → length (met K k) ≤ suc i + 1
      bound (inl (h, e)) = omega (arith, e, s.few)
      bound (inr (h, e)) = omega (arith, e, s.few)

      old : (j : ℕ) → j < i → (slice_index (c ++ r ∷ []) j ≡ place (slice_index a j, slice_index b j) (met K k))
          × (slice_index (c ++ r ∷ []) j < length (met K k))
      old j h =
          let (at, within) = s.at j h in
          let same = get_or_append_left c (r ∷ []) 0 j (omega (arith, s.long)) in
          let (e, longer) = kept (slice_index a j, slice_index b j) k K (omega (arith, at, within)) in
          (same ∙ at ∙ sym e, omega (arith, same, longer, within))

      new : (j : ℕ) → j ≡ i → r < length (met K k) →
          (slice_index (c ++ r ∷ []) j ≡ place (slice_index a j, slice_index b j) (met K k)) × (slice_index (c ++ r ∷ []) j < length (met K k))
      new j e h =
          let here_now : slice_index (c ++ r ∷ []) j ≡ r = ap (λ (n : ℕ). slice_index (c ++ r ∷ []) n) (e ∙ sym s.long) ∙ get_or-append_seam c r [] 0 in
          (here_now ∙ here ∙ sym (found k K) ∙ ap (λ (n : ℕ). place (slice_index a n, slice_index b n) (met K k)) (sym e), omega (arith, here_now, h))

      each : (j : ℕ) → j < suc i → r < length (met K k) → (z : Bool) → eqb j i ≡ z →
          (slice_index (c ++ r ∷ []) j ≡ place (slice_index a j, slice_index b j) (met K k)) × (slice_index (c ++ r ∷ []) j < length (met K k))
      each j h less true e = new j (eqb-true j i e) less
      each j h less false e = old j (omega (arith, eqb-false j i e))

      grown : r < length (met K k) → SoFar a b (suc i) (met K k) (c ++ r ∷ [])
      grown h =
          let (first, longer) = kept (0, 0) k K (omega (arith, s.first, s.some)) in
          record {
            long = simp length-append (omega (arith, s.long));
            few = bound (number h);
            first = first ∙ s.first;
            some = omega (arith, longer, s.some);
            at = λ j less. each j less h (eqb j i) refl;
            numbered = numbered_push 1 (length K) c r (length (met K k)) s.numbered (number h);
          }

-- all of them
pub so_far_all : (a b : List ℕ) (i : ℕ) (K : List (ℕ × ℕ)) (c : List ℕ) → SoFar a b i K c → length a ≡ i → length b ≡ i → IsMeet a b c
so_far_all a b i K c s la lb = record {
  long = s.long ∙ sym la;
  one = λ x y. (λ e. apart x y e, λ (e, f). (at x).0 ∙ (λ z. place (e z, f z) K) ∙ sym (at y).0);
  numbered = (length K, s.numbered);
} where
  beyond : (xs : List ℕ) (j : ℕ) → length xs ≤ j → slice_index xs j ≡ 0
  beyond xs j h = get_or_past xs j 0 h

  at_index : (j : ℕ) (z : Bool) → nat_lt j i ≡ z → (class_in c (suc j) ≡ place (class_in a (suc j), class_in b (suc j)) K) × (class_in c (suc j) < length K)
  at_index j true h = s.at j (ltb-true j i h)
  at_index j false h =
      let far : i ≤ j = omega (arith, ltb-false j i h) in
      let zc = beyond c j (omega (arith, s.long)) in
      let za = beyond a j (omega (arith, la)) in
      let zb = beyond b j (omega (arith, lb)) in
      (zc ∙ sym s.first ∙ (λ z. place (sym za z, sym zb z) K), omega (arith, zc, s.some))

  at : (x : ℕ) → (class_in c x ≡ place (class_in a x, class_in b x) K) × (class_in c x < length K)
  at zero = (sym s.first, s.some)
  at (suc j) = at_index j (nat_lt j i) refl

  apart : (x y : ℕ) → class_in c x ≡ class_in c y → (class_in a x ≡ class_in a y) × (class_in b x ≡ class_in b y)
  apart x y e =
      let kx : ℕ × ℕ = (class_in a x, class_in b x) in
      let ky : ℕ × ℕ = (class_in a y, class_in b y) in
      let hx = passes_at_first (is_pair kx) K (0, 0) (omega (arith, (at x).0, (at x).1)) in
      let hy = passes_at_first (is_pair ky) K (0, 0) (omega (arith, (at y).0, (at y).1)) in
      let same : place kx K ≡ place ky K = sym (at x).0 ∙ e ∙ (at y).0 in
      let hx' = ap (λ (n : ℕ). is_pair kx (get_or K n (0, 0))) (sym same) ∙ hx in
      let q = get_or K (place ky K) (0, 0) in
      let (ax, bx) = same_pair (class_in a x) (class_in b x) q.0 q.1 hx' in
      let (ay, by) = same_pair (class_in a y) (class_in b y) q.0 q.1 hy in
      (ax ∙ sym ay, bx ∙ sym by)
