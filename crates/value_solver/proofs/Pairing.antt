-- The pairs of classes met so far have their places as numbers.
use Rattle.std.proofs.Common.{◌≡◌, ℕ, suc, ◌+◌, ◌<◌, ◌≤◌, List, [], ◌∷◌, ◌++◌, length, Bool, true, false, cond, Option, Some, None}
use Rattle.std.proofs.Common.{refl, sym, ap, ◌∙◌, subst, inl, inr, arith, eqb, ltb-true, ltb-false, length-append}
use Rattle.std.specs.Prelude.{slice_index, nat_eq, nat_lt, not, ◌&&◌}
use Rattle.std.proofs.lemmas.Bool.{eqb-true, eqb-false, eq-eqb, ne_eqb, lt-ltb, le-ltb, false≢true}
use Rattle.std.proofs.lemmas.List.Folds.{position_or_len_push}
use Rattle.value_solver.specs.Numbering.{IsMeet}
use Rattle.value_solver.specs.declared.meet.First.{First}
use Rattle.value_solver.specs.PairNumbers.{IsNumber, is_pair, number_at}
use Rattle.value_solver.proofs.Numbers.{SoFar, so_far_none, so_far_next, so_far_all, same_refl, same_pair, place, met, found_place, no_place_met}

-- the number of a pair among those met
abbrev pub known : List (ℕ × ℕ) → ℕ × ℕ → Option ℕ
known K k = cond (nat_lt (place k K) (length K)) (Some (place k K)) None

-- the first i pairs have their numbers, and the table knows the pairs met
pub record Numbering (a b : List ℕ) (i count : ℕ) (table : ℕ × ℕ → Option ℕ) (c : List ℕ) : Type 0 where
  pub pairs : List (ℕ × ℕ)
  pub so_far : SoFar a b i pairs c
  pub as_many : count ≡ length pairs
  pub each : (k : ℕ × ℕ) → table k ≡ known pairs k

is_known : (J : List (ℕ × ℕ)) (w : ℕ × ℕ) (n : ℕ) → place w J ≡ n → n < length J → known J w ≡ Some n
is_known J w n at less =
    ap (λ (z : ℕ). cond (nat_lt z (length J)) (Some z) None) at ∙ ap (λ (z : Bool). cond z (Some n) None) (lt-ltb n (length J) less)

is_unknown : (J : List (ℕ × ℕ)) (w : ℕ × ℕ) → length J ≤ place w J → known J w ≡ None
is_unknown J w far = ap (λ (z : Bool). cond z (Some (place w J)) None) (le-ltb (place w J) (length J) far)

-- equal pairs are the same
pair_is : (k w : ℕ × ℕ) → is_pair k w ≡ true → w ≡ k
pair_is (p, q) (r, s) e = let (x, y) = same_pair p q r s e in λ i. (sym x i, sym y i)

-- a pair that differs from another: the other one differs from it
apart_too : (k w : ℕ × ℕ) → is_pair k w ≡ false → is_pair w k ≡ false
apart_too k w e = by_test (is_pair w k) refl where
  by_test : (z : Bool) → is_pair w k ≡ z → is_pair w k ≡ false
  by_test false h = h
  by_test true h = absurd (false≢true (sym e ∙ ap (λ (z : ℕ × ℕ). is_pair z w) (pair_is w k h) ∙ same_refl w))

-- the pair of 0 and 0 is met first
pub numbering_begins : (a b : List ℕ) (table : ℕ × ℕ → Option ℕ) (c : List ℕ) → c ≡ [] →
    ((k : ℕ × ℕ) → table k ≡ cond (is_pair (0, 0) k) (Some 0) None) → Numbering a b 0 1 table c
numbering_begins a b table c none each = record {
  pairs = (0, 0) ∷ [];
  so_far = subst (λ (z : List ℕ). SoFar a b 0 ((0, 0) ∷ []) z) (sym none) (so_far_none a b);
  as_many = refl;
  each = λ k. each k ∙ zeros_alone k;
} where
  by_pair : (k : ℕ × ℕ) (z : Bool) → is_pair (0, 0) k ≡ z → cond z (Some 0) None ≡ known ((0, 0) ∷ []) k
  by_pair k true e = sym (ap (λ (w : ℕ × ℕ). known ((0, 0) ∷ []) w) (pair_is (0, 0) k e))
  by_pair k false e =
      let far : place k ((0, 0) ∷ []) ≡ 1 = ap (λ (z : Bool). cond (not z) 1 0) (apart_too (0, 0) k e) in
      sym (is_unknown ((0, 0) ∷ []) k (omega (arith, far)))

  zeros_alone : (k : ℕ × ℕ) → cond (is_pair (0, 0) k) (Some 0) None ≡ known ((0, 0) ∷ []) k
  zeros_alone k = by_pair k (is_pair (0, 0) k) refl

none_some : {z : ℕ} → None ≡ Some z → ⊥
none_some e = cc

some_none : {z : ℕ} → Some z ≡ None → ⊥
some_none e = cc

known_is : (K : List (ℕ × ℕ)) (k : ℕ × ℕ) (n : ℕ) → known K k ≡ Some n → (n ≡ place k K) × (n < length K)
known_is K k n e = by_test (nat_lt (place k K) (length K)) refl e where
  by_test : (z : Bool) → nat_lt (place k K) (length K) ≡ z → cond z (Some (place k K)) None ≡ Some n → (n ≡ place k K) × (n < length K)
  by_test true h same =
      let here : n ≡ place k K = cc in
      let less : place k K < length K = ltb-true (place k K) (length K) h in
      (here, omega (arith, here, less))
  by_test false h same = absurd (none_some same)

unknown_is : (K : List (ℕ × ℕ)) (k : ℕ × ℕ) → known K k ≡ None → length K ≤ place k K
unknown_is K k e = by_test (nat_lt (place k K) (length K)) refl e where
  by_test : (z : Bool) → nat_lt (place k K) (length K) ≡ z → cond z (Some (place k K)) None ≡ None → length K ≤ place k K
  by_test true h same = absurd (some_none same)
  by_test false h same = ltb-false (place k K) (length K) h

-- what a table knows after one more pair
module _ (K : List (ℕ × ℕ)) (k w : ℕ × ℕ) (count : ℕ) (same : count ≡ length K) (none : place k K ≡ length K) where
  abbrev after : List (ℕ × ℕ)
  after = K ++ k ∷ []

  long : length after ≡ length K + 1
  long = length-append K (k ∷ [])

  pushed : place w after ≡ cond (eqb (place w K) (length K)) (length K + cond (is_pair w k) 0 1) (place w K)
  pushed = position_or_len_push (is_pair w) K k

  at_end : (z : Bool) → is_pair w k ≡ z → place w K ≡ length K → place w after ≡ length K + cond z 0 1
  at_end z pair far =
      pushed ∙ ap (λ (q : Bool). cond q (length K + cond (is_pair w k) 0 1) (place w K)) (eq-eqb (place w K) (length K) far) ∙
      ap (λ (q : Bool). length K + cond q 0 1) pair

  other : is_pair w k ≡ false → (z : Bool) → nat_lt (place w K) (length K) ≡ z → known K w ≡ known after w
  other apart true h =
      let less : place w K < length K = ltb-true (place w K) (length K) h in
      let stays : place w after ≡ place w K =
      pushed ∙ ap (λ (q : Bool). cond q (length K + cond (is_pair w k) 0 1) (place w K)) (ne_eqb (place w K) (length K) (λ e. omega (arith, e, less))) in
      let l = long in
      is_known K w (place w K) refl less ∙ sym (is_known after w (place w K) stays (omega (arith, less, l)))
  other apart false h =
      let far = ltb-false (place w K) (length K) h in
      let end = (no_place_met w K far).1 in
      let last : place w after ≡ length K + 1 = at_end false apart end in
      let l = long in
      is_unknown K w far ∙ sym (is_unknown after w (omega (arith, last, l)))

  by_pair : (z : Bool) → is_pair k w ≡ z → cond z (Some count) (known K w) ≡ known after w
  by_pair true e =
      let is : w ≡ k = pair_is k w e in
      let end : place w K ≡ length K = ap (λ (u : ℕ × ℕ). place u K) is ∙ none in
      let pair : is_pair w k ≡ true = ap (λ (u : ℕ × ℕ). is_pair u k) is ∙ same_refl k in
      let last : place w after ≡ length K = at_end true pair end ∙ omega arith in
      let l = long in
      ap (λ (n : ℕ). Some n) same ∙ sym (is_known after w (length K) last (omega (arith, l)))
  by_pair false e = other (apart_too k w e) (nat_lt (place w K) (length K)) refl

  known_more : cond (is_pair k w) (Some count) (known K w) ≡ known after w
  known_more = by_pair (is_pair k w) refl

-- one more pair
pub numbering_next : (a b : List ℕ) (i count more : ℕ) (table after : ℕ × ℕ → Option ℕ) (c : List ℕ) (n : ℕ) →
    IsNumber table after (slice_index a i, slice_index b i) count more n → Numbering a b i count table c → Numbering a b (suc i) more after (c ++ n ∷ [])
numbering_next a b i count more table after c n (inl (at, same, none_more)) s =
    let K = s.pairs in
    let k : ℕ × ℕ = (slice_index a i, slice_index b i) in
    let (here, less) = known_is K k n (sym (s.each k) ∙ at) in
    let old : K ≡ met K k = found_place k K (omega (arith, here, less)) in
    record {
      pairs = K;
      so_far = so_far_next a b i K K c n s.so_far old here less;
      as_many = none_more ∙ s.as_many;
      each = λ w. same w ∙ s.each w;
    }
numbering_next a b i count more table after c n (inr (at, put, one_more, new)) s =
    let K = s.pairs in
    let k : ℕ × ℕ = (slice_index a i, slice_index b i) in
    let far : length K ≤ place k K = unknown_is K k (sym (s.each k) ∙ at) in
    let L : List (ℕ × ℕ) = K ++ k ∷ [] in
    let (added, here) = no_place_met k K far in
    let long : length L ≡ length K + 1 = length-append K (k ∷ []) in
    let m = s.as_many in
    record {
      pairs = L;
      so_far = so_far_next a b i K L c n s.so_far (sym added) (new ∙ m ∙ sym here) (omega (arith, new, m, long));
      as_many = omega (arith, one_more, m, long);
      each = λ w. put w ∙ ap (λ (o : Option ℕ). cond (is_pair k w) (Some count) o) (s.each w) ∙ known_more K k w count m here;
    }

-- all of them
pub numbering_ends : (a b : List ℕ) (i count : ℕ) (table : ℕ × ℕ → Option ℕ) (c : List ℕ) → i ≡ length a → length b ≡ length a →
    Numbering a b i count table c → IsMeet a b c
numbering_ends a b i count table c all long s = so_far_all a b i s.pairs c s.so_far (sym all) (long ∙ sym all)

-- ---- what a pair's number is put into

and_true : (z : Bool) → (z && true) ≡ z
and_true true = refl
and_true false = refl

and_false : (z : Bool) → (z && false) ≡ false
and_false true = refl
and_false false = refl

-- where a class has no first pair, it is put there
pub put_first : (old new : ℕ → Option First) (other : ℕ × ℕ → Option ℕ) (a b n : ℕ) → old b ≡ None →
    ((v : ℕ) → new v ≡ cond (nat_eq v b) (Some (record { class = a; number = n })) (old v)) → (k : ℕ × ℕ) →
    number_at (new k.1) k.0 (other k) ≡ cond (is_pair (a, b) k) (Some n) (number_at (old k.1) k.0 (other k))
put_first old new other a b n free put k = by_class (eqb k.1 b) refl where
  first : First
  first = record { class = a; number = n }

  by_class : (z : Bool) → eqb k.1 b ≡ z → number_at (new k.1) k.0 (other k) ≡ cond (is_pair (a, b) k) (Some n) (number_at (old k.1) k.0 (other k))
  by_class true e =
      let is : k.1 ≡ b = eqb-true k.1 b e in
      let here : new k.1 ≡ Some first = put k.1 ∙ ap (λ (z : Bool). cond z (Some first) (old k.1)) e in
      let room : old k.1 ≡ None = ap old is ∙ free in
      ap (λ (o : Option First). number_at o k.0 (other k)) here ∙
      sym (ap (λ (z : Bool). cond (nat_eq a k.0 && z) (Some n) (number_at (old k.1) k.0 (other k))) (eq-eqb b k.1 (sym is)) ∙
      ap (λ (o : Option First). cond (nat_eq a k.0 && true) (Some n) (number_at o k.0 (other k))) room ∙
      ap (λ (z : Bool). cond z (Some n) (other k)) (and_true (nat_eq a k.0)))
  by_class false e =
      let same : new k.1 ≡ old k.1 = put k.1 ∙ ap (λ (z : Bool). cond z (Some first) (old k.1)) e in
      let apart : nat_eq b k.1 ≡ false = ne_eqb b k.1 (λ h. eqb-false k.1 b e (sym h)) in
      ap (λ (o : Option First). number_at o k.0 (other k)) same ∙
      sym (ap (λ (z : Bool). cond (nat_eq a k.0 && z) (Some n) (number_at (old k.1) k.0 (other k))) apart ∙
      ap (λ (z : Bool). cond z (Some n) (number_at (old k.1) k.0 (other k))) (and_false (nat_eq a k.0)))

-- a pair without a number isn't its class's first one
not_first : (first : Option First) (a : ℕ) (other more : Option ℕ) → number_at first a other ≡ None → number_at first a more ≡ more
not_first None a other more none = refl
not_first (Some first) a other more none = by_class (nat_eq first.class a) refl none where
  by_class : (z : Bool) → nat_eq first.class a ≡ z → cond z (Some first.number) other ≡ None → number_at (Some first) a more ≡ more
  by_class true e h = absurd (some_none h)
  by_class false e h = ap (λ (z : Bool). cond z (Some first.number) more) e

-- otherwise it is put among the others
pub put_behind : (first : ℕ → Option First) (old new : ℕ × ℕ → Option ℕ) (a b n : ℕ) → number_at (first b) a (old (a, b)) ≡ None →
    ((k : ℕ × ℕ) → new k ≡ cond (is_pair (a, b) k) (Some n) (old k)) → (k : ℕ × ℕ) →
    number_at (first k.1) k.0 (new k) ≡ cond (is_pair (a, b) k) (Some n) (number_at (first k.1) k.0 (old k))
put_behind first old new a b n none put k = by_pair (is_pair (a, b) k) refl where
  by_pair : (z : Bool) → is_pair (a, b) k ≡ z → number_at (first k.1) k.0 (new k) ≡ cond (is_pair (a, b) k) (Some n) (number_at (first k.1) k.0 (old k))
  by_pair true e =
      let is : k ≡ (a, b) = pair_is (a, b) k e in
      let here : new k ≡ Some n = put k ∙ ap (λ (z : Bool). cond z (Some n) (old k)) e in
      ap (λ (o : Option ℕ). number_at (first k.1) k.0 o) here ∙ ap (λ (u : ℕ × ℕ). number_at (first u.1) u.0 (Some n)) is ∙
      not_first (first b) a (old (a, b)) (Some n) none ∙ sym (ap (λ (z : Bool). cond z (Some n) (number_at (first k.1) k.0 (old k))) e)
  by_pair false e =
      ap (λ (o : Option ℕ). number_at (first k.1) k.0 o) (put k ∙ ap (λ (z : Bool). cond z (Some n) (old k)) e) ∙
      sym (ap (λ (z : Bool). cond z (Some n) (number_at (first k.1) k.0 (old k))) e)

-- where a pair has no number, it has none behind its class's first one
pub none_behind : (first : Option First) (a : ℕ) (other : Option ℕ) → number_at first a other ≡ None → other ≡ None
none_behind None a other none = none
none_behind (Some first) a other none = by_class (nat_eq first.class a) none where
  by_class : (z : Bool) → cond z (Some first.number) other ≡ None → other ≡ None
  by_class true h = absurd (some_none h)
  by_class false h = h

-- ---- the same by the first class

swap : (x y : Bool) → (x && y) ≡ (y && x)
swap true true = refl
swap true false = refl
swap false true = refl
swap false false = refl

-- where a class has no first pair, it is put there
pub put_second : (old new : ℕ → Option First) (other : ℕ × ℕ → Option ℕ) (a b n : ℕ) → old a ≡ None →
    ((v : ℕ) → new v ≡ cond (nat_eq v a) (Some (record { class = b; number = n })) (old v)) → (k : ℕ × ℕ) →
    number_at (new k.0) k.1 (other k) ≡ cond (is_pair (a, b) k) (Some n) (number_at (old k.0) k.1 (other k))
put_second old new other a b n free put k =
    put_first old new (λ (w : ℕ × ℕ). other (w.1, w.0)) b a n free put (k.1, k.0)
    ∙ ap (λ (z : Bool). cond z (Some n) (number_at (old k.0) k.1 (other k))) (swap (nat_eq b k.1) (nat_eq a k.0))

-- otherwise it is put among the others
pub put_last : (first : ℕ → Option First) (old new : ℕ × ℕ → Option ℕ) (a b n : ℕ) → number_at (first a) b (old (a, b)) ≡ None →
    ((k : ℕ × ℕ) → new k ≡ cond (is_pair (a, b) k) (Some n) (old k)) → (k : ℕ × ℕ) →
    number_at (first k.0) k.1 (new k) ≡ cond (is_pair (a, b) k) (Some n) (number_at (first k.0) k.1 (old k))
put_last first old new a b n none put k =
    put_behind first (λ (w : ℕ × ℕ). old (w.1, w.0)) (λ (w : ℕ × ℕ). new (w.1, w.0)) b a n none
    (λ w. put (w.1, w.0) ∙ ap (λ (z : Bool). cond z (Some n) (old (w.1, w.0))) (swap (nat_eq a w.1) (nat_eq b w.0))) (k.1, k.0)
    ∙ ap (λ (z : Bool). cond z (Some n) (number_at (first k.0) k.1 (old k))) (swap (nat_eq b k.1) (nat_eq a k.0))

-- ---- no pair is behind where its class has no first one

-- a first pair is put
pub tidy_first : (old new : ℕ → Option First) (behind : ℕ × ℕ → Option ℕ) (b count : ℕ) (first : First) →
    ((v : ℕ) → new v ≡ cond (nat_eq v b) (Some first) (old v)) → ((k : ℕ × ℕ) → k.1 < count → old k.1 ≡ None → behind k ≡ None) → (k : ℕ × ℕ) →
    k.1 < count → new k.1 ≡ None → behind k ≡ None
tidy_first old new behind b count first put tidy k lt none = by_class (nat_eq k.1 b) (sym (put k.1) ∙ none) where
  by_class : (z : Bool) → cond z (Some first) (old k.1) ≡ None → behind k ≡ None
  by_class true e = absurd (let bad : Some first ≡ None = e in cc)
  by_class false e = tidy k lt e

-- a pair is put behind a first one, or where there is no place for one
pub tidy_behind : (first : ℕ → Option First) (old new : ℕ × ℕ → Option ℕ) (a b n count : ℕ) → (b < count → first b ≡ None → ⊥) →
    ((k : ℕ × ℕ) → new k ≡ cond (is_pair (a, b) k) (Some n) (old k)) → ((k : ℕ × ℕ) → k.1 < count → first k.1 ≡ None → old k ≡ None) →
    (k : ℕ × ℕ) → k.1 < count → first k.1 ≡ None → new k ≡ None
tidy_behind first old new a b n count taken put tidy k lt none = by_pair (is_pair (a, b) k) refl where
  by_pair : (z : Bool) → is_pair (a, b) k ≡ z → new k ≡ None
  by_pair true e =
      let is : k.1 ≡ b = ap (λ (w : ℕ × ℕ). w.1) (pair_is (a, b) k e) in
      absurd (taken (subst (λ (m : ℕ). m < count) is lt) (subst (λ (m : ℕ). first m ≡ None) is none))
  by_pair false e = put k ∙ ap (λ (z : Bool). cond z (Some n) (old k)) e ∙ tidy k lt none
