-- A change makes an entry heavier: it has more classes, or fewer bits are set.
use Rattle.std.proofs.Common.{◌≡◌, ℕ, zero, suc, ◌+◌, ◌-◌, ◌*◌, ◌<◌, ◌≤◌, List, [], ◌∷◌, length, Some, Bool, true, false, cond, refl, sym, ap, ◌∙◌, subst}
use Rattle.std.proofs.Common.{inl, inr, arith, mul-suc, ltb-true, ltb-false}
use Rattle.std.specs.Prelude.{◌⊎◌, max, slice_index, slice_index_or, slice_get, slice_set, nat_lt}
use Rattle.std.proofs.lemmas.Bool.{false≢true}
use Rattle.value_solver.specs.declared.entry.BlockEntry.{BlockEntry}
use Rattle.value_solver.specs.Numbering.{class_in, IsNumbered}
use Rattle.value_solver.specs.Joining.{IsKnown}
use Rattle.value_solver.specs.Hands.{IsShaped}
use Rattle.value_solver.specs.Invariants.{classes_from, count_off, weight, weight_of}

pub numbered_grows : (n : ℕ) (cs : List ℕ) (m : ℕ) → IsNumbered n cs m → n ≤ m
numbered_grows n [] m h = omega (arith, h)
numbered_grows n (c ∷ cs) m (inl (less, h)) = numbered_grows n cs m h
numbered_grows n (c ∷ cs) m (inr (same, h)) = omega (arith, numbered_grows (suc n) cs m h)

pub numbered_few : (n : ℕ) (cs : List ℕ) (m : ℕ) → IsNumbered n cs m → m ≤ n + length cs
numbered_few n [] m h = omega (arith, h)
numbered_few n (c ∷ cs) m (inl (less, h)) = omega (arith, numbered_few n cs m h)
numbered_few n (c ∷ cs) m (inr (same, h)) = omega (arith, numbered_few (suc n) cs m h)

pub numbered_below : (n : ℕ) (cs : List ℕ) (m : ℕ) → IsNumbered n cs m → 0 < n → (i : ℕ) → slice_index cs i < m
numbered_below n [] m h pos i = omega (arith, h)
numbered_below n (c ∷ cs) m (inl (less, h)) pos zero = omega (arith, numbered_grows n cs m h)
numbered_below n (c ∷ cs) m (inl (less, h)) pos (suc i) = numbered_below n cs m h pos i
numbered_below n (c ∷ cs) m (inr (same, h)) pos zero = omega (arith, numbered_grows (suc n) cs m h)
numbered_below n (c ∷ cs) m (inr (same, h)) pos (suc i) = numbered_below (suc n) cs m h (omega arith) i

pub numbered_count : (n : ℕ) (cs : List ℕ) (m : ℕ) → IsNumbered n cs m → classes_from n cs ≡ m - 1
numbered_count n [] m h = ap (λ (z : ℕ). z - 1) h
numbered_count n (c ∷ cs) m (inl (less, h)) =
    let same : max n (suc c) ≡ n = omega arith in ap (λ (z : ℕ). classes_from z cs) same ∙ numbered_count n cs m h
numbered_count n (c ∷ cs) m (inr (same, h)) =
    let next : max n (suc c) ≡ suc n = omega (arith, same) in ap (λ (z : ℕ). classes_from z cs) next ∙ numbered_count (suc n) cs m h

-- classes that are finer are more, or the same
pub record Beside (a b : ℕ → ℕ) (i n k : ℕ) (cs ds : List ℕ) : Type 0 where
  pub long : length cs ≡ length ds
  pub at_a : (j : ℕ) → j < length cs → a (suc (i + j)) ≡ slice_index cs j
  pub at_b : (j : ℕ) → j < length ds → b (suc (i + j)) ≡ slice_index ds j
  pub finer : (x y : ℕ) → a x ≡ a y → b x ≡ b y
  pub used : (c : ℕ) → c < n → (x : ℕ) × (x ≤ i) × (a x ≡ c)
  pub below : (x : ℕ) → x ≤ i → b x < k
  pub so_far : (k < n) ⊎ ((k ≡ n) × ((x : ℕ) → x ≤ i → a x ≡ b x))

-- the first of each is passed
passed_used : (a b : ℕ → ℕ) (i n k : ℕ) (c d : ℕ) (cs ds : List ℕ) → Beside a b i n k (c ∷ cs) (d ∷ ds) → (c ≡ n) → (e : ℕ) → e < suc n → (x : ℕ)
    × (x ≤ suc i) × (a x ≡ e)
passed_used a b i n k c d cs ds s new e less = by_case (nat_lt e n) refl where
  by_case : (z : Bool) → nat_lt e n ≡ z → (x : ℕ) × (x ≤ suc i) × (a x ≡ e)
  by_case true h = let (x, far, is) = s.used e (ltb-true e n h) in (x, omega arith, is)
  by_case false h =
      let here : suc (i + 0) ≡ suc i = omega arith in
      (suc i, omega arith, ap a (sym here) ∙ s.at_a 0 (omega arith) ∙ new ∙ omega (arith, ltb-false e n h))

at_next : (a : ℕ → ℕ) (i : ℕ) (c : ℕ) (cs : List ℕ) → ((j : ℕ) → j < length (c ∷ cs) → a (suc (i + j)) ≡ slice_index (c ∷ cs) j) →
    (j : ℕ) → j < length cs → a (suc (suc i + j)) ≡ slice_index cs j
at_next a i c cs h j less = let same : suc (suc i + j) ≡ suc (i + suc j) = omega arith in ap a same ∙ h (suc j) (omega arith)

at_here : (a : ℕ → ℕ) (i : ℕ) (c : ℕ) (cs : List ℕ) → ((j : ℕ) → j < length (c ∷ cs) → a (suc (i + j)) ≡ slice_index (c ∷ cs) j) → a (suc i) ≡ c
at_here a i c cs h = let same : suc i ≡ suc (i + 0) = omega arith in ap a same ∙ h 0 (omega arith)

up_to : (i : ℕ) (P : ℕ → Type 0) → ((x : ℕ) → x ≤ i → P x) → P (suc i) → (x : ℕ) → x ≤ suc i → P x
up_to i P h last x le = by_case (nat_lt x (suc i)) refl where
  by_case : (z : Bool) → nat_lt x (suc i) ≡ z → P x
  by_case true e = h x (omega (arith, ltb-true x (suc i) e))
  by_case false e = let same : suc i ≡ x = omega (arith, ltb-false x (suc i) e) in subst P same last

-- a class that was there before is one that was there before on the coarser side too
was_there : (a b : ℕ → ℕ) (i n k c d : ℕ) (cs ds : List ℕ) → Beside a b i n k (c ∷ cs) (d ∷ ds) → c < n → (d < k) × ((k ≡ n) × ((x : ℕ) → x ≤ i →
    a x ≡ b x) → c ≡ d)
was_there a b i n k c d cs ds s old =
    let (x, far, is) = s.used c old in
    let here = at_here a i c cs s.at_a in
    let there = at_here b i d ds s.at_b in
    let same : b x ≡ b (suc i) = s.finer x (suc i) (is ∙ sym here) in
    (omega (arith, s.below x far, same, there), λ (e, all). sym is ∙ all x far ∙ same ∙ there)

-- there are more classes, or all are the same
abbrev pub MoreOrSame : (a b : ℕ → ℕ) (i n k m l : ℕ) (cs ds : List ℕ) → Type 0
MoreOrSame a b i n k m l cs ds = (l < m) ⊎ ((k ≡ n) × ((x : ℕ) → x ≤ i → a x ≡ b x) × (l ≡ m) × (cs ≡ ds))

few_so_far : (a b : ℕ → ℕ) (i n k : ℕ) → (k < n) ⊎ ((k ≡ n) × ((x : ℕ) → x ≤ i → a x ≡ b x)) → k ≤ n
few_so_far a b i n k (inl less) = omega arith
few_so_far a b i n k (inr (same, all)) = omega (arith, same)

after_known : (a b : ℕ → ℕ) (i n k c d : ℕ) (cs ds : List ℕ) → Beside a b i n k (c ∷ cs) (d ∷ ds) → c < n → d < k → Beside a b (suc i) n k cs ds
after_known a b i n k c d cs ds s old known = record {
  long = omega (arith, s.long);
  at_a = at_next a i c cs s.at_a;
  at_b = at_next b i d ds s.at_b;
  finer = s.finer;
  used = λ e less. let (x, far, is) = s.used e less in (x, omega arith, is);
  below = up_to i (λ x. b x < k) s.below (omega (arith, at_here b i d ds s.at_b));
  so_far = on s.so_far;
} where
  on : (k < n) ⊎ ((k ≡ n) × ((x : ℕ) → x ≤ i → a x ≡ b x)) → (k < n) ⊎ ((k ≡ n) × ((x : ℕ) → x ≤ suc i → a x ≡ b x))
  on (inl less) = inl less
  on (inr (same, all)) =
      inr (
        same,
        up_to i (λ x. a x ≡ b x) all
            (at_here a i c cs s.at_a ∙ (was_there a b i n k c d cs ds s old).1 (same, all) ∙ sym (at_here b i d ds s.at_b)),
      )

after_fresh : (a b : ℕ → ℕ) (i n k c d : ℕ) (cs ds : List ℕ) → Beside a b i n k (c ∷ cs) (d ∷ ds) → c ≡ n → d < k → Beside a b (suc i) (suc n) k cs ds
after_fresh a b i n k c d cs ds s fresh known = record {
  long = omega (arith, s.long);
  at_a = at_next a i c cs s.at_a;
  at_b = at_next b i d ds s.at_b;
  finer = s.finer;
  used = passed_used a b i n k c d cs ds s fresh;
  below = up_to i (λ x. b x < k) s.below (omega (arith, at_here b i d ds s.at_b));
  so_far = inl (omega (arith, few_so_far a b i n k s.so_far));
}

after_both : (a b : ℕ → ℕ) (i n k c d : ℕ) (cs ds : List ℕ) → Beside a b i n k (c ∷ cs) (d ∷ ds) → c ≡ n → d ≡ k → Beside a b (suc i) (suc n) (suc k) cs ds
after_both a b i n k c d cs ds s fresh new = record {
  long = omega (arith, s.long);
  at_a = at_next a i c cs s.at_a;
  at_b = at_next b i d ds s.at_b;
  finer = s.finer;
  used = passed_used a b i n k c d cs ds s fresh;
  below = up_to i (λ x. b x < suc k) (λ x le. omega (arith, s.below x le)) (omega (arith, new, at_here b i d ds s.at_b));
  so_far = on s.so_far;
} where
  on : (k < n) ⊎ ((k ≡ n) × ((x : ℕ) → x ≤ i → a x ≡ b x)) → (suc k < suc n) ⊎ ((suc k ≡ suc n) × ((x : ℕ) → x ≤ suc i → a x ≡ b x))
  on (inl less) = inl (omega arith)
  on (inr (same, all)) =
      inr (ap suc same, up_to i (λ x. a x ≡ b x) all (at_here a i c cs s.at_a ∙ fresh ∙ sym same ∙ sym new ∙ sym (at_here b i d ds s.at_b)))

-- what holds of the rest holds of all
with_first : (a b : ℕ → ℕ) (i n k n' k' m l c d : ℕ) (cs ds : List ℕ) → Beside a b i n k (c ∷ cs) (d ∷ ds) → (k' ≡ n' → k ≡ n) →
    MoreOrSame a b (suc i) n' k' m l cs ds → MoreOrSame a b i n k m l (c ∷ cs) (d ∷ ds)
with_first a b i n k n' k' m l c d cs ds s back (inl less) = inl less
with_first a b i n k n' k' m l c d cs ds s back (inr (same, all, count, rest)) =
    let first = sym (at_here a i c cs s.at_a) ∙ all (suc i) (omega arith) ∙ at_here b i d ds s.at_b in
    inr (back same, λ x le. all x (omega arith), count, λ z. first z ∷ rest z)

at_end : (a b : ℕ → ℕ) (i n k m l : ℕ) (cs ds : List ℕ) → cs ≡ ds → n ≡ m → k ≡ l → (k < n) ⊎ ((k ≡ n) × ((x : ℕ) → x ≤ i → a x ≡ b x)) →
    MoreOrSame a b i n k m l cs ds
at_end a b i n k m l cs ds e p q (inl less) = inl (omega (arith, p, q))
at_end a b i n k m l cs ds e p q (inr (same, all)) = inr (same, all, sym q ∙ same ∙ p, e)

pub finer_or_same : (a b : ℕ → ℕ) (i n k m l : ℕ) (cs ds : List ℕ) → Beside a b i n k cs ds → IsNumbered n cs m → IsNumbered k ds l →
    MoreOrSame a b i n k m l cs ds
finer_or_same a b i n k m l [] [] s p q = at_end a b i n k m l [] [] refl p q s.so_far
finer_or_same a b i n k m l [] (d ∷ ds) s p q = absurd (omega (arith, s.long))
finer_or_same a b i n k m l (c ∷ cs) [] s p q = absurd (omega (arith, s.long))
finer_or_same a b i n k m l (c ∷ cs) (d ∷ ds) s (inl (old, p)) (inr (new, q)) = absurd (omega (arith, new, (was_there a b i n k c d cs ds s old).0))
finer_or_same a b i n k m l (c ∷ cs) (d ∷ ds) s (inl (old, p)) (inl (known, q)) =
    with_first a b i n k n k m l c d cs ds s (λ e. e) (finer_or_same a b (suc i) n k m l cs ds (after_known a b i n k c d cs ds s old known) p q)
finer_or_same a b i n k m l (c ∷ cs) (d ∷ ds) s (inr (fresh, p)) (inl (known, q)) =
    with_first a b i n k (suc n) k m l c d cs ds s (λ e. absurd (omega (arith, e, few_so_far a b i n k s.so_far)))
    (finer_or_same a b (suc i) (suc n) k m l cs ds (after_fresh a b i n k c d cs ds s fresh known) p q)
finer_or_same a b i n k m l (c ∷ cs) (d ∷ ds) s (inr (fresh, p)) (inr (new, q)) =
    with_first a b i n k (suc n) (suc k) m l c d cs ds s (λ e. omega (arith, e))
    (finer_or_same a b (suc i) (suc n) (suc k) m l cs ds (after_both a b i n k c d cs ds s fresh new) p q)

-- bits of which fewer are set
pub fewer_bits : (gs hs : List Bool) → length gs ≡ length hs → ((i : ℕ) → i < length gs → slice_index_or gs i false ≡ true → slice_index_or hs i false ≡ true) →
    (count_off hs < count_off gs) ⊎ ((count_off hs ≡ count_off gs) × (gs ≡ hs))
fewer_bits [] [] long h = inr (refl, refl)
fewer_bits [] (z ∷ hs) long h = absurd (omega (arith, long))
fewer_bits (z ∷ gs) [] long h = absurd (omega (arith, long))
fewer_bits (z ∷ gs) (w ∷ hs) long h =
    first z w (h 0 (omega arith)) (fewer_bits gs hs (omega (arith, long)) (λ i less. h (suc i) (omega arith))) where
      first : (z w : Bool) → (z ≡ true → w ≡ true) → (count_off hs < count_off gs) ⊎ ((count_off hs ≡ count_off gs) × (gs ≡ hs)) →
          (count_off (w ∷ hs) < count_off (z ∷ gs)) ⊎ ((count_off (w ∷ hs) ≡ count_off (z ∷ gs)) × (z ∷ gs ≡ w ∷ hs))
      first true true f (inl less) = inl less
      first true true f (inr (e, same)) = inr (e, ap (λ (q : List Bool). true ∷ q) same)
      first true false f r = absurd (false≢true (f refl))
      first false true f (inl less) = inl (omega arith)
      first false true f (inr (e, same)) = inl (omega (arith, e))
      first false false f (inl less) = inl (omega arith)
      first false false f (inr (e, same)) = inr (ap suc e, ap (λ (q : List Bool). false ∷ q) same)

pub few_off : (gs : List Bool) → count_off gs ≤ length gs
few_off [] = omega arith
few_off (true ∷ gs) = omega (arith, few_off gs)
few_off (false ∷ gs) = omega (arith, few_off gs)

-- ---- whole entries

-- two entries of which one is finer
pub record IsFiner (n : ℕ) (e o : BlockEntry) : Type 0 where
  pub one : (x y : ℕ) → class_in e.classes x ≡ class_in e.classes y → class_in o.classes x ≡ class_in o.classes y
  pub bit : (i : ℕ) → i < n → slice_index_or e.given i false ≡ true → slice_index_or o.given i false ≡ true

pub heavier : (n : ℕ) (e o : BlockEntry) (m l : ℕ) → IsKnown n e → IsKnown n o → e.reached ≡ true → o.reached ≡ true → IsNumbered 1 e.classes m →
    IsNumbered 1 o.classes l →
    IsFiner n e o → (o ≡ e → ⊥) → weight o < weight e
heavier n e o m l ke ko re ro pe po f differ = by_case (finer_or_same (class_in e.classes) (class_in o.classes) 0 1 1 m l e.classes o.classes beside pe po)
    (fewer_bits e.given o.given (ke.bits ∙ sym ko.bits) (λ i less. f.bit i (omega (arith, ke.bits)))) where
      beside : Beside (class_in e.classes) (class_in o.classes) 0 1 1 e.classes o.classes
      beside = record {
        long = ke.classes ∙ sym ko.classes;
        at_a = λ j less. let same : 0 + j ≡ j = omega arith in ap (λ (z : ℕ). slice_index e.classes z) same;
        at_b = λ j less. let same : 0 + j ≡ j = omega arith in ap (λ (z : ℕ). slice_index o.classes z) same;
        finer = f.one;
        used = λ c less. (0, omega arith, omega arith);
        below = λ x le. subst (λ (z : ℕ). class_in o.classes z < 1) (zero_only x le) (omega arith);
        so_far = inr (refl, λ x le. subst (λ (z : ℕ). class_in e.classes z ≡ class_in o.classes z) (zero_only x le) refl);
      } where
        zero_only : (x : ℕ) → x ≤ 0 → 0 ≡ x
        zero_only x le = omega arith

      we : weight e ≡ (m - 1) + count_off e.given
      we = ap (λ (z : Bool). cond z (classes_from 1 e.classes + count_off e.given) 0) re ∙ ap (λ (z : ℕ). z + count_off e.given)
          (numbered_count 1 e.classes m pe)

      wo : weight o ≡ (l - 1) + count_off o.given
      wo = ap (λ (z : Bool). cond z (classes_from 1 o.classes + count_off o.given) 0) ro ∙ ap (λ (z : ℕ). z + count_off o.given)
          (numbered_count 1 o.classes l po)

      by_case : MoreOrSame (class_in e.classes) (class_in o.classes) 0 1 1 m l e.classes o.classes →
          (count_off o.given < count_off e.given) ⊎ ((count_off o.given ≡ count_off e.given) × (e.given ≡ o.given)) → weight o < weight e
      by_case (inl more) (inl less) = omega (arith, we, wo, numbered_grows 1 o.classes l po)
      by_case (inl more) (inr (same, bits)) = omega (arith, we, wo, same, numbered_grows 1 o.classes l po)
      by_case (inr (a, b, count, cs)) (inl less) = omega (arith, we, wo, count)
      by_case (inr (a, b, count, cs)) (inr (same, bits)) =
          absurd (differ (λ z. record { reached = (ro ∙ sym re) z; classes = sym cs z; given = sym bits z }))

-- a block that a path is known to lead to weighs something
pub heavy : (n : ℕ) (e : BlockEntry) (m : ℕ) → 0 < n → IsKnown n e → e.reached ≡ true → IsNumbered 1 e.classes m → 0 < weight e
heavy n e m some k r p = by_lists e.classes e.given (ap (λ (z : Bool). cond z (classes_from 1 e.classes + count_off e.given) 0) r) k.classes k.bits
    (k.off 0) p where
      by_lists : (cs : List ℕ) (gs : List Bool) → weight e ≡ classes_from 1 cs + count_off gs → length cs ≡ n → length gs ≡ n →
          (slice_index cs 0 ≡ 0 → slice_index_or gs 0 false ≡ false) → IsNumbered 1 cs m → 0 < weight e
      by_lists [] gs w lc lg off p = absurd (omega (arith, lc))
      by_lists (c ∷ cs) [] w lc lg off p = absurd (omega (arith, lg))
      by_lists (c ∷ cs) (z ∷ gs) w lc lg off (inl (less, p)) =
          let not_set = off (omega arith) in
          omega (arith, w, ap (λ (q : Bool). cond q (count_off gs) (suc (count_off gs))) not_set)
      by_lists (c ∷ cs) (z ∷ gs) w lc lg off (inr (same, p)) =
          omega (arith, w, numbered_count 1 (c ∷ cs) m (inr (same, p)), numbered_grows 2 cs m p)

pub light : (n : ℕ) (e : BlockEntry) → IsShaped n e → (e.reached ≡ true → (m : ℕ) × IsNumbered 1 e.classes m) → weight e ≤ 2 * n
light n e (inl (r, k)) num =
    let (m, p) = num r in
    omega (
      arith,
      ap (λ (z : Bool). cond z (classes_from 1 e.classes + count_off e.given) 0) r,
      numbered_count 1 e.classes m p,
      numbered_few 1 e.classes m p,
      k.classes,
      few_off e.given,
      k.bits,
    )
light n e (inr (r, c, d)) num = omega (arith, ap (λ (z : Bool). cond z (classes_from 1 e.classes + count_off e.given) 0) r)

-- ---- tables

pub heavier_table : (es : List BlockEntry) (b : ℕ) (e : BlockEntry) → b < length es → ((o : BlockEntry) → slice_get es b ≡ Some o → weight o < weight e) →
    weight_of es < weight_of (slice_set es b e)
heavier_table [] b e less h = absurd (omega arith)
heavier_table (x ∷ es) zero e less h = omega (arith, h x refl)
heavier_table (x ∷ es) (suc b) e less h = omega (arith, heavier_table es b e (omega arith) h)

pub light_table : (n : ℕ) (es : List BlockEntry) → ((b : ℕ) (e : BlockEntry) → slice_get es b ≡ Some e → weight e ≤ 2 * n) → weight_of es ≤ 2 * n * length es
light_table n [] h = omega arith
light_table n (x ∷ es) h =
    let rest = light_table n es (λ b e. h (suc b) e) in
    let first = h 0 x refl in
    let more : 2 * n * suc (length es) ≡ 2 * n * length es + 2 * n = mul-suc (2 * n) (length es) in
    omega (arith, rest, first, more)
