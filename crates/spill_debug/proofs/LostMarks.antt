-- The losses of marks.
use Rattle.std.proofs.Common.{◌≡◌, ℕ, ◌<◌, List, [], ◌∷◌, map, All, Contains, Bool, true, ◌&&◌, nat_eq, zero, suc, eq-eqb}
use Rattle.std.proofs.Common.{eqb-true, ne_eqb, refl, sym, ap, ◌∙◌, inl, inr, arith}
use Rattle.std.proofs.Common.{Ordering, Less, Equal, Greater}
use Rattle.std.specs.Cmp.{IsTotalOrder, IsEquivalence}
use Rattle.std.specs.List.Sorted.{IsSorted, IsPermutation, IsStrictlySortedBy}
use Rattle.std.specs.List.{dedup, AllByRecursion}
use Rattle.std.specs.Ordering.{nat_cmp, ordering_then, eq_by_cmp, is_eq, MatchOrdering}
use Rattle.std.proofs.lemmas.Bool.{and_parts}
use Rattle.std.proofs.lemmas.Cmp.{nat_cmp_total, nat_eq_equiv, on_total, on_equiv, and_equiv, then_total, ranked}
use Rattle.std.proofs.lemmas.List.Elements.{All-cons}
use Rattle.std.proofs.lemmas.List.Kept.{AllPairs-cons, IsStrictlySortedBy-dedup, Contains-from_dedup, Contains-dedup}
use Rattle.std.proofs.lemmas.List.Sorted.{Contains-permutation, IsPermutation-sym}
use Rattle.mir_func.specs.declared.position.Pos.{Pos}
use Rattle.pass_trait.specs.declared.loss.Loss.{Loss}
use Rattle.pass_trait.specs.declared.loss.Reason.{Reason}
use Rattle.pass_trait.specs.Order.{IsEarlier, LossComesBefore, IsInOrder}
use Rattle.spill_debug.specs.Lost.{AreMarksLost, mark_from}

-- positions by block, and in a block by index
abbrev pub pos_cmp : Pos → Pos → Ordering
pos_cmp p q = ordering_then (nat_cmp p.block q.block) (nat_cmp p.item q.item)

abbrev pub pos_eq : Pos → Pos → Bool
pos_eq p q = nat_eq p.block q.block && nat_eq p.item q.item

pos_total : IsTotalOrder pos_cmp
pos_total = then_total (on_total (λ (p : Pos). p.block) nat_cmp_total) (on_total (λ (p : Pos). p.item) nat_cmp_total)

item_earlier : (a b : ℕ) (o : Ordering) → MatchOrdering o (a < b) (a ≡ b) (b < a) → o ≡ Less → a < b
item_earlier a b Less h e = h
item_earlier a b Equal h e = cc
item_earlier a b Greater h e = cc

earlier : (p q : Pos) → pos_cmp p q ≡ Less → IsEarlier p q
earlier p q e = by_block (nat_cmp p.block q.block) (ranked p.block q.block (nat_cmp p.block q.block) refl) e where
  by_block : (o : Ordering) → MatchOrdering o (p.block < q.block) (p.block ≡ q.block) (q.block < p.block) →
      ordering_then o (nat_cmp p.item q.item) ≡ Less → IsEarlier p q
  by_block Less h e = inl h
  by_block Equal h e = inr (h, item_earlier p.item q.item (nat_cmp p.item q.item) (ranked p.item q.item (nat_cmp p.item q.item) refl) e)
  by_block Greater h e = cc

number_tie : (a b : ℕ) (o : Ordering) → MatchOrdering o (a < b) (a ≡ b) (b < a) → nat_eq a b ≡ is_eq o
number_tie a b Less h = ne_eqb a b (λ e. omega (arith, h, e))
number_tie a b Equal h = eq-eqb a b h
number_tie a b Greater h = ne_eqb a b (λ e. omega (arith, h, e))

both_tie : (o u : Ordering) → (is_eq o && is_eq u) ≡ is_eq (ordering_then o u)
both_tie Less u = refl
both_tie Equal u = refl
both_tie Greater u = refl

pos_ties : (p q : Pos) → pos_eq p q ≡ eq_by_cmp pos_cmp p q
pos_ties p q =
    let a = number_tie p.block q.block (nat_cmp p.block q.block) (ranked p.block q.block (nat_cmp p.block q.block) refl) in
    let b = number_tie p.item q.item (nat_cmp p.item q.item) (ranked p.item q.item (nat_cmp p.item q.item) refl) in
    (λ i. a i && b i) ∙ both_tie (nat_cmp p.block q.block) (nat_cmp p.item q.item)

pos_equiv : IsEquivalence pos_eq
pos_equiv = and_equiv (on_equiv (λ (p : Pos). p.block) nat_eq_equiv) (on_equiv (λ (p : Pos). p.item) nat_eq_equiv)

pos_is : (p q : Pos) → pos_eq p q ≡ true → p ≡ q
pos_is p q e =
    let h = and_parts (nat_eq p.block q.block) (nat_eq p.item q.item) e in
    let a = eqb-true p.block q.block h.0 in
    let b = eqb-true p.item q.item h.1 in
    λ i. record { block = a i; item = b i }

module _ (why : Reason) where
  abbrev lost : Pos → Loss
  lost p = mark_from p why

  none_in_order : IsInOrder []
  none_in_order i j d lt within = absurd (omega (arith, within))

  each_later : (p : Pos) (ps : List Pos) → AllByRecursion (λ q. pos_cmp p q ≡ Less) ps → All (LossComesBefore (lost p)) (map lost ps)
  each_later p [] h = λ i d lt. absurd (omega (arith, lt))
  each_later p (q ∷ ps) h = All-cons (LossComesBefore (lost p)) (lost q) (map lost ps) (inl (earlier p q h.0)) (each_later p ps h.1)

  strict_in_order : (ps : List Pos) → IsStrictlySortedBy pos_cmp ps → IsInOrder (map lost ps)
  unfolding IsStrictlySortedBy
  strict_in_order [] h = none_in_order
  strict_in_order (p ∷ ps) h = AllPairs-cons LossComesBefore (lost p) (map lost ps) (each_later p ps h.0) (strict_in_order ps h.1)

  pub sorted_in_order : (ps : List Pos) → IsSorted pos_cmp ps → IsInOrder (map lost (dedup pos_eq ps))
  sorted_in_order ps sorted = strict_in_order (dedup pos_eq ps) (IsStrictlySortedBy-dedup pos_total pos_ties ps sorted)

  lost_from : (ps : List Pos) (l : Loss) → Contains (map lost ps) l → (p : Pos) × Contains ps p × (l ≡ lost p)
  lost_from [] l (k, lt, e) = absurd (omega (arith, lt))
  lost_from (p ∷ ps) l (zero, lt, e) = (p, (0, omega arith, refl), sym e)
  lost_from (p ∷ ps) l (suc k, lt, e) = let w = lost_from ps l (k, omega (arith, lt), e) in (w.0, (suc w.1.0, (let a = w.1.1 in omega (arith, a)), w.1.2), w.2)

  lost_of : (ps : List Pos) (l : Loss) (p : Pos) → Contains ps p → l ≡ lost p → Contains (map lost ps) l
  lost_of [] l p (k, lt, e) is = absurd (omega (arith, lt))
  lost_of (q ∷ ps) l p (zero, lt, e) is = (0, omega arith, ap lost e ∙ sym is)
  lost_of (q ∷ ps) l p (suc k, lt, e) is = let w = lost_of ps l p (k, omega (arith, lt), e) is in (suc w.0, (let a = w.1 in omega (arith, a)), w.2)

  -- of sorted positions, each once
  pub each_lost : (ps qs : List Pos) → IsPermutation ps qs → AreMarksLost ps why (map lost (dedup pos_eq qs))
  each_lost ps qs p l = (
    λ h. (let w = lost_from (dedup pos_eq qs) l h in
        (w.0, Contains-permutation qs ps w.0 (IsPermutation-sym ps qs p) (Contains-from_dedup pos_eq qs w.0 w.1), w.2)),
    λ w. lost_of (dedup pos_eq qs) l w.0 (Contains-dedup pos_equiv pos_is qs w.0 (Contains-permutation ps qs w.0 p w.1)) w.2,
  )
