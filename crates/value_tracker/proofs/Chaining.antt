-- The chains of the parts of variables: of one part more, and a walk over one.
--
-- A key is told by its test. A mark of a part changes no part of another variable, so the walk from one end to the next leaves out
-- only such parts.
use Rattle.std.proofs.Common.{◌≡◌, ℕ, ◌+◌, ◌-◌, ◌<◌, ◌≤◌, List, [], ◌∷◌, ◌++◌, length, get_or, arith, refl, sym, ◌∙◌, ap, subst, inl, inr, eqb-true, eq-eqb}
use Rattle.std.specs.Prelude.{Option, Some, None, Bool, true, false, cond, ◌&&◌, nat_eq, slice_get, slice_index}
use Rattle.std.specs.HashMap.{HashMap, get}
use Rattle.std.specs.declared.hash.FoldHasher.{FoldHasher}
use Rattle.std.specs.declared.hash.BuildHasherDefault.{BuildHasherDefault}
use Rattle.std.proofs.lemmas.Bool.{and_parts, and_from}
use Rattle.std.proofs.lemmas.Bool.{cases_lt}
use Rattle.std.proofs.lemmas.Bool.Decides.{eqb_tells}
use Rattle.std.proofs.lemmas.Option.{slice_get_within}
use Rattle.std.proofs.lemmas.List.{length_push, get_or_append_left, get_or_push}
use Rattle.mir_func.specs.declared.variable.VarId.{VarId}
use Rattle.mir_func.specs.Variables.{is_same_node, is_same_variable, are_same_bytes, do_meet}
use Rattle.value_tracker.specs.Chains.{Key, key_of, is_key, or_zero, IsPartOf, EndAt, AreChained}
use Rattle.value_tracker.specs.LocationTracker.{part_past}

-- ---- keys

same_node : (a b : Option ℕ) → is_same_node a b ≡ true → a ≡ b
same_node None None e = refl
same_node (Some m) (Some n) e = ap (λ (z : ℕ). Some z) (eqb-true m n e)
same_node None (Some n) e = absurd (let both : false ≡ true = e in cc)
same_node (Some m) None e = absurd (let both : false ≡ true = e in cc)

is_same_itself : (a : Option ℕ) → is_same_node a a ≡ true
is_same_itself None = refl
is_same_itself (Some m) = eq-eqb m m refl

same_key : (p q : Key) → is_key p q ≡ true → p ≡ q
same_key p q e =
    let both = and_parts (nat_eq p.0 q.0) (is_same_node p.1 q.1) e in
    let a = eqb-true p.0 q.0 both.0 in
    let b = same_node p.1 q.1 both.1 in
    λ i. (a i, b i)

is_same_key : (p q : Key) → p ≡ q → is_key p q ≡ true
is_same_key p q e = subst (λ (z : Key). is_key p z ≡ true) e (and_from (nat_eq p.0 p.0) (is_same_node p.1 p.1) (eq-eqb p.0 p.0 refl) (is_same_itself p.1))

-- ---- one part more

pub no_end : (parts : List VarId) (k : Key) → EndAt parts k 0 0
no_end parts k = record {
  within = omega arith;
  last = λ some. absurd (omega (arith, some));
  rest = λ i le lt is. omega (arith, lt);
}

abbrev Table : Type 0
Table = HashMap Key ℕ (BuildHasherDefault FoldHasher)

module _ (parts : List VarId) (n : ℕ) (w : VarId) (at : slice_get parts n ≡ Some w) where
  end_more : (k : Key) (e : ℕ) → (key_of w ≡ k → ⊥) → EndAt parts k n e → EndAt parts k (n + 1) e
  end_more k e other ends = record {
    within = let le = ends.within in omega (arith, le);
    last = ends.last;
    rest = λ i le lt is. elim (eqb_tells i n) [
      | inl h ↦
          let both : Some w ≡ Some is.0 = sym at ∙ (ap (slice_get parts) (sym h.1) ∙ is.1) in
          let same : w ≡ is.0 = cc in
          other (ap key_of same ∙ is.2)
      | inr h ↦ ends.rest i le (let ne = h.1 in omega (arith, lt, ne)) is
    ];
  }

  end_here : (k : Key) → key_of w ≡ k → EndAt parts k (n + 1) (n + 1)
  end_here k same = record {
    within = omega arith;
    last = λ some. (w, ap (slice_get parts) down ∙ at, same);
    rest = λ i le lt is. omega (arith, le, lt);
  } where
    down : n + 1 - 1 ≡ n
    down = omega arith

  module _ (old new : Table) (before after : List ℕ) (pushed : after ≡ before ++ or_zero (get is_key old (key_of w)) ∷ [])
      (updates : (q : Key) → get is_key new q ≡ cond (is_key (key_of w) q) (Some (n + 1)) (get is_key old q)) (are : AreChained parts n old before) where
    last_by : (k : Key) (b : Bool) → is_key (key_of w) k ≡ b → EndAt parts k (n + 1) (or_zero (cond b (Some (n + 1)) (get is_key old k)))
    last_by k true is = end_here k (same_key (key_of w) k is)
    last_by k false is =
        end_more k (or_zero (get is_key old k)) (λ e. let on : is_key (key_of w) k ≡ true = is_same_key (key_of w) k e in let both : true ≡ false = sym on ∙ is in cc)
        (are.last k)

    here : slice_index after n ≡ or_zero (get is_key old (key_of w))
    here = ap (λ (l : List ℕ). slice_index l n) pushed ∙ get_or_push before (or_zero (get is_key old (key_of w))) 0 n are.for_all

    above : (i : ℕ) → i < n → slice_index after i ≡ slice_index before i
    above i lt =
        ap (λ (l : List ℕ). slice_index l i) pushed
        ∙ get_or_append_left before (or_zero (get is_key old (key_of w)) ∷ []) 0 i (let count = are.for_all in omega (arith, lt, count))

    each_more : (i : ℕ) (x : VarId) → i < n + 1 → slice_get parts i ≡ Some x → EndAt parts (key_of x) i (slice_index after i)
    each_more i x lt e = elim (eqb_tells i n) [
      | inl h ↦
          let both : Some w ≡ Some x = sym at ∙ (ap (slice_get parts) (sym h.1) ∙ e) in
          let same : w ≡ x = cc in
          subst (λ (j : ℕ). EndAt parts (key_of x) j (slice_index after j)) (sym h.1)
          (subst (λ (z : VarId). EndAt parts (key_of z) n (slice_index after n)) same
          (subst (EndAt parts (key_of w) n) (sym here) (are.last (key_of w))))
      | inr h ↦
          let below : i < n = let ne = h.1 in omega (arith, lt, ne) in
          subst (EndAt parts (key_of x) i) (sym (above i below)) (are.each i x below e)
    ]

    pub chained_more : AreChained parts (n + 1) new after
    chained_more = record {
      for_all = ap (λ (l : List ℕ). length l) pushed ∙ (length_push before (or_zero (get is_key old (key_of w))) ∙ ap (λ (m : ℕ). m + 1) are.for_all);
      last = λ k. subst (λ (o : Option ℕ). EndAt parts k (n + 1) (or_zero o)) (sym (updates k)) (last_by k (is_key (key_of w) k) refl);
      each = each_more;
    }

-- ---- a walk over the parts of a variable

-- a mark changes no part of another variable
other_variable : (v w : VarId) (c d : ℕ) → (key_of w ≡ key_of v → ⊥) → part_past v c w d ≡ d
other_variable v w c d other = by_test (is_same_variable w v) refl where
  by_test : (b : Bool) → is_same_variable w v ≡ b → part_past v c w d ≡ d
  by_test true e = absurd (other (same_key (key_of w) (key_of v) e))
  by_test false e = ap (λ (b : Bool). cond (b && are_same_bytes w.fragment v.fragment) c (cond (b && do_meet w.fragment v.fragment) 0 d)) e

-- the classes past a mark of the parts from index `end` on, and the old ones of the others
pub record PastFrom (parts : List VarId) (v : VarId) (c : ℕ) (old : List ℕ) (end : ℕ) (new : List ℕ) : Type 0 where
  pub done : (i : ℕ) (w : VarId) → end ≤ i → slice_get parts i ≡ Some w → get_or new i 0 ≡ part_past v c w (get_or old i 0)
  pub left : (i : ℕ) → i < end → get_or new i 0 ≡ get_or old i 0

module _ (parts : List VarId) (v : VarId) (c : ℕ) (old : List ℕ) where
  pub past_start : (end n : ℕ) → length parts ≡ n → EndAt parts (key_of v) n end → PastFrom parts v c old end old
  past_start end n count ends = record {
    done = λ i w le e. sym (other_variable v w c (get_or old i 0) (λ same. ends.rest i le (let lt = slice_get_within parts i w e in omega (arith, lt, count)) (w, e, same)));
    left = λ i lt. refl;
  }

  pub past_step : (end next : ℕ) (new set : List ℕ) → 0 < end → IsPartOf parts (key_of v) (end - 1) →
      ((w : VarId) → slice_get parts (end - 1) ≡ Some w → EndAt parts (key_of w) (end - 1) next) →
      ((w : VarId) → slice_get parts (end - 1) ≡ Some w → get_or set (end - 1) 0 ≡ part_past v c w (get_or new (end - 1) 0)) →
      ((i : ℕ) → (i ≡ end - 1 → ⊥) → get_or set i 0 ≡ get_or new i 0) → PastFrom parts v c old end new →
      PastFrom parts v c old next set
  past_step end next new set some is chain here rest past = record {
    done = λ i w le e. by_place i w le e;
    left = λ i lt. rest i (let le = ends.within in omega (arith, lt, le, some)) ∙ past.left i (let le = ends.within in omega (arith, lt, le, some));
  } where
    ends : EndAt parts (key_of is.0) (end - 1) next
    ends = chain is.0 is.1

    by_place : (i : ℕ) (w : VarId) → next ≤ i → slice_get parts i ≡ Some w → get_or set i 0 ≡ part_past v c w (get_or old i 0)
    by_place i w le e = elim (cases_lt i (end - 1)) [
      | inl lt ↦
          let other : key_of w ≡ key_of v → ⊥ = λ same. ends.rest i le lt (w, e, same ∙ sym is.2) in
          rest i (omega (arith, lt)) ∙ (past.left i (omega (arith, lt, some)) ∙ sym (other_variable v w c (get_or old i 0) other))
      | inr ge ↦ elim (eqb_tells i (end - 1)) [
        | inl h ↦
            let at : slice_get parts (end - 1) ≡ Some w = ap (slice_get parts) (sym h.1) ∙ e in
            let set_here : get_or set (end - 1) 0 ≡ part_past v c w (get_or old (end - 1) 0) =
            here w at ∙ ap (part_past v c w) (past.left (end - 1) (omega (arith, some))) in
            subst (λ (j : ℕ). get_or set j 0 ≡ part_past v c w (get_or old j 0)) (sym h.1) set_here
        | inr h ↦ rest i h.1 ∙ past.done i w (let ne = h.1 in omega (arith, ge, ne, some)) e
      ]
    ]
