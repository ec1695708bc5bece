-- Sizes of types, in an order in which each is behind what it is made of.
use Rattle.std.proofs.Common.{◌≡◌, ◌⊎◌, ℕ, zero, suc, ◌+◌, ◌*◌, ◌-◌, ◌^◌, ◌<◌, ◌≤◌, List, [], ◌∷◌, ◌++◌, length}
use Rattle.std.proofs.Common.{Bool, true, false, cond, Option, Some, None, min, take, drop}
use Rattle.std.proofs.Common.{refl, sym, ap, ◌∙◌, subst, inl, inr, arith, ltb-true, ltb-false, replicate}
use Rattle.std.specs.Prelude.{slice_index_or, slice_set, nat_lt, Contains}
use Rattle.std.specs.List.{slice_get}
use Rattle.std.specs.Option.{option_and_then, option_map}
use Rattle.std.proofs.Math.Nat.{mul_assoc, mul-zero}
use Rattle.std.proofs.lemmas.Nat.{mul-le}
use Rattle.std.proofs.lemmas.List.{get_or-set_same, get_or-set_other, get_or_past, get_or-replicate, length-replicate, length-set}
use Rattle.std.proofs.lemmas.List.{length-take, get_or-take, get_or_default}
use Rattle.std.proofs.lemmas.List.{take-take, take-append-drop, take_more, take_all}
use Rattle.std.proofs.lemmas.List.Elements.{Contains-push, Contains-push_cases, Contains-append_left}
use Rattle.graph_cycles.specs.Ends.{AreEnds, IsEndOrder}
use Rattle.graph_cycles.proofs.Searching.{none_in}
use Rattle.type_nodes.specs.declared.shape.Shape.{Shape}
use Rattle.type_nodes.specs.declared.shape.Shape.TheVariants.{Base, Pointer, Qualifier, Typedef, Declaration, Record, Enumeration, Array, Subroutine}
use Rattle.type_nodes.specs.Standing.{made_of, IsMade}
use Rattle.type_nodes.specs.Sizes.{times, array_size, size_by, size_at, AreSizes}
use Rattle.type_nodes.specs.steps.Graphs.{IsGraphOf, chain_ways}
use Rattle.type_nodes.proofs.Chains.{made_marked, edge_made}

-- ---- arrays

over : (x : ℕ) → min (min x (2 ^ 64 - 1)) (2 ^ 61) ≡ min x (2 ^ 61)
over x = omega arith

-- what was cut at the limit stays cut
pub capped : (t c : ℕ) → min (min (min t (2 ^ 61) * c) (2 ^ 64 - 1)) (2 ^ 61) ≡ min (t * c) (2 ^ 61)
capped t c = over (min t (2 ^ 61) * c) ∙ by_limit (nat_lt t (2 ^ 61)) refl c
  where
    grown : (x k : ℕ) → 2 ^ 61 ≤ x → 2 ^ 61 ≤ x * suc k
    grown x k most = mul-le (2 ^ 61) 1 x (suc k) most (omega arith)

    by_limit : (z : Bool) → nat_lt t (2 ^ 61) ≡ z → (n : ℕ) → min (min t (2 ^ 61) * n) (2 ^ 61) ≡ min (t * n) (2 ^ 61)
    by_limit true e n =
        let small : min t (2 ^ 61) ≡ t = omega (arith, ltb-true t (2 ^ 61) e) in
        ap (λ (x : ℕ). min (x * n) (2 ^ 61)) small
    by_limit false e zero = ap (λ (x : ℕ). min x (2 ^ 61)) (mul-zero (min t (2 ^ 61)) ∙ sym (mul-zero t))
    by_limit false e (suc k) =
        let most : 2 ^ 61 ≤ t = omega (arith, ltb-false t (2 ^ 61) e) in
        let cut : min t (2 ^ 61) ≡ 2 ^ 61 = omega (arith, most) in
        let first : 2 ^ 61 ≤ min t (2 ^ 61) * suc k = grown (min t (2 ^ 61)) k (omega (arith, cut)) in
        let second : 2 ^ 61 ≤ t * suc k = grown t k most in
        omega (arith, first, second)

pub times_more : (t c : ℕ) (o : Option ℕ) → option_and_then (times t) (option_map (λ n. c * n) o) ≡ option_and_then (times (t * c)) o
times_more t c None = refl
times_more t c (Some p) = ap (λ (x : ℕ). cond (nat_lt x (2 ^ 61)) (Some x) None) (sym (mul_assoc t c p))

-- ---- types by the sizes of others

own : (m : ℕ) → Contains (m ∷ []) m
own m = (0, omega arith, refl)

pub same_size : (f g : ℕ → Option ℕ) (s : Shape) → ((m : ℕ) → Contains (made_of s) m → f m ≡ g m) → size_by f s ≡ size_by g s
same_size f g (Base name bytes encoding) same = refl
same_size f g (Pointer tag to) same = refl
same_size f g (Qualifier tag None) same = refl
same_size f g (Qualifier tag (Some to)) same = same to (own to)
same_size f g (Typedef name None) same = refl
same_size f g (Typedef name (Some to)) same = same to (own to)
same_size f g (Declaration tag name) same = refl
same_size f g (Record tag name bytes members) same = refl
same_size f g (Enumeration name bytes to enumerators) same = refl
same_size f g (Array to counts) same = ap (option_and_then (array_size counts)) (same to (own to))
same_size f g (Subroutine result parameters more) same = refl

in_take : (xs : List ℕ) (k x : ℕ) → Contains (take k xs) x → Contains xs x
in_take xs k x held = subst (λ (ys : List ℕ). Contains ys x) (take-append-drop k xs) (Contains-append_left (take k xs) (drop k xs) x held)

module _ (types : List Shape) (order : List ℕ) where
  -- the sizes of so many types of the order
  pub record SoFar (k : ℕ) (sizes : List (Option ℕ)) : Type 0 where
    pub long : length sizes ≡ length types
    pub each : (n : ℕ) (s : Shape) → slice_get types n ≡ Some s → Contains (take k order) n → size_at sizes n ≡ size_by (size_at sizes) s
    pub none : (n : ℕ) → (Contains (take k order) n → ⊥) → size_at sizes n ≡ None

  pub begins : (count : ℕ) → count ≡ length types → SoFar 0 (replicate count None)
  begins count all = record {
    long = length-replicate count None ∙ all;
    each = λ n s is held. absurd (none_in held);
    none = λ n out. by_place None n (nat_lt n count) refl;
  }
    where
      by_place : {X : Type 0} (x : X) (n : ℕ) (z : Bool) → nat_lt n count ≡ z → slice_index_or (replicate count x) n x ≡ x
      by_place x n true e = get_or-replicate count n x x (ltb-true n count e)
      by_place x n false e = get_or_past (replicate count x) n x (omega (arith, length-replicate count x, ltb-false n count e))

  module _ (graph : List (List ℕ)) (marks : List Bool) (g : IsGraphOf (chain_ways (length types)) types graph) (ends : AreEnds graph marks)
      (o : IsEndOrder graph marks order) where
    -- what a type of the order is made of is before it
    made_before : (k m : ℕ) (s : Shape) → k < length order → slice_get types (slice_index_or order k 0) ≡ Some s → Contains (made_of s) m
        → Contains (take k order) m
    made_before k m s less is held =
        let n : ℕ = slice_index_or order k 0 in
        let here : Contains order n = (k, less, get_or_default order k n 0 less) in
        o.behind k m less (edge_made types graph g n s m is held ((made_marked types graph g marks ends n).0 ((o.listed n).0 here)))

    among : (k n m : ℕ) (s : Shape) → slice_get types n ≡ Some s → Contains (take k order) n → Contains (made_of s) m → Contains (take k order) m
    among k n m s is (j, less, at) held =
        let both : (j < k) × (j < length order) = (omega (arith, less, length-take k order), omega (arith, less, length-take k order)) in
        let there : slice_index_or order j 0 ≡ n =
        get_or_default order j 0 n both.1 ∙ sym (get_or-take k order j n both.0) ∙ at in
        let before : Contains (take j order) m =
        made_before j m s both.1 (ap (slice_get types) there ∙ is) held in
        in_take (take k order) j m (subst (λ (ns : List ℕ). Contains ns m) (sym (take-take j k order (omega (arith, both.0)))) before)

    pub more : (k : ℕ) (s : Shape) (sizes : List (Option ℕ)) → k < length order → slice_index_or order k 0 < length types
        → slice_get types (slice_index_or order k 0) ≡ Some s → SoFar k sizes
        → SoFar (k + 1) (slice_set sizes (slice_index_or order k 0) (size_by (size_at sizes) s))
    more k s sizes less inside is so = record { long = length-set sizes v size ∙ so.long; each = each; none = none }
      where
        v : ℕ
        v = slice_index_or order k 0

        size : Option ℕ
        size = size_by (size_at sizes) s

        new : List (Option ℕ)
        new = slice_set sizes v size

        up : take (k + 1) order ≡ take k order ++ v ∷ []
        up = take_more order k 0 less

        other : (n : ℕ) → (n ≡ v → ⊥) → size_at new n ≡ size_at sizes n
        other n apart = get_or-set_other sizes v n size None apart

        before : (n : ℕ) → Contains (take k order) n → size_at new n ≡ size_at sizes n
        before n held = other n (λ same. o.once k less (subst (Contains (take k order)) same held))

        by_case : (n : ℕ) (t : Shape) → slice_get types n ≡ Some t → Contains (take k order) n ⊎ (v ≡ n) → size_at new n ≡ size_by (size_at new) t
        by_case n t at (inl held) =
            before n held ∙ so.each n t at held
            ∙ sym (same_size (size_at new) (size_at sizes) t (λ m part. before m (among k n m t at held part)))
        by_case n t at (inr same) =
            let shape : s ≡ t = one (slice_get types n) (ap (slice_get types) (sym same) ∙ is) at in
            let written : size_at new v ≡ size = get_or-set_same sizes v size None (omega (arith, inside, so.long)) in
            ap (size_at new) (sym same) ∙ written
            ∙ sym (same_size (size_at new) (size_at sizes) s (λ m part. before m (made_before k m s less is part)))
            ∙ ap (size_by (size_at new)) shape
          where
            one : (o : Option Shape) → o ≡ Some s → o ≡ Some t → s ≡ t
            one o first second = cc

        each : (n : ℕ) (t : Shape) → slice_get types n ≡ Some t → Contains (take (k + 1) order) n → size_at new n ≡ size_by (size_at new) t
        each n t at held = by_case n t at (Contains-push_cases (take k order) v n (subst (λ (ns : List ℕ). Contains ns n) up held))

        none : (n : ℕ) → (Contains (take (k + 1) order) n → ⊥) → size_at new n ≡ None
        none n out =
            let apart : n ≡ v → ⊥ =
            λ same. out (subst (λ (ns : List ℕ). Contains ns n) (sym up)
            (subst (Contains (take k order ++ v ∷ [])) (sym same) (Contains-push (take k order) v))) in
            other n apart ∙ so.none n (λ held. out (subst (λ (ns : List ℕ). Contains ns n) (sym up) (Contains-append_left (take k order) (v ∷ []) n held)))

    pub all_sizes : (k : ℕ) (sizes : List (Option ℕ)) → length order ≤ k → SoFar k sizes → AreSizes types sizes
    all_sizes k sizes far so = record {
      long = so.long;
      each = λ n s is built. so.each n s is (subst (λ (ns : List ℕ). Contains ns n) (sym (take_all k order far)) (in_order n built));
      none = λ n out. so.none n (λ held. out ((made_marked types graph g marks ends n).0 ((o.listed n).0 (in_take order k n held))));
    }
      where
        in_order : (n : ℕ) → IsMade types n → Contains order n
        in_order n built = (o.listed n).1 ((made_marked types graph g marks ends n).1 built)
