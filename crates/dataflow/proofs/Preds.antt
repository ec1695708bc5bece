-- Predecessors, noted one after the other.
use Rattle.std.proofs.Common.{◌≡◌, ℕ, ◌+◌, ◌<◌, List, [], ◌∷◌, ◌++◌, length, Bool, true, false, refl, sym, ap, ◌∙◌, subst, inl, inr, arith, eqb}
use Rattle.std.proofs.Common.{ltb-true, ltb-false}
use Rattle.std.specs.Prelude.{◌⊎◌, ◌↔◌, slice_index_or, slice_set, nat_lt, Contains}
use Rattle.std.proofs.lemmas.Bool.{eqb-true, eqb-false}
use Rattle.std.proofs.lemmas.List.{get_or-set_same, get_or-set_other, get_or_default, get_or_past}
use Rattle.std.proofs.lemmas.List.Elements.{Contains-push, Contains-push_cases, Contains-append_left}
use Rattle.std.proofs.Math.ListN.{length-set}
use Rattle.dataflow.specs.Graph.{ways_at, IsEdge, ArePredecessors}

-- the empty list has no block
pub none_in : (b : ℕ) → Contains [] b → ⊥
none_in b (j, less, is) = absurd (omega arith)

in_push : (xs : List ℕ) (y p : ℕ) → Contains (xs ++ y ∷ []) p ↔ (Contains xs p ⊎ (p ≡ y))
in_push xs y p = (λ h. there (Contains-push_cases xs y p h), back) where
  there : Contains xs p ⊎ (y ≡ p) → Contains xs p ⊎ (p ≡ y)
  there (inl h) = inl h
  there (inr e) = inr (sym e)

  back : Contains xs p ⊎ (p ≡ y) → Contains (xs ++ y ∷ []) p
  back (inl h) = Contains-append_left xs (y ∷ []) p h
  back (inr e) = subst (λ (z : ℕ). Contains (xs ++ y ∷ []) z) (sym e) (Contains-push xs y)

-- a block is noted for one other
set_noted : (preds : List (List ℕ)) (w block : ℕ) (xs : List ℕ) → w < length preds → xs ≡ slice_index_or preds w xs → (c p : ℕ) →
    Contains (ways_at (slice_set preds w (xs ++ block ∷ [])) c) p ↔ (Contains (ways_at preds c) p ⊎ ((p ≡ block) × (c ≡ w)))
set_noted preds w block xs less is c p = by_case (eqb c w) refl where
  is_at : xs ≡ ways_at preds w
  is_at = is ∙ get_or_default preds w xs [] less

  by_case : (z : Bool) → eqb c w ≡ z → Contains (ways_at (slice_set preds w (xs ++ block ∷ [])) c) p ↔ (Contains (ways_at preds c) p ⊎ ((p ≡ block)
      × (c ≡ w)))
  by_case true e =
      let same = eqb-true c w e in
      let new : ways_at (slice_set preds w (xs ++ block ∷ [])) c ≡ xs ++ block ∷ [] =
      ap (ways_at (slice_set preds w (xs ++ block ∷ []))) same ∙ get_or-set_same preds w (xs ++ block ∷ []) [] less in
      let old : xs ≡ ways_at preds c = is_at ∙ ap (ways_at preds) (sym same) in (
        λ h. here same old ((in_push xs block p).0 (subst (λ (z : List ℕ). Contains z p) new h)),
        λ h. subst (λ (z : List ℕ). Contains z p) (sym new) ((in_push xs block p).1 (back old h)),
      ) where
        here : c ≡ w → xs ≡ ways_at preds c → Contains xs p ⊎ (p ≡ block) → Contains (ways_at preds c) p ⊎ ((p ≡ block) × (c ≡ w))
        here same old (inl h) = inl (subst (λ (z : List ℕ). Contains z p) old h)
        here same old (inr h) = inr (h, same)

        back : xs ≡ ways_at preds c → Contains (ways_at preds c) p ⊎ ((p ≡ block) × (c ≡ w)) → Contains xs p ⊎ (p ≡ block)
        back old (inl h) = inl (subst (λ (z : List ℕ). Contains z p) (sym old) h)
        back old (inr (h, is)) = inr h
  by_case false e =
      let apart = eqb-false c w e in
      let new : ways_at (slice_set preds w (xs ++ block ∷ [])) c ≡ ways_at preds c = get_or-set_other preds w c (xs ++ block ∷ []) [] apart in
      (λ h. inl (subst (λ (z : List ℕ). Contains z p) new h), λ h. back apart new h) where
        back : (c ≡ w → ⊥) → ways_at (slice_set preds w (xs ++ block ∷ [])) c ≡ ways_at preds c → Contains (ways_at preds c) p ⊎ ((p ≡ block) × (c ≡ w)) →
            Contains (ways_at (slice_set preds w (xs ++ block ∷ [])) c) p
        back apart new (inl h) = subst (λ (z : List ℕ). Contains z p) (sym new) h
        back apart new (inr (h, is)) = absurd (apart is)

-- it is noted for so many of its ways
pub record Noting (block : ℕ) (ways : List ℕ) (k : ℕ) (old new : List (List ℕ)) : Type 0 where
  pub long : length new ≡ length old
  pub noted : (c p : ℕ) → Contains (ways_at new c) p ↔ (Contains (ways_at old c) p ⊎ ((p ≡ block) × ((j : ℕ) × (j < k) × (slice_index_or ways j 0 ≡ c))))

pub noting_none : (block : ℕ) (ways : List ℕ) (old : List (List ℕ)) → Noting block ways 0 old old
noting_none block ways old = record { long = refl; noted = λ c p. (λ h. inl h, λ h. back c p h) } where
  back : (c p : ℕ) → Contains (ways_at old c) p ⊎ ((p ≡ block) × ((j : ℕ) × (j < 0) × (slice_index_or ways j 0 ≡ c))) → Contains (ways_at old c) p
  back c p (inl h) = h
  back c p (inr (e, (j, less, is))) = absurd (omega arith)

pub noting_more : (block : ℕ) (ways : List ℕ) (k : ℕ) (old new : List (List ℕ)) (xs : List ℕ) → slice_index_or ways k 0 < length new →
    xs ≡ slice_index_or new (slice_index_or ways k 0) xs → Noting block ways k old new →
    Noting block ways (k + 1) old (slice_set new (slice_index_or ways k 0) (xs ++ block ∷ []))
noting_more block ways k old new xs less is n = record {
  long = length-set new (slice_index_or ways k 0) (xs ++ block ∷ []) ∙ n.long;
  noted = λ c p. (λ h. there c p ((set_noted new w block xs less is c p).0 h), λ h. (set_noted new w block xs less is c p).1 (back c p h));
} where
  w : ℕ
  w = slice_index_or ways k 0

  older : (c p : ℕ) → Contains (ways_at old c) p ⊎ ((p ≡ block) × ((j : ℕ) × (j < k) × (slice_index_or ways j 0 ≡ c))) →
      Contains (ways_at old c) p ⊎ ((p ≡ block) × ((j : ℕ) × (j < k + 1) × (slice_index_or ways j 0 ≡ c)))
  older c p (inl h) = inl h
  older c p (inr (e, (j, l, s))) = inr (e, (j, omega arith, s))

  there : (c p : ℕ) → Contains (ways_at new c) p ⊎ ((p ≡ block) × (c ≡ w)) → Contains (ways_at old c) p ⊎ ((p ≡ block) × ((j : ℕ) × (j < k + 1)
      × (slice_index_or ways j 0 ≡ c)))
  there c p (inl h) = older c p ((n.noted c p).0 h)
  there c p (inr (e, same)) = inr (e, (k, omega arith, sym same))

  last : (c p : ℕ) → p ≡ block → (j : ℕ) → j < k + 1 → slice_index_or ways j 0 ≡ c → (z : Bool) → nat_lt j k ≡ z →
      Contains (ways_at new c) p ⊎ ((p ≡ block) × (c ≡ w))
  last c p e j l s true h = inl ((n.noted c p).1 (inr (e, (j, ltb-true j k h, s))))
  last c p e j l s false h = let same : k ≡ j = omega (arith, ltb-false j k h) in inr (e, sym s ∙ ap (λ (i : ℕ). slice_index_or ways i 0) (sym same))

  back : (c p : ℕ) → Contains (ways_at old c) p ⊎ ((p ≡ block) × ((j : ℕ) × (j < k + 1) × (slice_index_or ways j 0 ≡ c))) →
      Contains (ways_at new c) p ⊎ ((p ≡ block) × (c ≡ w))
  back c p (inl h) = inl ((n.noted c p).1 (inl h))
  back c p (inr (e, (j, l, s))) = last c p e j l s (nat_lt j k) refl

pub noting_all : (block : ℕ) (ways : List ℕ) (k : ℕ) (old new : List (List ℕ)) → length ways ≡ k → Noting block ways k old new → (c p : ℕ) →
    Contains (ways_at new c) p ↔ (Contains (ways_at old c) p ⊎ ((p ≡ block) × Contains ways c))
noting_all block ways k old new all n c p = (λ h. there ((n.noted c p).0 h), λ h. (n.noted c p).1 (back h)) where
  there : Contains (ways_at old c) p ⊎ ((p ≡ block) × ((j : ℕ) × (j < k) × (slice_index_or ways j 0 ≡ c))) →
      Contains (ways_at old c) p ⊎ ((p ≡ block) × Contains ways c)
  there (inl h) = inl h
  there (inr (e, (j, l, s))) = inr (e, (j, omega (arith, all), get_or_default ways j c 0 (omega (arith, all)) ∙ s))

  back : Contains (ways_at old c) p ⊎ ((p ≡ block) × Contains ways c) → Contains (ways_at old c) p ⊎ ((p ≡ block) × ((j : ℕ) × (j < k)
      × (slice_index_or ways j 0 ≡ c)))
  back (inl h) = inl h
  back (inr (e, (j, l, s))) = inr (e, (j, omega (arith, all), get_or_default ways j 0 c l ∙ s))

-- ---- all blocks
pub record SoFarPreds (successors : List (List ℕ)) (k : ℕ) (preds : List (List ℕ)) : Type 0 where
  pub long : length preds ≡ length successors
  pub each : (c p : ℕ) → Contains (ways_at preds c) p ↔ ((p < k) × IsEdge successors p c)

pub preds_begin : (successors preds : List (List ℕ)) → length preds ≡ length successors → ((c q : ℕ) → Contains (ways_at preds c) q → ⊥) →
    SoFarPreds successors 0 preds
preds_begin successors preds long none = record { long = long; each = λ c p. (λ h. absurd (none c p h), λ h. absurd (omega (arith, h.0))) }

pub preds_more : (successors : List (List ℕ)) (k : ℕ) (old new : List (List ℕ)) (ways : List ℕ) → ways ≡ ways_at successors k → length new ≡ length old →
    ((c p : ℕ) → Contains (ways_at new c) p ↔ (Contains (ways_at old c) p ⊎ ((p ≡ k) × Contains ways c))) → SoFarPreds successors k old →
    SoFarPreds successors (k + 1) new
preds_more successors k old new ways at long noted s = record {
  long = long ∙ s.long;
  each = λ c p. (λ h. there c p ((noted c p).0 h), λ h. (noted c p).1 (back c p h));
} where
  there : (c p : ℕ) → Contains (ways_at old c) p ⊎ ((p ≡ k) × Contains ways c) → (p < k + 1) × IsEdge successors p c
  there c p (inl h) = let (less, rest) = (s.each c p).0 h in (omega arith, rest)
  there c p (inr (e, way)) = (omega (arith, e), subst (λ (z : List ℕ). Contains z c) (at ∙ ap (ways_at successors) (sym e)) way)

  last : (c p : ℕ) → p < k + 1 → IsEdge successors p c → (z : Bool) → nat_lt p k ≡ z → Contains (ways_at old c) p ⊎ ((p ≡ k) × Contains ways c)
  last c p less edge true h = inl ((s.each c p).1 (ltb-true p k h, edge))
  last c p less edge false h =
      let same : p ≡ k = omega (arith, ltb-false p k h) in
      inr (same, subst (λ (z : List ℕ). Contains z c) (ap (ways_at successors) same ∙ sym at) edge)

  back : (c p : ℕ) → (p < k + 1) × IsEdge successors p c → Contains (ways_at old c) p ⊎ ((p ≡ k) × Contains ways c)
  back c p (less, edge) = last c p less edge (nat_lt p k) refl

pub preds_all : (successors : List (List ℕ)) (k : ℕ) (preds : List (List ℕ)) → length successors ≡ k → SoFarPreds successors k preds →
    ArePredecessors successors preds
preds_all successors k preds all s = record {
  long = s.long;
  each = λ b p. (λ h. ((s.each b p).0 h).1, λ edge. (s.each b p).1 (within b p edge (nat_lt p (length successors)) refl, edge));
} where
  within : (b p : ℕ) → IsEdge successors p b → (z : Bool) → nat_lt p (length successors) ≡ z → p < k
  within b p edge true h = omega (arith, all, ltb-true p (length successors) h)
  within b p edge false h =
      absurd (none_in b (subst (λ (z : List ℕ). Contains z b) (get_or_past successors p [] (ltb-false p (length successors) h)) edge))
