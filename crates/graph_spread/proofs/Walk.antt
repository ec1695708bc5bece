-- The walk along which a fact spreads.
use Rattle.std.proofs.Common.{◌≡◌, ℕ, List, [], ◌∷◌, ◌++◌, length, Bool, true, false, refl, sym, ◌∙◌, subst, inl, inr}
use Rattle.std.specs.Prelude.{◌⊎◌, ◌↔◌, slice_index_or, Contains}
use Rattle.std.proofs.lemmas.List.Elements.{Contains-push, Contains-push_cases, Contains-append_left}
use Rattle.dataflow.specs.Graph.{IsEdge}
use Rattle.dataflow.proofs.Preds.{none_in}
use Rattle.graph_spread.specs.Spread.{IsIn, IsOut, Spreads, begins, goes, Reaching}
use Rattle.graph_spread.proofs.Reached.{differ}

module _ (ways : List (List ℕ)) (passes : ℕ → ℕ → Bool) (sources : List ℕ) where
  -- what is reached is right, and so is all that the fact crosses to from reached nodes that don't wait
  pub record Spreading (reached : List Bool) (waiting : List ℕ) : Type 0 where
    pub long : length reached ≡ length ways
    pub right : (n : ℕ) → IsIn reached n → Spreads ways passes sources n
    pub wait : (n : ℕ) → Contains waiting n → IsIn reached n
    pub begun : (n : ℕ) → Contains sources n → IsIn reached n
    pub past : (m n : ℕ) → IsIn reached m → IsEdge ways m n → passes m n ≡ true → Contains waiting m ⊎ IsIn reached n

  -- the sources are reached
  pub spreading_begins : (old reached : List Bool) (nothing waiting : List ℕ) → nothing ≡ [] → ((n : ℕ) → IsOut old n) → length reached ≡ length ways →
      Reaching (λ n. Contains sources n) old reached nothing waiting → Spreading reached waiting
  spreading_begins old reached nothing waiting empty off long r = record {
    long = long;
    right = λ n on. by_right n (r.more n on);
    wait = λ n at. by_wait n (r.wait n at);
    begun = r.all;
    past = λ m n on edge pass. inl (r.added m on (off m));
  } where
    by_right : (n : ℕ) → IsIn old n ⊎ Contains sources n → Spreads ways passes sources n
    by_right n (inl on) = absurd (differ (slice_index_or old n false) on (off n))
    by_right n (inr at) = begins at

    by_wait : (n : ℕ) → Contains nothing n ⊎ IsIn reached n → IsIn reached n
    by_wait n (inl at) = absurd (none_in n (subst (λ (ns : List ℕ). Contains ns n) empty at))
    by_wait n (inr on) = on

  -- the last one that waits is left
  pub spreading_on : (reached new : List Bool) (rest now : List ℕ) (m : ℕ) → Spreading reached (rest ++ m ∷ []) →
      Reaching (λ n. IsEdge ways m n × (passes m n ≡ true)) reached new rest now → Spreading new now
  spreading_on reached new rest now m h r = record {
    long = r.long ∙ h.long;
    right = λ n on. by_right n (r.more n on);
    wait = λ n at. by_wait n (r.wait n at);
    begun = λ n at. r.kept n (h.begun n at);
    past = λ k n on edge pass. by_past k n (slice_index_or reached k false) refl on edge pass;
  } where
    by_right : (n : ℕ) → IsIn reached n ⊎ (IsEdge ways m n × (passes m n ≡ true)) → Spreads ways passes sources n
    by_right n (inl on) = h.right n on
    by_right n (inr at) = goes {m = m} (h.right m (h.wait m (Contains-push rest m))) at.0 at.1

    by_wait : (n : ℕ) → Contains rest n ⊎ IsIn new n → IsIn new n
    by_wait n (inl at) = r.kept n (h.wait n (Contains-append_left rest (m ∷ []) n at))
    by_wait n (inr on) = on

    by_place : (k n : ℕ) → Contains rest k ⊎ (m ≡ k) → IsEdge ways k n → passes k n ≡ true → Contains now k ⊎ IsIn new n
    by_place k n (inl at) edge pass = inl (r.held k at)
    by_place k n (inr same) edge pass =
        inr (r.all n (subst (λ (z : ℕ). IsEdge ways z n × (passes z n ≡ true)) (sym same) (edge, pass)))

    by_past : (k n : ℕ) (z : Bool) → slice_index_or reached k false ≡ z → IsIn new k → IsEdge ways k n → passes k n ≡ true → Contains now k ⊎ IsIn new n
    by_past k n true e on edge pass = elim (h.past k n e edge pass) [
      | inl at ↦ by_place k n (Contains-push_cases rest m k at) edge pass
      | inr was ↦ inr (r.kept n was)
    ]
    by_past k n false e on edge pass = inl (r.added k on e)

  module _ (reached : List Bool) (h : Spreading reached []) where
    all_reached : {n : ℕ} → Spreads ways passes sources n → IsIn reached n
    all_reached (begins {n} at) = h.begun n at
    all_reached (goes {m} {n} s edge pass) = elim (h.past m n (all_reached s) edge pass) [ inl at ↦ absurd (none_in m at) | inr on ↦ on ]

    -- nothing waits: the walk has found all
    pub spread_is : (n : ℕ) → IsIn reached n ↔ Spreads ways passes sources n
    spread_is n = (h.right n, λ s. all_reached s)
