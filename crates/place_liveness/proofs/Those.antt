-- The blocks that pass a test, one after another.
use Rattle.std.proofs.Common.{◌≡◌, ℕ, ◌+◌, ◌<◌, Bool, true, false, List, [], ◌∷◌, ◌++◌, sym, ap, ◌∙◌, inl, inr, arith, subst}
use Rattle.std.specs.Prelude.{◌⊎◌, Contains}
use Rattle.std.proofs.lemmas.Bool.{cases_eq}
use Rattle.std.proofs.lemmas.List.Elements.{Contains-push, Contains-push_cases, Contains-append_left, Contains-get_or}
use Rattle.graph_spread.specs.dataflow.Graph.{AreBlocks}
use Rattle.graph_spread.proofs.dataflow.Preds.{none_in}
use Rattle.place_liveness.specs.Alone.{AreThose}

module _ (blocks : ℕ) (test : ℕ → Bool) where
  pub those_none : (sources : List ℕ) → sources ≡ [] → AreThose blocks test 0 sources
  those_none sources none = record {
    right = λ b at. absurd (none_in b (subst (λ (ns : List ℕ). Contains ns b) none at));
    all = λ b lt. absurd (omega (arith, lt));
  }

  -- the block is one
  pub those_more : (count : ℕ) (sources new : List ℕ) → count < blocks → test count ≡ true → new ≡ sources ++ count ∷ [] →
      AreThose blocks test count sources → AreThose blocks test (count + 1) new
  those_more count sources new inside on is s = record {
    right = λ b at. by_right b (Contains-push_cases sources count b (subst (λ (ns : List ℕ). Contains ns b) is at));
    all = λ b lt e. subst (λ (ns : List ℕ). Contains ns b) (sym is) (by_all b (cases_eq b count) lt e);
  } where
    by_right : (b : ℕ) → Contains sources b ⊎ (count ≡ b) → (b < blocks) × (test b ≡ true)
    by_right b (inl at) = s.right b at
    by_right b (inr e) = subst (λ (k : ℕ). (k < blocks) × (test k ≡ true)) e (inside, on)

    by_all : (b : ℕ) → (b ≡ count) ⊎ (b ≡ count → ⊥) → b < count + 1 → test b ≡ true → Contains (sources ++ count ∷ []) b
    by_all b (inl e) lt live = subst (λ (k : ℕ). Contains (sources ++ count ∷ []) k) (sym e) (Contains-push sources count)
    by_all b (inr ne) lt live = Contains-append_left sources (count ∷ []) b (s.all b (omega (arith, lt, ne)) live)

  -- the block isn't one
  pub those_other : (count : ℕ) (sources : List ℕ) → test count ≡ false → AreThose blocks test count sources →
      AreThose blocks test (count + 1) sources
  those_other count sources off s = record { right = s.right; all = λ b lt e. by_all b (cases_eq b count) lt e } where
    by_all : (b : ℕ) → (b ≡ count) ⊎ (b ≡ count → ⊥) → b < count + 1 → test b ≡ true → Contains sources b
    by_all b (inl e) lt live =
        absurd (let no : true ≡ false = sym live ∙ (ap test e ∙ off) in cc)
    by_all b (inr ne) lt live = s.all b (omega (arith, lt, ne)) live

  -- sources are blocks
  pub those_within : (count : ℕ) (sources : List ℕ) → AreThose blocks test count sources → AreBlocks blocks sources
  those_within count sources s = λ k d lt. (s.right _ (Contains-get_or sources k d lt)).0
