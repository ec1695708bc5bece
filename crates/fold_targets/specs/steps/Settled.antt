-- The invariant of the search for the ends of chains, block by block.
use Rattle.std.specs.Prelude.{◌≡◌, ℕ, List, [], ◌∷◌, Bool, Option, Some, nat_eq}
use Rattle.std.specs.List.{list_any}
use Rattle.std.specs.Option.{IsSome}
use Rattle.fold_targets.specs.Ways.{EndsAt}

module _ (lead : ℕ → Option ℕ) where
  -- the known ends are right, and if a block's end is known, so is that of the block to which it forwards
  pub record AreEnds (ends : ℕ → Option ℕ) : Type 0 where
    pub sound : (n e : ℕ) → ends n ≡ Some e → EndsAt lead n e
    pub closed : (n e m : ℕ) → ends n ≡ Some e → lead n ≡ Some m → IsSome (ends m)

  -- a chain: each of the blocks forwards to the next, and the last to block r. The first is `from`, which is r if there
  -- are none
  abbrev pub Chain : (from : ℕ) → List ℕ → (r : ℕ) → Type 0
  Chain from [] r = from ≡ r
  Chain from (x ∷ xs) r = (x ≡ from) × ((n : ℕ) × (lead x ≡ Some n) × Chain n xs r)

-- the ends that were known are known still
abbrev pub StayKnown : (old new : ℕ → Option ℕ) → Type 0
StayKnown old new = (n : ℕ) → IsSome (old n) → IsSome (new n)

-- the number is one of these
abbrev pub is_among : List ℕ → ℕ → Bool
is_among xs n = list_any (λ x. nat_eq x n) xs
