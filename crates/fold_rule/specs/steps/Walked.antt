-- The invariant of the search for reachable blocks: some are seen, and some of these still wait to be visited.
use Rattle.std.specs.Prelude.{◌≡◌, ◌⊎◌, ℕ, List, [], ◌∷◌, ◌++◌, Option, Some, None, Bool, true, cond, option_to_list}
use Rattle.std.specs.Option.{option_map}
use Rattle.std.specs.List.{flat_map}
use Rattle.mir_func.specs.declared.block.Block.{Block}
use Rattle.fold_targets.specs.Leads.{first_id}
use Rattle.fold_targets.specs.steps.Settled.{is_among}
use Rattle.fold_rule.specs.declared.ways.Ways.{Ways}
use Rattle.fold_rule.specs.Reached.{LeadTo, Reached}

-- the edges, each to the end of its chain
abbrev pub ended : (ℕ → ℕ) → Ways → Ways
ended end w = record { branch = option_map end w.branch; onward = option_map end w.onward }

-- a block that is seen for the first time waits
abbrev pub fresh : (ℕ → Bool) → Option ℕ → List ℕ
fresh seen None = []
fresh seen (Some n) = cond (seen n) [] (n ∷ [])

-- the targets of the edges
abbrev pub targets_of : List (ℕ × Ways) → List ℕ
targets_of es = flat_map (λ e. option_to_list e.1.branch ++ option_to_list e.1.onward) es

-- what is seen is reachable, and what waits is seen; the targets of a seen block that doesn't wait are seen
pub record IsWalk (blocks : List Block) (end : ℕ → ℕ) (ways : ℕ → Option Ways) (seen : ℕ → Bool) (waiting : List ℕ) : Type 0 where
  pub right : (q : ℕ) → seen q ≡ true → Reached blocks end q
  pub known : (q : ℕ) → is_among waiting q ≡ true → seen q ≡ true
  pub spread : (q n : ℕ) (w : Ways) → seen q ≡ true → ways q ≡ Some w → LeadTo w n → (is_among waiting q ≡ true) ⊎ (seen n ≡ true)
  pub first : (n : ℕ) → first_id blocks ≡ Some n → seen n ≡ true
