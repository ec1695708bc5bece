-- What is known of the subprograms of scopes.
use Rattle.std.specs.Prelude.{◌≡◌, ℕ, List, Contains, Option, Some}
use Rattle.std.specs.Ordering.{nat_cmp}
use Rattle.std.specs.BTreeMap.{BTreeMap, get}
use Rattle.read_metadata.specs.Maps.{Maps}
use Rattle.inline_subroutines.specs.Subprogram.{IsSubprogramOf}

-- what is known of scopes: the subprogram of each
abbrev pub AreSubprograms : Maps → (way : List ℕ) → BTreeMap ℕ (Option ℕ) → Type 0
AreSubprograms meta way known = (n : ℕ) (found : Option ℕ) → (Contains way n → ⊥) → get nat_cmp known n ≡ Some found → IsSubprogramOf meta (Some n) found

-- A walk from a scope met the scopes of the way, each the one around the one before it, and has found the subprogram of all of them.
pub record IsScopeWay (meta : Maps) (scope : Option ℕ) (way : List ℕ) (known : BTreeMap ℕ (Option ℕ)) (found : Option ℕ) : Type 0 where
  pub subprogram : IsSubprogramOf meta scope found
  pub same : (n : ℕ) → Contains way n → IsSubprogramOf meta (Some n) found
  pub known_still : AreSubprograms meta way known

-- the scopes of a way have this subprogram now, and all others are as before
abbrev pub AreKept : List ℕ → Option ℕ → (old new : BTreeMap ℕ (Option ℕ)) → Type 0
AreKept way found old new =
    ((n : ℕ) → Contains way n → get nat_cmp new n ≡ Some found) × ((n : ℕ) → (Contains way n → ⊥) → get nat_cmp new n ≡ get nat_cmp old n)
