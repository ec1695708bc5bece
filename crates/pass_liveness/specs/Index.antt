-- The index of a number in a list.
use Rattle.std.specs.Prelude.{◌≡◌, ℕ, suc, List, [], ◌∷◌, cond, nat_eq, Option, Some, None, option_map}
use Rattle.std.specs.HashMap.{HashMap, get}
use Rattle.std.specs.declared.hash.FoldHasher.{FoldHasher}
use Rattle.std.specs.declared.hash.BuildHasherDefault.{BuildHasherDefault}

-- the first index of the number in the list
abbrev pub index_in : List ℕ → ℕ → Option ℕ
index_in [] n = None
index_in (m ∷ ms) n = cond (nat_eq m n) (Some 0) (option_map suc (index_in ms n))

-- the hash map has the first index of each number of the list
abbrev pub Finds : List ℕ → HashMap ℕ ℕ (BuildHasherDefault FoldHasher) → Type 0
Finds list found = (n : ℕ) → get nat_eq found n ≡ index_in list n
