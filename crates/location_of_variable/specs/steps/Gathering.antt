-- How parts are grouped by variable. A variable's number is its index in the list of variables.
use Rattle.std.specs.Prelude.{◌≡◌, ℕ, ◌<◌, List, [], ◌∷◌, length, All, Contains, Option, Some, None, IsSome, Bool, nat_eq, ◌&&◌, slice_get}
use Rattle.std.specs.HashMap.{HashMap, get}
use Rattle.std.specs.declared.hash.FoldHasher.{FoldHasher}
use Rattle.std.specs.declared.hash.BuildHasherDefault.{BuildHasherDefault}
use Rattle.mir_func.specs.declared.variable.VarId.{VarId}
use Rattle.mir_func.specs.Parts.{Bytes}
use Rattle.mir_func.specs.Variables.{is_same_node}
use Rattle.location_of_variable.specs.declared.group.Group.{Group}
use Rattle.location_of_variable.specs.declared.group.Piece.{Piece}

abbrev pub Key : Type 0
Key = ℕ × Option ℕ

-- the key of a part's variable: its node and the node that it is inlined at
abbrev pub key_of : VarId → Key
key_of v = (v.node, v.inlined_at)

abbrev pub is_key : Key → Key → Bool
is_key p q = nat_eq p.0 q.0 && is_same_node p.1 q.1

abbrev pub Numbers : Type 0
Numbers = HashMap Key ℕ (BuildHasherDefault FoldHasher)

-- the table has the numbers of the first n variables, by their keys
pub record NumbersBelow (n : ℕ) (variables : List VarId) (numbers : Numbers) : Type 0 where
  pub found : (q : Key) (k : ℕ) → get is_key numbers q ≡ Some k → (k < n) × ((v : VarId) × (slice_get variables k ≡ Some v) × (key_of v ≡ q))
  pub each : (k : ℕ) (v : VarId) → k < n → slice_get variables k ≡ Some v → IsSome (get is_key numbers (key_of v))

abbrev pub whole_with : Option Bytes → (index : ℕ) → Option ℕ → Option ℕ
whole_with None j old = Some j
whole_with (Some b) j old = old

abbrev pub pieces_with : Option Bytes → (index : ℕ) → List Piece
pieces_with None j = []
pieces_with (Some b) j = record { bytes = b; index = j } ∷ []

pub record IsEmptyGroup (g : Group) : Type 0 where
  pub whole : g.whole ≡ None
  pub pieces : g.pieces.items ≡ []

-- the part at index j is of variable number k, and is this fragment or the whole
abbrev pub IsAt : (parts : List VarId) → Numbers → (k j : ℕ) → Option Bytes → Type 0
IsAt parts numbers k j b = (w : VarId) × (slice_get parts j ≡ Some w) × (get is_key numbers (key_of w) ≡ Some k) × (w.fragment ≡ b)

abbrev pub IsWholeBelow : (parts : List VarId) → Numbers → (n k : ℕ) → Option ℕ → Type 0
IsWholeBelow parts numbers n k None = (j : ℕ) → j < n → IsAt parts numbers k j None → ⊥
IsWholeBelow parts numbers n k (Some j) = IsAt parts numbers k j None

-- the group of variable number k among the first n parts
pub record Gathers (parts : List VarId) (numbers : Numbers) (n k : ℕ) (g : Group) : Type 0 where
  pub whole : IsWholeBelow parts numbers n k g.whole
  pub each : All (λ x. IsAt parts numbers k x.index (Some x.bytes)) g.pieces.items
  pub all : (j : ℕ) (b : Bytes) → j < n → IsAt parts numbers k j (Some b) → Contains g.pieces.items (record { bytes = b; index = j })

-- the groups of all variables among the first n parts
pub record AreGathered (parts : List VarId) (numbers : Numbers) (n count : ℕ) (groups : List Group) : Type 0 where
  pub for_all : length groups ≡ count
  pub each : (k : ℕ) (g : Group) → slice_get groups k ≡ Some g → Gathers parts numbers n k g
