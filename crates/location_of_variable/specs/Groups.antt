-- The parts of a variable in a list of parts: fragments, or the whole variable.
use Rattle.std.specs.Prelude.{◌≡◌, ℕ, List, length, All, Contains, Option, Some, None, slice_get}
use Rattle.std.specs.List.Sorted.{IsNonDecreasingBy}
use Rattle.mir_func.specs.declared.variable.VarId.{VarId}
use Rattle.mir_func.specs.Parts.{Bytes}
use Rattle.location_of_variable.specs.declared.group.Group.{Group}
use Rattle.location_of_variable.specs.declared.group.Piece.{Piece}

-- a part of a variable: a fragment (LLVM: DW_OP_LLVM_fragment), or the whole for None
abbrev pub part_of : VarId → Option Bytes → VarId
part_of v b = record v { fragment = b }

-- the part at the piece's index is the fragment of these bytes
abbrev pub IsPieceOf : (parts : List VarId) → VarId → Piece → Type 0
IsPieceOf parts v x = slice_get parts x.index ≡ Some (part_of v (Some x.bytes))

-- the index of the whole variable among the parts, or None if it isn't one of them
abbrev pub IsWholeOf : (parts : List VarId) → VarId → Option ℕ → Type 0
IsWholeOf parts v None = (j : ℕ) → slice_get parts j ≡ Some (part_of v None) → ⊥
IsWholeOf parts v (Some j) = slice_get parts j ≡ Some (part_of v None)

-- all parts of a variable among these: the whole's index, and the fragments in ascending order of their offsets
pub record IsGroupOf (parts : List VarId) (v : VarId) (group : Group) : Type 0 where
  pub whole : IsWholeOf parts v group.whole
  pub each : All (IsPieceOf parts v) group.pieces.items
  pub all : (j : ℕ) (b : Bytes) → slice_get parts j ≡ Some (part_of v (Some b)) → Contains group.pieces.items (record { bytes = b; index = j })
  pub ascend : IsNonDecreasingBy (λ (x : Piece). x.bytes.offset) group.pieces.items

-- the group of each variable of a list, in the list's order
pub record AreGroupsOf (parts variables : List VarId) (groups : List Group) : Type 0 where
  pub for_all : length groups ≡ length variables
  pub each : (k : ℕ) (v : VarId) (group : Group) → slice_get variables k ≡ Some v → slice_get groups k ≡ Some group → IsGroupOf parts v group
