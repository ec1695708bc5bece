-- Lists of parts of variables in which the parts of one variable are chained, from the last one up.
use Rattle.std.specs.Prelude.{◌≡◌, ℕ, ◌-◌, ◌<◌, ◌≤◌, List, length, Option, Some, None, Bool, ◌&&◌, nat_eq, slice_get, slice_index}
use Rattle.std.specs.HashMap.{HashMap, get}
use Rattle.std.specs.declared.hash.FoldHasher.{FoldHasher}
use Rattle.std.specs.declared.hash.BuildHasherDefault.{BuildHasherDefault}
use Rattle.mir_func.specs.declared.variable.VarId.{VarId}
use Rattle.mir_func.specs.Variables.{is_same_node}

abbrev pub Key : Type 0
Key = ℕ × Option ℕ

-- the key of a part's variable: its node and the node that it is inlined at
abbrev pub key_of : VarId → Key
key_of v = (v.node, v.inlined_at)

-- both are keys of the same variable
abbrev pub is_key : Key → Key → Bool
is_key p q = nat_eq p.0 q.0 && is_same_node p.1 q.1

abbrev pub or_zero : Option ℕ → ℕ
or_zero None = 0
or_zero (Some n) = n

-- the part at index i is one of the variable with this key
abbrev pub IsPartOf : List VarId → Key → ℕ → Type 0
IsPartOf parts k i = (w : VarId) × (slice_get parts i ≡ Some w) × (key_of w ≡ k)

-- among the first n parts those of the variable are below index `end`, and the last of them, if there is one, is just below it
pub record EndAt (parts : List VarId) (k : Key) (n end : ℕ) : Type 0 where
  pub within : end ≤ n
  pub last : 0 < end → IsPartOf parts k (end - 1)
  pub rest : (i : ℕ) → end ≤ i → i < n → IsPartOf parts k i → ⊥

-- the ends of each variable's parts among the first n, and for each of these n the end of its variable's parts before it
pub record AreChained (parts : List VarId) (n : ℕ) (ends : HashMap Key ℕ (BuildHasherDefault FoldHasher)) (before : List ℕ) : Type 0 where
  pub for_all : length before ≡ n
  pub last : (k : Key) → EndAt parts k n (or_zero (get is_key ends k))
  pub each : (i : ℕ) (w : VarId) → i < n → slice_get parts i ≡ Some w → EndAt parts (key_of w) i (slice_index before i)
