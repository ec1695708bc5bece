-- The keys of pairs in an index.
use Rattle.std.specs.Prelude.{ℕ, Bool, ◌&&◌, nat_eq}
use Rattle.mir_func.specs.declared.debug_substitution.OperandPair.{OperandPair}

-- the key of a pair in the index
abbrev pub key_of : OperandPair → ℕ × ℕ
key_of q = (q.number, q.operand)

-- both are keys of the same pair
abbrev pub is_key : ℕ × ℕ → ℕ × ℕ → Bool
is_key p q = nat_eq p.0 q.0 && nat_eq p.1 q.1
