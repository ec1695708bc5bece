-- The keys of tracked entities: a kind and four numbers.
use Rattle.std.specs.Prelude.{ℕ, suc, Option, None, Some, Bool, ◌&&◌, nat_eq}
use Rattle.mir_func.specs.Parts.{Bytes}
use Rattle.value_solver.specs.declared.tracked.Tracked.{Tracked}
use Rattle.value_solver.specs.declared.tracked.Tracked.TheVariants.{Register, Slot, Pair, Part, Number}

-- a kind, and four numbers that distinguish an entity from the others of its kind
abbrev pub Key : Type 0
Key = ℕ × ℕ × ℕ × ℕ × ℕ

-- the node that a variable is inlined at plus 1, and 0 for none
abbrev pub node_code : Option ℕ → ℕ
node_code None = 0
node_code (Some n) = suc n

-- the offset of a part of a variable plus 1, and 0 for the whole
abbrev pub start_code : Option Bytes → ℕ
start_code None = 0
start_code (Some b) = suc b.offset

-- the length of a part of a variable in bytes, and 0 for the whole
abbrev pub length_code : Option Bytes → ℕ
length_code None = 0
length_code (Some b) = b.length

-- the key of an entity
abbrev pub key_of : Tracked → Key
key_of (Register r) = (0, r, 0, 0, 0)
key_of (Slot n) = (1, n, 0, 0, 0)
key_of (Pair q) = (2, q.number, q.operand, 0, 0)
key_of (Part v) = (3, v.node, node_code v.inlined_at, start_code v.fragment, length_code v.fragment)
key_of (Number c) = (4, c, 0, 0, 0)

-- both are the same key
abbrev pub is_key : Key → Key → Bool
is_key p q = (((nat_eq p.0 q.0 && nat_eq p.1 q.1) && nat_eq p.2 q.2) && nat_eq p.3 q.3) && nat_eq p.4 q.4
