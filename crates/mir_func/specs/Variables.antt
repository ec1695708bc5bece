-- When two parts of variables are the same, and when they overlap.
use Rattle.std.specs.Prelude.{ℕ, ◌+◌, ◌*◌, ◌%◌, ◌^◌, Bool, true, false, ◌&&◌, Option, Some, None, nat_eq, nat_lt}
use Rattle.mir_func.specs.declared.variable.VarId.{VarId}
use Rattle.mir_func.specs.Parts.{Bytes}

-- both are inlined at the same node, or neither is inlined (LLVM: `inlinedAt` of a `DILocation`)
abbrev pub is_same_node : Option ℕ → Option ℕ → Bool
is_same_node None None = true
is_same_node (Some m) (Some n) = nat_eq m n
is_same_node None (Some n) = false
is_same_node (Some m) None = false

-- parts of one variable, in one inlined instance
abbrev pub is_same_variable : VarId → VarId → Bool
is_same_variable v w = nat_eq v.node w.node && is_same_node v.inlined_at w.inlined_at

-- the same bytes of a variable, or both the whole
abbrev pub are_same_bytes : Option Bytes → Option Bytes → Bool
are_same_bytes None None = true
are_same_bytes (Some a) (Some b) = nat_eq a.offset b.offset && nat_eq a.length b.length
are_same_bytes None (Some b) = false
are_same_bytes (Some a) None = false

-- the same part of the same variable, in one inlined instance (LLVM: equality of `DebugVariable`)
abbrev pub is_same : VarId → VarId → Bool
is_same v w = is_same_variable v w && are_same_bytes v.fragment w.fragment

-- some byte is in both parts. `None` is the whole variable
abbrev pub do_meet : Option Bytes → Option Bytes → Bool
do_meet None b = true
do_meet (Some a) None = true
do_meet (Some a) (Some b) = nat_lt a.offset (b.offset + b.length) && nat_lt b.offset (a.offset + a.length)

-- parts of one variable that have some byte in common
abbrev pub overlaps : VarId → VarId → Bool
overlaps v w = is_same_variable v w && do_meet v.fragment w.fragment

-- the value of a part of so many bytes: the low bytes of a value
abbrev pub low_part : Option Bytes → ℕ → ℕ
low_part None x = x
low_part (Some b) x = x % 2 ^ (8 * b.length)

-- the value that this part of a variable gets from a value
abbrev pub part_value : VarId → ℕ → ℕ
part_value v x = low_part v.fragment x
