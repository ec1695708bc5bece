-- The interpreter's table of assignments to parts of variables.
use Rattle.std.specs.Prelude.{◌≡◌, ℕ, List, [], ◌∷◌, Option, None, Bool, true, ◌&&◌, cond, nat_eq, unwrap_or}
use Rattle.std.specs.Option.{option_eq}
use Rattle.std.specs.Map.{lookup}
use Rattle.mir_func.specs.declared.variable.VarId.{VarId}
use Rattle.mir_func.specs.Parts.{Bytes}
use Rattle.mir_func.specs.Variables.{are_same_bytes, do_meet}
use Rattle.sem_mir.specs.State.{assigned}

-- a variable's key: its node and the node that it is inlined at
abbrev pub key_of : VarId → ℕ × Option ℕ
key_of v = (v.node, v.inlined_at)

-- both are keys of the same variable, in one inlined instance
abbrev pub are_same_keys : ℕ × Option ℕ → ℕ × Option ℕ → Bool
are_same_keys k l = nat_eq k.0 l.0 && option_eq nat_eq k.1 l.1

-- the value of a part of one variable, by the assignments to the variable's parts, the newest first
abbrev pub part_in : Option Bytes → List (Option Bytes × Option ℕ) → Option ℕ
part_in b [] = None
part_in b (p ∷ ps) = cond (are_same_bytes b p.0) p.1 (cond (do_meet b p.0) None (part_in b ps))

-- the assignments to the parts of a variable: none if it isn't among the keys
abbrev pub parts_of : VarId → List ((ℕ × Option ℕ) × List (Option Bytes × Option ℕ)) → List (Option Bytes × Option ℕ)
parts_of v es = unwrap_or (lookup (are_same_keys (key_of v)) es) []

-- the value of a part of a variable by its newest assignment
abbrev pub assigned_in : VarId → List ((ℕ × Option ℕ) × List (Option Bytes × Option ℕ)) → Option ℕ
assigned_in v es = part_in v.fragment (parts_of v es)

-- each part has the same value by the table as by the assignments
abbrev pub MarksHold : List ((ℕ × Option ℕ) × List (Option Bytes × Option ℕ)) → List (VarId × Option ℕ) → Type 0
MarksHold es marks = (v : VarId) → assigned v marks ≡ assigned_in v es

-- what overlaps the other part overlaps this one, and so does the other part itself
abbrev pub Covers : Option Bytes → Option Bytes → Type 0
Covers part other = (do_meet other part ≡ true) × ((b : Option Bytes) → do_meet b other ≡ true → do_meet b part ≡ true)
