-- The variable that a key of two nodes represents.
use Rattle.std.specs.Prelude.{ℕ, Option, None}
use Rattle.mir_func.specs.declared.variable.VarId.{VarId}

abbrev pub seen : ℕ × Option ℕ → VarId
seen k = record { node = k.0; inlined_at = k.1; fragment = None }
