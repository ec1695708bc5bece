-- The order of refusals.
use Rattle.std.specs.Prelude.{Bool, ◌&&◌, ◌||◌, ◌==◌, nat_lt, if◌then◌else◌, Option, Some, None}
use Rattle.read_refusal.specs.declared.first.Refusal.{Refusal}
use Rattle.read_refusal.specs.Kind.{number_of}

-- whether a refusal comes before another: at an earlier line, or at the same line with a lower number
abbrev pub comes_before : Refusal → Refusal → Bool
comes_before one other = nat_lt one.line other.line || (one.line == other.line && nat_lt (number_of one.kind) (number_of other.kind))

-- the first of two optional refusals
abbrev pub earlier : Option Refusal → Option Refusal → Option Refusal
earlier None other = other
earlier (Some one) None = Some one
earlier (Some one) (Some other) = if comes_before other one then Some other else Some one
