-- The tokens of overlapping parts of one variable.
use Rattle.std.specs.Prelude.{◌≡◌, ℕ, Some, true, false}
use Rattle.mir_func.specs.declared.position.Pos.{Pos}
use Rattle.mir_func.specs.declared.variable.VarId.{VarId}
use Rattle.mir_func.specs.Variables.{is_same, overlaps}
use Rattle.mir_func.specs.Graph.{Program}
use Rattle.sem_mir.specs.ValueId.{Token, Tokens, Path, variable_token}

-- Of two different parts of a variable that overlap, at most one has a token at a point of a path.
abbrev pub PartsHaveOneToken : Type 0
PartsHaveOneToken = (g : Program) (start : Pos) (n : ℕ) (p : Pos) (t : Tokens) → Path g start n p t → (v w : VarId) → overlaps v w ≡ true →
    is_same v w ≡ false → (a b : Token) → variable_token v t ≡ Some a → variable_token w t ≡ Some b → ⊥
