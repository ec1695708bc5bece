-- The law of chains of substitutions.
use Rattle.std.specs.Prelude.{◌≡◌, ◌↔◌, List, Some}
use Rattle.mir_func.specs.declared.debug_substitution.OperandPair.{OperandPair}
use Rattle.mir_func.specs.declared.debug_substitution.DebugSubstitution.{DebugSubstitution}
use Rattle.mir_func.specs.Resolve.{resolve, Ends}

-- a pair resolves to another exactly if its chain ends there
abbrev pub ResolveIsEnd : Type 0
ResolveIsEnd = (subs : List DebugSubstitution) (q r : OperandPair) → (resolve subs q ≡ Some r) ↔ Ends subs q r
