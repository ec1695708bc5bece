-- Adding a substitution.
use Rattle.std.specs.Prelude.{List, [], ◌∷◌, ◌++◌, cond, is_some}
use Rattle.mir_func.specs.declared.debug_substitution.DebugSubstitution.{DebugSubstitution}
use Rattle.mir_func.specs.Resolve.{entry_of}

-- the entries with one more at the end, unless its source has one already
abbrev pub added : List DebugSubstitution → DebugSubstitution → List DebugSubstitution
added subs e = cond (is_some (entry_of subs e.src)) subs (subs ++ e ∷ [])
