-- The code rule and the function with salvaged numbers agree.
use Rattle.std.specs.Prelude.{◌≡◌, List}
use Rattle.mir_func.specs.declared.debug_substitution.DebugSubstitution.{DebugSubstitution}
use Rattle.mir_func.specs.Function.{Function}
use Rattle.mir_func.specs.Strip.{stripped}
use Rattle.pass_trait.specs.Change.{change}
use Rattle.pass_trait.specs.Sizes.{KeepsSizes}
use Rattle.copyprop_rule.specs.Rule.{copied, salvaged_function, salvaged_entries}

-- stripping debug items after the pass is the same as the code rule after stripping them
abbrev pub CodeIsCopied : Type 0
CodeIsCopied = (f : Function) (subs : List DebugSubstitution) → stripped (salvaged_function f subs) ≡ copied (stripped f)

-- the pass enlarges nothing, but may use up to one new number for each item
abbrev pub CopiesKeepSizes : Type 0
CopiesKeepSizes = (f : Function) (subs : List DebugSubstitution) → KeepsSizes 1 1 (change f subs (salvaged_function f subs) (salvaged_entries f subs))
