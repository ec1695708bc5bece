use Rattle.std.proofs.Common.{◌≡◌, take}
use Rattle.mir_func.specs.declared.debug_substitution.OperandPair.{OperandPair}
use Rattle.mir_func.specs.Resolve.{entry_of}
use Rattle.kept_lists.proofs.substitutions.substitutions_of.Given as goal

abbrev pub invariant-loop-entry : goal.invariant-loop-entry
invariant-loop-entry l = (q : OperandPair) → entry_of l.subs q ≡ entry_of (take l.entry-index l.entries) q
