use Rattle.std.proofs.Common.{◌≡◌, ◌≤◌, ◌+◌, drop}
use Rattle.mir_substitution.specs.mir_func.Objects.{local_count}
use Rattle.read_declarations.specs.Stack.{entry_offsets}
use Rattle.read_declarations.proofs.stack.local_count.Given as goal

abbrev pub invariant-loop-entry : goal.invariant-loop-entry
invariant-loop-entry l = record {
  same : l.count + local_count (entry_offsets (drop l.entry-index l.entries)) ≡ local_count (entry_offsets l.entries);
  few : l.count ≤ l.entry-index;
}
