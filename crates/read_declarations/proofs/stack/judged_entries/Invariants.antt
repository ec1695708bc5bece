use Rattle.std.proofs.Common.{◌≡◌, drop}
use Rattle.read_declarations.specs.Stack.{AreIds, stack_behind, stack_read}
use Rattle.read_declarations.proofs.stack.judged_entries.Given as goal

abbrev pub invariant-loop-entry : goal.invariant-loop-entry
invariant-loop-entry l = record {
  read : stack_behind l.lines l.read (drop l.entry-index l.entry-items) ≡ stack_read l.lines;
  ids : AreIds l.ids l.read.entries;
}
