use Rattle.std.proofs.Common.{◌≡◌, ◌≤◌, drop}
use Rattle.mir_func.specs.Objects.{reach_from}
use Rattle.read_declarations.specs.Stack.{entry_offsets}
use Rattle.read_body.proofs.stack_entry_kind.local_block.Given as goal

abbrev pub invariant-loop-entry : goal.invariant-loop-entry
invariant-loop-entry l = record {
  same : reach_from l.reach (entry_offsets (drop l.entry-index l.entries)) ≡ reach_from 0 (entry_offsets l.entries);
  small : l.reach ≤ 4294967295;
}
