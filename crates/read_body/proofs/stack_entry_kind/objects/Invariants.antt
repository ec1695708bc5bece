use Rattle.std.proofs.Common.{◌≡◌, ◌+◌, ◌*◌, ◌≤◌, drop}
use Rattle.read_body.specs.StackEntryKind.{objects_behind, local_block, objects_of}
use Rattle.read_body.proofs.stack_entry_kind.objects.Given as goal

abbrev pub invariant-loop-entry : goal.invariant-loop-entry
invariant-loop-entry l = record {
  read : objects_behind l.named (local_block l.entries) l.laid (drop l.entry-index l.entries) ≡ objects_of l.named l.entries;
  bound : l.laid.end ≤ 4294967296 + l.entry-index * 2147483648;
}
