use Rattle.std.proofs.Common.{◌≤◌, ℕ, List, length, []}
use Rattle.std.specs.Option.{option_copied}
use Rattle.dwarf_loclists.specs.declared.range.Range.{Range}
use Rattle.dwarf_loclists.specs.Fault.{EntryKind}
use Rattle.dwarf_loclists.specs.steps.Reader.{StandsAt, RangesRead}
use Rattle.dwarf_loclists.proofs.list_reader.read_list.Given as goal

abbrev pub invariant-loop-kind : goal.invariant-loop-kind
invariant-loop-kind l = record {
  short : length l.rest ≤ length l.bytes;
  so_far : (n : ℕ) (done : List (List Range)) → StandsAt l.bytes (EntryKind n done []) l.start
      → RangesRead l.bytes n done l.address l.last.hi l.last.expression.now (option_copied l.found) l.rest;
}

abbrev pub decreases-loop-kind : goal.decreases-loop-kind
decreases-loop-kind l = length l.rest
