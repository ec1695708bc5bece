use Rattle.std.proofs.Common.{◌++◌, ◌-◌, length, None}
use Rattle.dwarf_info.specs.Inlined.{call_bytes, calls_within}
use Rattle.dwarf_info.specs.steps.Parts.{in_table}
use Rattle.dwarf_info.proofs.CallLemmas.{IsWriting}
use Rattle.dwarf_info.proofs.calls.push_calls.Given as goal

abbrev pub invariant-loop-next : goal.invariant-loop-next
invariant-loop-next l =
    let bytes = call_bytes (in_table l.offsets) (in_table l.origins) l.first in
    IsWriting bytes l.calls (l.fn.out.items ++ calls_within bytes 0 l.calls None) l.out.items l.left.items

abbrev pub decreases-loop-next : goal.decreases-loop-next
decreases-loop-next l =
    length (l.fn.out.items ++ calls_within (call_bytes (in_table l.offsets) (in_table l.origins) l.first) 0 l.calls None) - length l.out.items
