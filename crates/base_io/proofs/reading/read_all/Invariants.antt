use Rattle.std.proofs.Common.{◌≡◌, ◌≤◌, ◌+◌, ◌-◌, length, take}
use Rattle.base_io.specs.Told.{Takes}
use Rattle.base_io.proofs.reading.read_all.Given as goal

abbrev pub invariant-loop-filled : goal.invariant-loop-filled
invariant-loop-filled g l =
    record {
      steady : g.S.Source.faults l.input ≡ g.S.Source.faults l.initial.input;
      filled : l.filled ≤ length l.bytes.items;
      most : length l.bytes.items ≤ l.limit + 1;
      taken : Takes (g.S.Source.left l.initial.input) (g.S.Source.left l.input) (take l.filled l.bytes.items);
    }

abbrev pub decreases-loop-filled : goal.decreases-loop-filled
decreases-loop-filled g l = l.limit + 1 - l.filled
