use Rattle.std.proofs.Common.{◌≡◌, ◌-◌, length, take}
use Rattle.dwarf_frame.specs.FirstFault.{saves_at}
use Rattle.dwarf_frame.proofs.ReadLoops.{front}
use Rattle.dwarf_frame.proofs.read.saves.Given as goal

abbrev pub invariant-loop-register : goal.invariant-loop-register
invariant-loop-register l = record {
  count : length l.saved ≡ 32;
  so_far : saves_at 32 0 l.bytes ≡ front (take l.register l.saved) (saves_at (32 - l.register) l.register l.rest);
}
