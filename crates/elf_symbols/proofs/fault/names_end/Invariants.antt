use Rattle.std.specs.Prelude.{false}
use Rattle.std.proofs.Common.{◌≡◌, ◌+◌, ◌-◌, ◌*◌, ◌^◌, ◌<◌, drop}
use Rattle.elf_symbols.specs.FirstFault.{names_end}
use Rattle.elf_symbols.proofs.fault.names_end.Given as goal

abbrev pub invariant-loop-index : goal.invariant-loop-index
invariant-loop-index l = record {
  so_far : names_end l.names (24 * (l.index + 1)) l.others l.name_at (l.count - l.index) (drop (24 * (l.index + 1)) l.table)
      ≡ names_end l.names 24 false 1 l.count (drop 24 l.table);
  small : l.name_at < 2 ^ 32;
}
