use Rattle.std.proofs.Common.{◌≡◌, ℕ, ◌<◌, ◌≤◌}
use Rattle.std.specs.Prelude.{None}
use Rattle.elf_object.specs.FirstFault.{names_end, sections_end, fault_after}
use Rattle.elf_object.proofs.fault.sections_fault.Given as goal

abbrev pub invariant-loop-index : goal.invariant-loop-index
invariant-loop-index l = record {
  name_at : l.name_at ≡ names_end l.bytes l.index;
  at : l.at ≡ sections_end l.bytes l.index;
  within : l.at ≤ l.table;
  sections : (k : ℕ) → k < l.index → fault_after l.bytes k ≡ None;
}
