use Rattle.std.proofs.Common.{[]}
use Rattle.dwarf_unit.specs.inline_subroutines.steps.Known.{AreSubprograms}
use Rattle.dwarf_sections.proofs.Instances.{InstancesSoFar}
use Rattle.dwarf_sections.proofs.inlined.all_instances.Given as goal

abbrev pub invariant-loop-function : goal.invariant-loop-function
invariant-loop-function l = record {
  have : InstancesSoFar l.meta l.functions l.function-index l.all;
  known : AreSubprograms l.meta [] l.subprograms.known;
}
