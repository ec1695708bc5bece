use Rattle.std.proofs.Common.{◌≡◌, ◌++◌, drop}
use Rattle.constant_section.specs.Section.{with_constants, places_behind}
use Rattle.constant_section.proofs.section.push_constants.Given as goal

abbrev pub invariant-loop-constant : goal.invariant-loop-constant
invariant-loop-constant l = record {
  bytes : with_constants l.bytes (drop l.constant-index l.constants) ≡ with_constants l.fn.bytes l.constants;
  places : l.places ++ places_behind l.bytes (drop l.constant-index l.constants) ≡ places_behind l.fn.bytes l.constants;
}
