use Rattle.std.proofs.Common.{◌≡◌, drop}
use Rattle.constant_section.specs.Section.{greatest_alignment}
use Rattle.constant_section.proofs.section.greatest_alignment.Given as goal

abbrev pub invariant-loop-constant : goal.invariant-loop-constant
invariant-loop-constant l = greatest_alignment l.most (drop l.constant-index l.constants) ≡ greatest_alignment l.alignment l.constants
