use Rattle.std.proofs.Common.{◌≡◌, drop}
use Rattle.read_declarations.specs.Constants.{AreNumbers}
use Rattle.read_declarations.specs.Fixed.{fixed_ids, fixed_behind, fixed_read}
use Rattle.read_declarations.proofs.fixed.judged_entries.Given as goal

abbrev pub invariant-loop-entry : goal.invariant-loop-entry
invariant-loop-entry l = record {
  read : fixed_behind l.room l.lines l.read (drop l.entry-index l.entry-items) ≡ fixed_read l.room l.lines;
  known : AreNumbers l.known (fixed_ids l.read.entries);
}
