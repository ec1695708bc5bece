use Rattle.std.proofs.Common.{◌≡◌, drop}
use Rattle.read_declarations.specs.Substitutions.{substitutions_behind, substitutions_of}
use Rattle.read_declarations.proofs.substitutions.substitutions.Given as goal

abbrev pub invariant-loop-entry : goal.invariant-loop-entry
invariant-loop-entry l = substitutions_behind l.lines l.read (drop l.entry-index l.entry-items) ≡ substitutions_of l.lines
