use Rattle.std.proofs.Common.{length}
use Rattle.dwarf_loclists.specs.steps.Pieces.{SpellsPieces}
use Rattle.dwarf_loclists.proofs.split.are_pieces.Given as goal

abbrev pub invariant-loop-rest : goal.invariant-loop-rest
invariant-loop-rest l = record {
  on : SpellsPieces l.from l.rest → SpellsPieces 0 l.bytes;
  back : SpellsPieces 0 l.bytes → SpellsPieces l.from l.rest;
}

abbrev pub decreases-loop-rest : goal.decreases-loop-rest
decreases-loop-rest l = length l.rest
