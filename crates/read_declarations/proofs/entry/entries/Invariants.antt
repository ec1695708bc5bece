use Rattle.std.proofs.Common.{◌≡◌, drop}
use Rattle.read_declarations.specs.FlowMapping.{AreKeys, entries_from, entries_of}
use Rattle.read_declarations.proofs.entry.entries.Given as goal

abbrev pub invariant-loop-piece : goal.invariant-loop-piece
invariant-loop-piece l = record {
  read : entries_from l.lines l.is_cut l.so_far (drop l.piece-index l.pieces) ≡ entries_of l.lines l.is_cut l.pieces;
  keys : AreKeys l.lines l.keys l.so_far.fields;
}
