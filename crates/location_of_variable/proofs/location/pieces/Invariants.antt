use Rattle.std.proofs.Common.{◌≡◌, ◌++◌, take, drop}
use Rattle.std.specs.Prelude.{All}
use Rattle.mir_func.specs.Parts.{IsPart}
use Rattle.location_of_variable.specs.declared.group.Piece.{Piece}
use Rattle.location_of_variable.specs.steps.Telling.{place_at, pieces_from}
use Rattle.location_of_variable.proofs.location.pieces.Given as goal

abbrev pub invariant-loop-piece : goal.invariant-loop-piece
invariant-loop-piece l = record {
  told : l.told ++ pieces_from (place_at l.places) l.end (drop l.piece-index l.parts) ≡ pieces_from (place_at l.places) 0 l.parts;
  parts : All (λ (x : Piece). IsPart x.bytes) (take l.piece-index l.parts);
}
