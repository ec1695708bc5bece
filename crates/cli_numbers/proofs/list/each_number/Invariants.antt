use Rattle.std.proofs.Common.{◌≡◌, ◌<◌, ◌^◌, map, take}
use Rattle.std.specs.List.{All}
use Rattle.std.specs.Fmt.{decimal}
use Rattle.cli_numbers.proofs.list.each_number.Given as goal

abbrev pub invariant-loop-piece : goal.invariant-loop-piece
invariant-loop-piece l = record {
  each : take l.piece-index (map (λ p. p.now) l.pieces) ≡ map decimal l.values;
  small : All (λ n. n < 2 ^ 64) l.values;
}
