use Rattle.std.proofs.Common.{◌≡◌, map, take}
use Rattle.std.specs.List.{All, AllPairs}
use Rattle.cli_numbers.specs.Symbols.{pair_text, CanBeGiven, AreOthers}
use Rattle.cli_numbers.proofs.symbols.each_pair.Given as goal

abbrev pub invariant-loop-text : goal.invariant-loop-text
invariant-loop-text l = record {
  each : take l.text-index (map (λ t. t.now) l.texts) ≡ map pair_text l.pairs;
  given : All CanBeGiven l.pairs;
  once : AllPairs AreOthers l.pairs;
}
