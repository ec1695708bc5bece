use Rattle.std.proofs.Common.{◌≡◌, ◌<◌, ◌++◌, drop}
use Rattle.listing_text.specs.Hex.{hex_lines}
use Rattle.listing_text.proofs.hex.push_hex_lines.Given as goal

abbrev pub invariant-loop-b : goal.invariant-loop-b
invariant-loop-b l = record {
  text : l.text ++ hex_lines l.column (drop l.b-index l.bytes) ≡ l.initial.text ++ hex_lines 0 l.bytes;
  column : l.column < 32;
}
