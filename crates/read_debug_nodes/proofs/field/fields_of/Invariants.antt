use Rattle.std.proofs.Common.{◌≡◌, ◌-◌, ◌≤◌, take, drop}
use Rattle.read_metadata.specs.Field.{pieces}
use Rattle.read_debug_nodes.specs.Field.{all_fields}
use Rattle.read_debug_nodes.proofs.Pieces.{gathered}
use Rattle.read_debug_nodes.proofs.field.fields_of.Given as goal

abbrev pub invariant-loop-at : goal.invariant-loop-at
invariant-loop-at l = record {
  started : l.start ≤ l.at;
  shallow : l.depth ≤ l.at;
  read : gathered l.fields (take (l.at - l.start) (drop l.start l.tokens)) (pieces l.depth (drop l.at l.tokens)) ≡ all_fields (pieces 0 l.tokens);
}
