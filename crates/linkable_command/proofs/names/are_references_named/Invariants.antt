use Rattle.std.specs.Prelude.{All}
use Rattle.std.proofs.Common.{take}
use Rattle.object_command.specs.Object.{IsSymbolName}
use Rattle.linkable_command.proofs.names.are_references_named.Given as goal

abbrev pub invariant-loop-reference : goal.invariant-loop-reference
invariant-loop-reference l = All (λ r. IsSymbolName r.name) (take l.reference-index l.referred)
