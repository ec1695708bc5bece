use Rattle.std.proofs.Common.{All, take}
use Rattle.mir_type_facts.specs.Typed.{IsTypedBlock}
use Rattle.mir_type_facts.proofs.typed.blocks_are_typed.Given as goal

abbrev pub invariant-loop-block : goal.invariant-loop-block
invariant-loop-block l = All IsTypedBlock (take l.block-index l.blocks)
