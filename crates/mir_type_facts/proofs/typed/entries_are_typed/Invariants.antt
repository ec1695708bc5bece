use Rattle.std.proofs.Common.{All, take}
use Rattle.mir_type_facts.specs.Typed.{IsTypedEntry}
use Rattle.mir_type_facts.proofs.typed.entries_are_typed.Given as goal

abbrev pub invariant-loop-entry : goal.invariant-loop-entry
invariant-loop-entry l = All IsTypedEntry (take l.entry-index l.entries)
