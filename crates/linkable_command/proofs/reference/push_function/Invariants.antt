use Rattle.std.specs.List.{flat_map}
use Rattle.std.proofs.Common.{◌≡◌, ◌++◌, drop}
use Rattle.listing_meaning.specs.Program.{lines_of}
use Rattle.linkable_command.specs.References.{references_in}
use Rattle.linkable_command.proofs.reference.push_function.Given as goal

abbrev pub invariant-loop-block : goal.invariant-loop-block
invariant-loop-block l =
    l.made ++ flat_map references_in (flat_map (λ b. b.lines) (drop l.block-index l.fn.function.blocks))
    ≡ l.fn.made ++ flat_map references_in (lines_of l.fn.function)
