use Rattle.std.specs.List.{flat_map}
use Rattle.std.proofs.Common.{◌≡◌, ◌++◌, drop}
use Rattle.listing_meaning.specs.Program.{lines_of}
use Rattle.object_command.specs.Calls.{sites_in}
use Rattle.object_command.proofs.calls.push_function.Given as goal

abbrev pub invariant-loop-block : goal.invariant-loop-block
invariant-loop-block l =
    l.sites ++ flat_map sites_in (flat_map (λ b. b.lines) (drop l.block-index l.fn.function.blocks))
    ≡ l.fn.sites ++ flat_map sites_in (lines_of l.fn.function)
