use Rattle.std.proofs.Common.{◌≡◌}
use Rattle.gen_function.specs.Generator.{blocks_made}
use Rattle.gen_function.proofs.generator.make_blocks.Given as goal

abbrev pub invariant-loop-b : goal.invariant-loop-b
invariant-loop-b l =
    let made = blocks_made l.count l.b l.initial.draws in (l.blocks ≡ made.blocks) × (l.draws ≡ made.rest)
