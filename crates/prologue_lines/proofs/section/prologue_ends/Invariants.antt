use Rattle.std.proofs.Common.{◌≡◌, take}
use Rattle.prologue_lines.specs.steps.Ends.{ends_in}
use Rattle.prologue_lines.proofs.section.prologue_ends.Given as goal

abbrev pub invariant-loop-sequence : goal.invariant-loop-sequence
invariant-loop-sequence l = l.count ≡ ends_in (take l.sequence-index l.sequences)
