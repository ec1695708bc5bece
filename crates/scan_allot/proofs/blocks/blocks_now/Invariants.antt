use Rattle.scan_stale.specs.scan_choice.Given.{given_by}
use Rattle.scan_allot.proofs.Walked.{Down}
use Rattle.scan_allot.proofs.blocks.blocks_now.Given as goal

abbrev pub invariant-loop-at : goal.invariant-loop-at
invariant-loop-at l = Down l.f (given_by l.given) l.stale l.at l.made l.lost.items
