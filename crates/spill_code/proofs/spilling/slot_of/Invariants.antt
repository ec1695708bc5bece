use Rattle.std.proofs.Common.{◌≡◌, drop}
use Rattle.spill_code.specs.Rewrite.{slot_of}
use Rattle.spill_code.proofs.spilling.slot_of.Given as goal

abbrev pub invariant-loop-home : goal.invariant-loop-home
invariant-loop-home l = slot_of l.homes l.register ≡ slot_of (drop l.home-index l.homes) l.register
