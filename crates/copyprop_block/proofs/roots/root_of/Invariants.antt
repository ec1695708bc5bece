use Rattle.std.proofs.Common.{◌≡◌, drop}
use Rattle.copyprop_block.specs.Roots.{root_of}
use Rattle.copyprop_block.proofs.roots.root_of.Given as goal

abbrev pub invariant-loop-e : goal.invariant-loop-e
invariant-loop-e l = root_of l.roots l.r ≡ root_of (drop l.e-index l.roots) l.r
