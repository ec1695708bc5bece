use Rattle.std.proofs.Common.{◌≡◌, ◌++◌, map, take}
use Rattle.dce_stale.specs.dce_rule.Dead.{Ends}
use Rattle.dce_stale.specs.dce_rule.Wrong.{silenced_block}
use Rattle.dce_stale.specs.Sets.{AreVerdicts, wrong_of, starts_of}
use Rattle.dce_sweep.specs.Left.{lost_in}
use Rattle.dce_sweep.proofs.left.left_blocks.Given as goal

abbrev pub invariant-loop-block : goal.invariant-loop-block
invariant-loop-block l = record {
  left : (ends : Ends) → AreVerdicts ends l.f l.dead →
      l.left.items ≡ map (silenced_block (wrong_of ends l.f (starts_of l.wrong)) ends) (take l.block l.f.blocks);
  lost : (ends : Ends) → AreVerdicts ends l.f l.dead →
      l.lost.items ≡ l.initial.lost.items ++ lost_in (wrong_of ends l.f (starts_of l.wrong)) ends (take l.block l.f.blocks);
}
