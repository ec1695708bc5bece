use Rattle.std.proofs.Common.{◌≡◌, ◌++◌, take}
use Rattle.std.specs.Prelude.{slice_index}
use Rattle.std.specs.List.{flat_map}
use Rattle.emit_code.specs.Rule.{Layout, entries_at, sites_in}
use Rattle.emit_code.specs.steps.Emitted.{AllStandAt}
use Rattle.emit_code.proofs.entries.push_block.Given as goal

abbrev pub invariant-loop-index : goal.invariant-loop-index
invariant-loop-index l = (x : Layout) → AllStandAt x l.plan (slice_index l.plan.table.firsts l.block) l.block l.items →
    l.entries ≡ l.initial.entries ++ flat_map (entries_at x) (sites_in l.block 0 (take l.index l.items))
