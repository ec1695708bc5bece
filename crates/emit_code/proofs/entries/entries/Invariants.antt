use Rattle.std.proofs.Common.{◌≡◌, take}
use Rattle.std.specs.List.{flat_map}
use Rattle.emit_code.specs.Rule.{Layout, entries_at, sites_from}
use Rattle.emit_code.specs.steps.Plans.{IsPlan}
use Rattle.emit_code.proofs.entries.entries.Given as goal

abbrev pub invariant-loop-index : goal.invariant-loop-index
invariant-loop-index l = (x : Layout) → IsPlan x l.plan → x.framed.blocks ≡ l.blocks →
    l.entries ≡ flat_map (entries_at x) (sites_from 0 (take l.index l.blocks))
