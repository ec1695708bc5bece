use Rattle.std.proofs.Common.{◌≡◌, ◌++◌, map, take, drop}
use Rattle.fold_undef.specs.steps.Gathered.{kills_at, with_kills_of}
use Rattle.fold_undef.proofs.put.put_all.Given as goal

abbrev pub invariant-loop-b : goal.invariant-loop-b
invariant-loop-b l = l.b-items ≡ map (with_kills_of (kills_at l.fn.kills)) (take l.b-index l.fn.blocks.items) ++ drop l.b-index l.fn.blocks.items
