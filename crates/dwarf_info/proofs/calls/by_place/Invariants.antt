use Rattle.std.proofs.Common.{map, take}
use Rattle.dwarf_info.proofs.PlaceLemmas.{ArePlaced}
use Rattle.dwarf_info.proofs.calls.by_place.Given as goal

abbrev pub invariant-loop-k : goal.invariant-loop-k
invariant-loop-k l = ArePlaced (take l.k l.calls) l.own.items (map (λ v. v.items) l.inside.items)
