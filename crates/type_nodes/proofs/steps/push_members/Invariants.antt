use Rattle.std.proofs.Common.{◌≡◌, ◌++◌, filter, map, take}
use Rattle.graph_cycles.specs.Ends.{is_marked}
use Rattle.type_nodes.specs.declared.shape.Member.{Member}
use Rattle.type_nodes.proofs.steps.push_members.Given as goal

abbrev pub invariant-loop-member : goal.invariant-loop-member
invariant-loop-member l = l.ways ≡ l.initial.ways ++ filter (is_marked l.made) (map (λ (m : Member). m.base) (take l.member-index l.members))
