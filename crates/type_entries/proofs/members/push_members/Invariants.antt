use Rattle.std.proofs.Common.{◌≡◌, ◌++◌, filter, map, take}
use Rattle.type_entries.specs.Entries.{is_told, member_item}
use Rattle.type_entries.proofs.members.push_members.Given as goal

abbrev pub invariant-loop-member : goal.invariant-loop-member
invariant-loop-member l = l.tree ≡ l.initial.tree ++ map (member_item l.t) (filter (is_told l.t l.bytes) (take l.member-index l.members))
