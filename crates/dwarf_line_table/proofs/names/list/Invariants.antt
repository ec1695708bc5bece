use Rattle.std.proofs.Common.{◌≡◌, ◌++◌, drop, map}
use Rattle.dwarf_line_table.proofs.names.list.Given as goal

abbrev pub invariant-loop-key : goal.invariant-loop-key
invariant-loop-key l = l.names ++ map (λ k. k.items) (drop l.key-index l.keys) ≡ map (λ k. k.items) l.keys
