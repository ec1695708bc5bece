use Rattle.std.proofs.Common.{◌≡◌, ℕ, ◌+◌, ◌<◌, ◌++◌, take, length, get_or}
use Rattle.std.specs.List.{flat_map}
use Rattle.dwarf_info.specs.steps.Front.{abstract_bytes}
use Rattle.dwarf_info.proofs.inlined_write.push_abstracts.Given as goal

abbrev pub invariant-loop-name : goal.invariant-loop-name
invariant-loop-name l = record {
  written : l.out.items ≡ l.fn.out.items ++ flat_map abstract_bytes (take l.name-index l.names);
  count : length l.origins.items ≡ l.name-index;
  at : (k : ℕ) → k < l.name-index → get_or l.origins.items k 0 ≡ length l.fn.out.items + length (flat_map abstract_bytes (take k l.names));
}
