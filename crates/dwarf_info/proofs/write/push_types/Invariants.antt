use Rattle.std.proofs.Common.{◌≡◌, ℕ, ◌+◌, ◌<◌, ◌++◌, take, length, get_or}
use Rattle.std.specs.List.{flat_map}
use Rattle.dwarf_info.specs.steps.Parts.{type_bytes}
use Rattle.dwarf_info.proofs.write.push_types.Given as goal

abbrev pub invariant-loop-base : goal.invariant-loop-base
invariant-loop-base l = record {
  written : l.out.items ≡ l.fn.out.items ++ flat_map type_bytes (take l.base-index l.types);
  count : length l.offsets.items ≡ l.base-index;
  at : (k : ℕ) → k < l.base-index → get_or l.offsets.items k 0 ≡ length l.fn.out.items + length (flat_map type_bytes (take k l.types));
}
