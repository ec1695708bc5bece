use Rattle.std.proofs.Common.{◌≡◌, ◌++◌, map, drop}
use Rattle.std.specs.List.{flat_map}
use Rattle.dwarf_info.specs.steps.Parts.{in_table}
use Rattle.debug_placement.specs.Entries.{part_of, part_pieces}
use Rattle.debug_content.proofs.entries.push_functions.Given as goal

abbrev pub invariant-loop-function : goal.invariant-loop-function
invariant-loop-function l =
    l.pieces ++ flat_map (part_pieces l.text) (map (part_of (in_table l.offsets)) (drop l.function-index l.functions))
    ≡ l.fn.pieces ++ flat_map (part_pieces l.text) (map (part_of (in_table l.offsets)) l.functions)
