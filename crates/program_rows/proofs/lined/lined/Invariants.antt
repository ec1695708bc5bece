use Rattle.std.specs.List.{flat_map}
use Rattle.std.proofs.Common.{◌≡◌, map, take, []}
use Rattle.prologue_rows.specs.Table.{declared_of}
use Rattle.program_rows.specs.Program.{body_line}
use Rattle.program_rows.proofs.lined.lined.Given as goal

abbrev pub invariant-loop-index : goal.invariant-loop-index
invariant-loop-index l = (map (λ x. x.function) l.lined.items ≡ take l.index l.functions)
    × ((map (λ x. x.line) l.lined.items ≡ map (body_line l.debug l.meta) (take l.index l.functions)) × (flat_map declared_of l.lined.items ≡ []))
