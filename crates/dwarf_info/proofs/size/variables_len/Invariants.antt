use Rattle.std.proofs.Common.{◌≡◌, ℕ, length, take}
use Rattle.std.specs.List.{flat_map}
use Rattle.dwarf_info.specs.steps.Parts.{variable_bytes}
use Rattle.dwarf_base.specs.Size.{capped}
use Rattle.dwarf_info.proofs.size.variables_len.Given as goal

abbrev pub invariant-loop-variable : goal.invariant-loop-variable
invariant-loop-variable l = (offset : ℕ → ℕ) → l.len ≡ capped (length (flat_map (variable_bytes offset) (take l.variable-index l.variables)))
