use Rattle.std.proofs.Common.{◌≡◌, ℕ, length, take}
use Rattle.std.specs.List.{flat_map}
use Rattle.dwarf_info.specs.steps.Parts.{function_bytes}
use Rattle.dwarf_base.specs.Size.{capped}
use Rattle.dwarf_info.proofs.size.functions_len.Given as goal

abbrev pub invariant-loop-function : goal.invariant-loop-function
invariant-loop-function l = (offset : ℕ → ℕ) → l.len ≡ capped (length (flat_map (function_bytes offset) (take l.function-index l.functions)))
