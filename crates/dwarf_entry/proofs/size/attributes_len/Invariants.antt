use Rattle.std.proofs.Common.{◌≡◌, ℕ, length, take}
use Rattle.std.specs.List.{flat_map}
use Rattle.dwarf_base.specs.Size.{capped}
use Rattle.dwarf_entry.specs.Entries.{attribute_bytes}
use Rattle.dwarf_entry.proofs.size.attributes_len.Given as goal

abbrev pub invariant-loop-attribute : goal.invariant-loop-attribute
invariant-loop-attribute l = (offset : ℕ → ℕ) → l.len ≡ capped (length (flat_map (attribute_bytes offset) (take l.attribute-index l.attributes)))
