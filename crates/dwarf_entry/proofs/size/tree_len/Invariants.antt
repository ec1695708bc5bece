use Rattle.std.proofs.Common.{◌≡◌, ℕ, length, take}
use Rattle.dwarf_base.specs.Size.{capped}
use Rattle.dwarf_entry.specs.Entries.{tree_bytes}
use Rattle.dwarf_entry.proofs.size.tree_len.Given as goal

abbrev pub invariant-loop-item : goal.invariant-loop-item
invariant-loop-item l = (offset : ℕ → ℕ) → l.len ≡ capped (length (tree_bytes l.abbreviations offset (take l.item-index l.tree)))
