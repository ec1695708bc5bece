-- The section, as its parts were written one after the other.
use Rattle.std.proofs.Common.{◌≡◌, ℕ, ◌+◌, List, [], ◌++◌, length, arith, ap, ◌∙◌}
use Rattle.dwarf_info.specs.Entries.{header}
use Rattle.dwarf_entry.specs.declared.tree.TreeItem.{TreeItem}
use Rattle.dwarf_entry.specs.declared.abbreviation.Abbreviation.{Abbreviation}
use Rattle.dwarf_entry.specs.Entries.{tree_bytes, offset_of, encoded, spelling, spelling_at, RefersWithin}
use Rattle.dwarf_entry.specs.steps.Offsets.{AreOffsets, in_table}
use Rattle.dwarf_entry.proofs.Lengths.{by_table, length-spelling}

pub section_written : (ds : List Abbreviation) (tree : List TreeItem) (o0 o1 o2 offsets table : List ℕ) (after : ℕ) → o0 ≡ [] → o1 ≡ o0 ++ header after
    → after + 4 ≡ length (spelling ds tree) → AreOffsets ds tree offsets → RefersWithin tree → table ≡ offsets
    → o2 ≡ o1 ++ tree_bytes ds (in_table table) tree → o2 ≡ spelling ds tree
unfolding spelling_at
section_written ds tree o0 o1 o2 offsets table after e0 e1 size are within same e2 =
    let is : after ≡ 8 + length (encoded ds tree) = omega (arith, size, length-spelling ds (offset_of ds tree) tree) in
    e2 ∙ ap (λ (xs : List ℕ). o1 ++ tree_bytes ds (in_table xs) tree) same ∙ ap (λ (ys : List ℕ). o1 ++ ys) (by_table ds tree offsets are within)
    ∙ ap (λ (ys : List ℕ). ys ++ encoded ds tree) (e1 ∙ ap (λ (ys : List ℕ). ys ++ header after) e0 ∙ ap header is)
