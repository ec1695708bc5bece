use Rattle.std.proofs.Common.{◌≡◌, ℕ, ◌<◌, length, get_or}
use Rattle.dwarf_entry.specs.Entries.{offset_of}
use Rattle.dwarf_entry.proofs.offsets.item_offsets.Given as goal

abbrev pub invariant-loop-item : goal.invariant-loop-item
invariant-loop-item l = record {
  now : l.at ≡ offset_of l.abbreviations l.tree l.item-index;
  count : length l.offsets.items ≡ l.item-index;
  at : (k : ℕ) → k < l.item-index → get_or l.offsets.items k 0 ≡ offset_of l.abbreviations l.tree k;
}
