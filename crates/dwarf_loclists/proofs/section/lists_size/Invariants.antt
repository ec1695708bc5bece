use Rattle.std.proofs.Common.{◌≡◌, ℕ, ◌<◌, ◌≤◌, List, ◌+◌, ◌*◌, ◌^◌, take, length}
use Rattle.std.specs.Prelude.{All}
use Rattle.dwarf_loclists.specs.declared.range.Range.{Range}
use Rattle.dwarf_loclists.specs.Spelling.{bodies}
use Rattle.dwarf_loclists.proofs.SpellingLemmas.{places_in}
use Rattle.dwarf_loclists.proofs.section.lists_size.Given as goal

abbrev pub invariant-loop-list : goal.invariant-loop-list
invariant-loop-list l = record {
  counted : l.size ≡ 12 + 4 * l.list-index + length (bodies (take l.list-index l.lists));
  small : l.size < 2 ^ 31;
  grown : (n : ℕ) → All (λ (ranges : List Range). places_in ranges ≤ n) l.lists → l.size ≤ 12 + l.list-index * (5 + 65 * n);
}
