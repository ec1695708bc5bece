use Rattle.std.specs.Prelude.{All, ◌^◌, ◌<◌}
use Rattle.std.proofs.Common.{◌≡◌, ℕ, List, ◌∙◌, ap, sym, subst, arith, length}
use Rattle.dwarf_loclists.specs.declared.range.Range.{Range}
use Rattle.dwarf_loclists.specs.Ranges.{ArePlaces, Ascend}
use Rattle.sized_lists.specs.declared.list.SizedList.{SizedList}
use Rattle.sized_lists.specs.Sized.{sized}
use Rattle.sized_lists.specs.Spelling.{spelling}
use Rattle.sized_lists.proofs.Sized.{ranges_have, sizes_have, size_has}
use Rattle.linkable_program.proofs.program.list_section.Goals as goal

pub write_sized_lists-requires-clause-places : goal.write_sized_lists-requires-clause-places
write_sized_lists-requires-clause-places c =
    subst (All (λ (s : SizedList). ArePlaces s.ranges)) (sym (c.as_slice.ensures ∙ c.in_ok-sized.ensures))
    (ranges_have ArePlaces c.args.sizes.now 0 c.args.lists c.requires.places)

pub write_sized_lists-requires-clause-sizes : goal.write_sized_lists-requires-clause-sizes
write_sized_lists-requires-clause-sizes c =
    subst (All (λ (s : SizedList). s.size < 2 ^ 61)) (sym (c.as_slice.ensures ∙ c.in_ok-sized.ensures))
    (sizes_have (λ (n : ℕ). n < 2 ^ 61) c.args.sizes.now 0 c.args.lists
    (size_has (λ (n : ℕ). n < 2 ^ 61) c.args.sizes.now c.requires.small (omega arith)))

pub returns-in-Some-clause-section : goal.returns-in-Some-clause-section
returns-in-Some-clause-section c =
    let same : c.as_slice.result.now ≡ sized c.args.sizes.now 0 c.args.lists = c.as_slice.ensures ∙ c.in_ok-sized.ensures in
    record {
      spelled = (rw c.in-Some.is at c.in_ok-written.ensures.bytes) ∙ ap spelling same;
      size = rw c.in-Some.is at c.in_ok-written.ensures.small;
      ascend = ranges_have Ascend c.args.sizes.now 0 c.args.lists c.requires.ascend;
      places = ranges_have ArePlaces c.args.sizes.now 0 c.args.lists c.requires.places;
    }
