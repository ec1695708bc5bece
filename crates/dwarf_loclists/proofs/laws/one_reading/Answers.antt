use Rattle.std.specs.Prelude.{◌≡◌, ℕ, List, Option, Some, slice_get}
use Rattle.std.proofs.Common.{sym, ap, ◌∙◌}
use Rattle.dwarf_loclists.specs.declared.range.Location.{Location}
use Rattle.dwarf_loclists.specs.Ranges.{location_in, whole_place, nth_piece}
use Rattle.dwarf_loclists.specs.Grammar.{LocationAt}
use Rattle.dwarf_loclists.proofs.OneReading.{one_section}
use Rattle.dwarf_loclists.proofs.laws.one_reading.Goals as goal

one_location : (bytes : List ℕ) (k address : ℕ) (p q : Option Location) → LocationAt bytes k address p → LocationAt bytes k address q → p ≡ q
one_location bytes k address p q at_p at_q =
    let same : at_p.lists ≡ at_q.lists = one_section bytes at_p.lists at_q.lists at_p.section at_q.section in
    let list : Some at_p.ranges ≡ Some at_q.ranges = sym at_p.list ∙ ap (λ lists. slice_get lists k) same ∙ at_q.list in
    let ranges : at_p.ranges ≡ at_q.ranges = cc in
    at_p.found ∙ ap (λ rs. location_in rs address) ranges ∙ sym at_q.found

pub returns-clause-lists : goal.returns-clause-lists
returns-clause-lists c = one_section

pub returns-clause-location : goal.returns-clause-location
returns-clause-location c = one_location

pub returns-clause-place : goal.returns-clause-place
returns-clause-place c = λ bytes k address p q at_p at_q.
    at_p.whole ∙ ap whole_place (one_location bytes k address at_p.location at_q.location at_p.located at_q.located) ∙ sym at_q.whole

pub returns-clause-piece : goal.returns-clause-piece
returns-clause-piece c = λ bytes k address n p q at_p at_q.
    at_p.nth ∙ ap (λ l. nth_piece l n) (one_location bytes k address at_p.location at_q.location at_p.located at_q.located) ∙ sym at_q.nth
