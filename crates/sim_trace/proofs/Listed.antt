-- Variables of lists that can be read.
use Rattle.std.proofs.Common.{◌≡◌, ℕ, ◌<◌, List, [], length, map, take}
use Rattle.std.specs.List.{All}
use Rattle.std.proofs.lemmas.List.Elements.{All-same, All-map, All-take}
use Rattle.listing_text.specs.declared.output.ListedVariable.{ListedVariable}
use Rattle.dwarf_loclists.specs.declared.range.Range.{Range}
use Rattle.dwarf_loclists.specs.Ranges.{Ascend, ArePlaces}
use Rattle.sim_trace.specs.declared.variable.Variable.{Variable}
use Rattle.sim_trace.specs.Variables.{variable_of}

-- those so far can be read, where all lists can
pub readable : (lists : List (List Range)) (listed : List ListedVariable) (made : List Variable) (n : ℕ) → made ≡ map (variable_of lists) (take n listed) →
    All (λ line. line.list < length lists) listed → All (λ ranges. Ascend ranges × ArePlaces ranges) lists →
    All (λ v. Ascend v.ranges × ArePlaces v.ranges) made
readable lists listed made n is low all =
    let P : Variable → Type 0 = λ v. Ascend v.ranges × ArePlaces v.ranges in
    All-same P made (map (variable_of lists) (take n listed)) is
    (All-map P (variable_of lists) (take n listed) (All-take (λ line. P (variable_of lists line)) n listed (λ k d l. all _ [] (low k d l))))
