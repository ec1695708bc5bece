use Rattle.std.specs.Bool.{Decides}
use Rattle.std.proofs.Common.{List, ◌≡◌, rules, ap, sym, ◌∙◌}
use Rattle.std.proofs.lemmas.Slice.Eq.{slice_eq-Decides}
use Rattle.dwarf_loclists.specs.declared.range.Part.{Part}
use Rattle.dwarf_loclists.specs.declared.range.Location.TheVariants.{Parts}
use Rattle.dwarf_loclists.specs.contracts.range.PartPartialEq.TheImpl.{eq-value}
use Rattle.dwarf_loclists.proofs.range.Location.equals.Goals as goal

decides : (a b : Part) → Decides (eq-value.it a b) (a ≡ b)
decides a b = search rules

inside : (a b : List Part) → Parts a ≡ Parts b → a ≡ b
inside a b e = cc

pub returns-in-Parts-Parts : goal.returns-in-Parts-Parts
returns-in-Parts-Parts c =
    let d = slice_eq-Decides decides c.as_slice.result.now c.as_slice-in-Parts-Parts.result.now _ c.eq-in-Parts-Parts.ensures in (
      (λ yes. c.in-Parts-Parts.is-0 ∙ ap Parts (sym c.as_slice.ensures ∙ d.0 yes ∙ c.as_slice-in-Parts-Parts.ensures) ∙ sym c.in-Parts-Parts.is-1),
      λ same. d.1 (c.as_slice.ensures ∙ inside _ _ (sym c.in-Parts-Parts.is-0 ∙ same ∙ c.in-Parts-Parts.is-1) ∙ sym c.as_slice-in-Parts-Parts.ensures),
    )
