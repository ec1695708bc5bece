use Rattle.std.specs.Prelude.{◌↔◌, IsNone}
use Rattle.std.proofs.Common.{◌≤◌, ◌^◌, List, length, subst, ◌∙◌}
use Rattle.entry_placement.specs.dwarf_entry.declared.abbreviation.Abbreviation.{Abbreviation}
use Rattle.entry_placement.specs.dwarf_entry.Entries.{spelling}
use Rattle.linkable_command.proofs.sections.entry_size.Goals as goal

pub returns : goal.returns
returns c =
    subst (λ (ds : List Abbreviation). IsNone c.entries_size.result ↔ (2 ^ 31 ≤ length (spelling ds c.args.entries.now)))
    (c.as_slice.ensures ∙ c.in_ok-abbreviations.ensures) c.entries_size.ensures.none
