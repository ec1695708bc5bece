use Rattle.std.proofs.Common.{◌<◌, ◌^◌, List, length, sym, ◌∙◌, subst}
use Rattle.entry_placement.specs.dwarf_entry.declared.abbreviation.Abbreviation.{Abbreviation}
use Rattle.entry_placement.specs.dwarf_entry.declared.tree.TreeItem.{TreeItem}
use Rattle.entry_placement.specs.dwarf_entry.Declarations.{abbreviations_of}
use Rattle.entry_placement.specs.dwarf_entry.Entries.{spelling, RefersWithin}
use Rattle.linkable_command.proofs.Written.{entries_made}
use Rattle.linkable_command.proofs.sections.push_entries.Goals as goal

pub entry_section-requires-clause-references : goal.entry_section-requires-clause-references
entry_section-requires-clause-references c =
    subst (λ (xs : List TreeItem). RefersWithin xs) (sym c.as_slice-entries.ensures) c.requires.references

pub entry_section-requires-clause-size : goal.entry_section-requires-clause-size
entry_section-requires-clause-size c =
    let are = c.as_slice-declared.ensures ∙ c.in_ok-abbreviations.ensures in
    subst (λ (ds : List Abbreviation). length (spelling ds c.as_slice-entries.result.now) < 2 ^ 31) (sym are)
    (subst (λ (xs : List TreeItem). length (spelling (abbreviations_of xs) xs) < 2 ^ 31) (sym c.as_slice-entries.ensures) c.requires.info)

pub returns : goal.returns
returns c =
    entries_made c.args.t.now c.as_slice-entries.result.now c.as_slice-declared.result.now _ c.push.new.self c.push-2.new.self _ _
    c.as_slice-entries.ensures (c.as_slice-declared.ensures ∙ c.in_ok-abbreviations.ensures) c.in_ok-push.ensures.ok c.in_ok-push-2.ensures.ok
    c.in_ok-declaration_section.ensures c.in_ok-entry_section.ensures
