use Rattle.std.proofs.Common.{◌∙◌}
use Rattle.dwarf_info.proofs.AbbreviationLemmas.{all_inlined_written}
use Rattle.dwarf_info.proofs.abbreviation.write_inlined_abbrev.Goals as goal

pub returns : goal.returns
returns c =
    c.from.ensures
    ∙ all_inlined_written _ _ _ _ _ _ _ _ _ _ _ c.new-out.ensures.items c.in_ok-push_abbreviation.ensures c.in_ok-push_abbreviation-2.ensures
    c.in_ok-push_abbreviation-3.ensures c.in_ok-push_abbreviation-4.ensures c.in_ok-push_abbreviation-5.ensures c.in_ok-push_abbreviation-6.ensures
    c.in_ok-push_abbreviation-7.ensures c.in_ok-push_abbreviation-8.ensures c.in_ok-push_abbreviation-9.ensures c.in_ok-push.ensures.items
