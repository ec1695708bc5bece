use Rattle.std.proofs.Common.{◌≡◌, ◌^◌, ◌<◌, ◌≤◌, List, length, ap, sym, ◌∙◌, subst, arith, rules}
use Rattle.std.specs.Prelude.{All}
use Rattle.dwarf_base.specs.Limits.{SECTION_LIMIT}
use Rattle.dwarf_info.specs.Inlined.{inlined_spelling}
use Rattle.dwarf_line.specs.Spelling.{spelling as rows_spelling}
use Rattle.dwarf_rnglists.specs.declared.range.AddressRange.{AddressRange}
use Rattle.dwarf_rnglists.specs.Ranges.{Ascend}
use Rattle.dwarf_rnglists.specs.Spelling.{spelling as ranges_spelling}
use Rattle.dwarf_unit.specs.Inlined.{call_scopes}
use Rattle.dwarf_sections.specs.Inlined.{HaveInstances}
use Rattle.dwarf_sections.proofs.Instances.{AllAscend, lists_ascend, few_scopes, as_many_functions, all_ordered, large_ranges, large_rows, numbers_are, large_info}
use Rattle.dwarf_sections.proofs.Instances.{written_sections}
use Rattle.dwarf_sections.proofs.inlined.inlined.Goals as goal

pub write_ranges-requires-clause-ascend : goal.write_ranges-requires-clause-ascend
write_ranges-requires-clause-ascend c =
    let ascend = subst (All AllAscend) (sym c.as_slice-instances.ensures) c.in_ok-instances.ensures.ascend in
    subst (λ (ls : List (List AddressRange)). All Ascend ls) (sym c.in_ok-lists.ensures) (lists_ascend c.as_slice-instances.result.now ascend)

pub line_table_with-requires-clause-further : goal.line_table_with-requires-clause-further
line_table_with-requires-clause-further c =
    let small : length (ranges_spelling c.in_ok-lists.lists) < 2 ^ 31 = search rules in
    let few = few_scopes c.args.meta.now c.as_slice-instances.result.now c.in_ok-lists.lists c.in_ok-lists.ensures small in
    let same : length c.as_slice.result.now ≡ length (call_scopes c.args.meta.now c.as_slice-instances.result.now) =
    ap length (c.as_slice.ensures ∙ c.in_ok-scopes.ensures) in
    omega (arith, few, same)

pub make_inlined_unit-requires-clause-instances : goal.make_inlined_unit-requires-clause-instances
make_inlined_unit-requires-clause-instances c =
    as_many_functions c.args.meta.now c.args.functions.now c.as_slice-instances.result.now
    (subst (HaveInstances c.args.meta.now c.args.functions.now) (sym c.as_slice-instances.ensures) c.in_ok-instances.ensures.have)

pub make_inlined_unit-requires-clause-ordered : goal.make_inlined_unit-requires-clause-ordered
make_inlined_unit-requires-clause-ordered c =
    all_ordered c.args.meta.now c.args.functions.now c.as_slice-instances.result.now
    (subst (HaveInstances c.args.meta.now c.args.functions.now) (sym c.as_slice-instances.ensures) c.in_ok-instances.ensures.have)

pub make_inlined_unit-requires-clause-numbers : goal.make_inlined_unit-requires-clause-numbers
make_inlined_unit-requires-clause-numbers c =
    let have : HaveInstances c.args.meta.now c.args.functions.now c.as_slice-instances.result.now =
    subst (HaveInstances c.args.meta.now c.args.functions.now) (sym c.as_slice-instances.ensures) c.in_ok-instances.ensures.have in
    numbers_are c.args.meta.now c.args.text_len c.args.functions.now c.as_slice-instances.result.now have c.as_slice.result.now c.in_ok-table.field-0.table
    (c.as_slice.ensures ∙ c.in_ok-scopes.ensures) c.in_ok-table.ensures.table c.as_slice-numbers.result.now
    (c.as_slice-numbers.ensures ∙ c.in_ok-table.ensures.numbers)

pub returns-then-is_none-clause-large : goal.returns-then-is_none-clause-large
returns-then-is_none-clause-large c = λ is.
    let have : HaveInstances c.args.meta.now c.args.functions.now c.as_slice-instances.result.now =
    subst (HaveInstances c.args.meta.now c.args.functions.now) (sym c.as_slice-instances.ensures) c.in_ok-instances.ensures.have in
    let large : SECTION_LIMIT ≤ length (ranges_spelling c.in_ok-lists.lists) = search rules in
    large_ranges c.args.meta.now c.args.text_len c.args.functions.now c.as_slice-instances.result.now have c.in_ok-lists.lists c.in_ok-lists.ensures large

pub returns-then-is_none-2-clause-large : goal.returns-then-is_none-2-clause-large
returns-then-is_none-2-clause-large c = λ is.
    let have : HaveInstances c.args.meta.now c.args.functions.now c.as_slice-instances.result.now =
    subst (HaveInstances c.args.meta.now c.args.functions.now) (sym c.as_slice-instances.ensures) c.in_ok-instances.ensures.have in
    let large : SECTION_LIMIT ≤ length (rows_spelling c.in_ok-table.field-0.table) = search rules in
    large_rows c.args.meta.now c.args.text_len c.args.functions.now c.as_slice-instances.result.now have c.as_slice.result.now c.in_ok-table.field-0.table
    (c.as_slice.ensures ∙ c.in_ok-scopes.ensures) c.in_ok-table.ensures.table large

pub returns-clause-large : goal.returns-clause-large
returns-clause-large c = λ is.
    let have : HaveInstances c.args.meta.now c.args.functions.now c.as_slice-instances.result.now =
    subst (HaveInstances c.args.meta.now c.args.functions.now) (sym c.as_slice-instances.ensures) c.in_ok-instances.ensures.have in
    let large : SECTION_LIMIT ≤ length (inlined_spelling c.in_ok-unit.unit) = search rules in
    large_info c.args.meta.now c.args.text_len c.args.functions.now c.as_slice-instances.result.now have c.as_slice.result.now c.in_ok-table.field-0.table
    (c.as_slice.ensures ∙ c.in_ok-scopes.ensures) c.in_ok-table.ensures.table c.in_ok-unit.unit c.in_ok-unit.ensures.unit large

pub returns-in-Some-clause-sections : goal.returns-in-Some-clause-sections
returns-in-Some-clause-sections c =
    let have : HaveInstances c.args.meta.now c.args.functions.now c.as_slice-instances.result.now =
    subst (HaveInstances c.args.meta.now c.args.functions.now) (sym c.as_slice-instances.ensures) c.in_ok-instances.ensures.have in
    let info : c.in-Some.info ≡ inlined_spelling c.in_ok-unit.unit = search rules in
    written_sections c.args.meta.now c.args.text_len c.args.functions.now c.as_slice-instances.result.now have c.as_slice.result.now c.in_ok-table.field-0.table
    (c.as_slice.ensures ∙ c.in_ok-scopes.ensures) c.in_ok-table.ensures.table c.in_ok-unit.unit c.in_ok-unit.ensures.unit c.in_ok-lists.lists
    c.in-Some.info c.in_ok-rows.rows c.in_ok-ranges.ranges c.in_ok-lists.ensures info c.in_ok-rows.ensures.bytes c.in_ok-ranges.ensures.section
