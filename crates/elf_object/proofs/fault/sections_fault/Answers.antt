use Rattle.std.proofs.Common.{◌≡◌, ◌+◌, ◌-◌, ◌*◌, arith, sym, ◌∙◌, refl}
use Rattle.elf_object.specs.FirstFault.{header_after}
use Rattle.elf_object.proofs.ReadLoops.{Judged, header_is, in_section, no_fault, ends_within, verdict, rights_more, name_end_is, bytes_end_is}
use Rattle.elf_object.proofs.fault.sections_fault.Goals as goal

pub returns-in-Some : goal.returns-in-Some
returns-in-Some c =
    let is : Judged c.args.bytes.now c.args.names.now c.args.table (c.args.table + 64 * (c.loop-index.index + 1)) c.loop-index.name_at
    c.loop-index.at c.loop-index.index = record {
      file = c.requires.file;
      null = c.requires.null;
      same_names = c.requires.names;
      same_table = c.requires.table;
      same_header = refl;
      same_name_at = c.loop-index.invariant.name_at;
      same_at = c.loop-index.invariant.at;
      sections = c.loop-index.invariant.sections;
    } in
    in_section c.args.bytes.now c.args.names.now c.args.table (c.args.table + 64 * (c.loop-index.index + 1)) c.loop-index.name_at c.loop-index.at
    c.loop-index.index c.in-Some.wrong is (omega (arith, c.loop-index-test.true, c.requires.count))
    (sym c.in-Some.is ∙ c.section_fault.ensures)

pub bytes_end-at-requires-clause-within : goal.bytes_end-at-requires-clause-within
bytes_end-at-requires-clause-within c =
    ends_within c.args.bytes.now c.args.names.now c.args.table (c.args.table + 64 * (c.loop-index.index + 1)) c.loop-index.name_at c.loop-index.at
    (sym c.in_default.is ∙ c.section_fault.ensures)

pub loop-index-preserved : goal.loop-index-preserved
loop-index-preserved c =
    let none = sym c.in_default.is ∙ c.section_fault.ensures in
    let here : c.args.table + 64 * (c.loop-index.index + 1) ≡ header_after c.args.bytes.now c.loop-index.index =
    header_is c.args.bytes.now c.args.table (c.args.table + 64 * (c.loop-index.index + 1)) c.loop-index.index c.requires.table refl in
    let is : Judged c.args.bytes.now c.args.names.now c.args.table (c.args.table + 64 * (c.loop-index.index + 1)) c.loop-index.name_at
    c.loop-index.at c.loop-index.index = record {
      file = c.requires.file;
      null = c.requires.null;
      same_names = c.requires.names;
      same_table = c.requires.table;
      same_header = refl;
      same_name_at = c.loop-index.invariant.name_at;
      same_at = c.loop-index.invariant.at;
      sections = c.loop-index.invariant.sections;
    } in
    record {
      name_at = c.name_end-name_at.ensures
          ∙ name_end_is c.args.bytes.now c.args.names.now (c.args.table + 64 * (c.loop-index.index + 1)) c.loop-index.index c.requires.names here;
      at = c.bytes_end-at.ensures ∙ bytes_end_is c.args.bytes.now (c.args.table + 64 * (c.loop-index.index + 1)) c.loop-index.index here;
      within = omega (
        arith,
        c.bytes_end-at.ensures,
        ends_within c.args.bytes.now c.args.names.now c.args.table
            (c.args.table + 64 * (c.loop-index.index + 1)) c.loop-index.name_at c.loop-index.at none,
      );
      sections = rights_more c.args.bytes.now c.loop-index.index c.loop-index.invariant.sections
          (no_fault c.args.bytes.now c.args.names.now c.args.table (c.args.table + 64 * (c.loop-index.index + 1)) c.loop-index.name_at c.loop-index.at
          c.loop-index.index is none);
    }

pub returns : goal.returns
returns c =
    let is : Judged c.args.bytes.now c.args.names.now c.args.table (c.args.table + 64 * (c.args.count - 1)) c.loop-index.name_at c.loop-index.at
    c.loop-index.index = record {
      file = c.requires.file;
      null = c.requires.null;
      same_names = c.requires.names;
      same_table = c.requires.table;
      same_header = omega (arith, c.loop-index-test.false, c.loop-index.auto.index-end, c.requires.few);
      same_name_at = c.loop-index.invariant.name_at;
      same_at = c.loop-index.invariant.at;
      sections = c.loop-index.invariant.sections;
    } in
    verdict c.args.bytes.now c.args.names.now c.args.table (c.args.table + 64 * (c.args.count - 1)) c.loop-index.name_at c.loop-index.at
    c.loop-index.index c.names_fault.result is
    (omega (arith, c.loop-index-test.false, c.loop-index.auto.index-end, c.requires.count)) c.names_fault.ensures
