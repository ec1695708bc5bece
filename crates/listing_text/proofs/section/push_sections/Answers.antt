use Rattle.std.proofs.Common.{◌++◌, codes, refl}
use Rattle.mir_printer.proofs.Appends.{joined, ended}
use Rattle.listing_text.specs.Output.{section_text, section_if, sections_text}
use Rattle.listing_text.proofs.section.push_sections.Goals as goal

pub returns : goal.returns
returns c =
    let o = c.args.output.now in
    let old = c.args.text.now in
    let text = section_text (codes ".text") o.text in
    let abbreviations = section_text (codes ".debug_abbrev") o.abbreviations in
    let info = section_text (codes ".debug_info") o.info in
    let rows = section_text (codes ".debug_line") o.rows in
    let lists = section_text (codes ".debug_loclists") o.loclists in
    let frame = section_if (codes ".debug_frame") o.frame in
    let ranges = section_if (codes ".debug_rnglists") o.ranges in
    let two = joined old c.push_section.new.text c.push_section-2.new.text text abbreviations c.in_ok-push_section.ensures c.in_ok-push_section-2.ensures in
    let three = joined old c.push_section-2.new.text c.push_section-3.new.text (text ++ abbreviations) info two c.in_ok-push_section-3.ensures in
    let four = joined old c.push_section-3.new.text c.push_section-4.new.text (text ++ abbreviations ++ info) rows three c.in_ok-push_section-4.ensures in
    let five = joined old c.push_section-4.new.text c.push_section-5.new.text (text ++ abbreviations ++ info ++ rows) lists four
    c.in_ok-push_section-5.ensures in
    let six = joined old c.push_section-5.new.text c.push_section_if.new.text (text ++ abbreviations ++ info ++ rows ++ lists) frame five
    c.in_ok-push_section_if.ensures in
    ended c.push_section_if-2.result old c.push_section_if.new.text c.push_section_if-2.new.text (text ++ abbreviations ++ info ++ rows ++ lists ++ frame)
    ranges (sections_text o) six c.push_section_if-2.ensures refl
