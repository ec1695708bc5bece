use Rattle.std.specs.Prelude.{All, codes}
use Rattle.std.proofs.Common.{◌≡◌, ◌+◌, ◌∷◌, ◌++◌, [], length, arith, ap, sym, subst, ◌∙◌}
use Rattle.std.proofs.lemmas.List.{take_all}
use Rattle.std.proofs.lemmas.List.Elements.{All-more}
use Rattle.elf_object.specs.Spelling.{aligned, section_header}
use Rattle.elf_object.specs.Grammar.{FitsHeader}
use Rattle.elf_object.proofs.ContentLemmas.{end_more, length-names_more}
use Rattle.elf_object.proofs.HeaderLemmas.{headers_more}
use Rattle.elf_object.proofs.write.push_headers.Goals as goal

pub loop-section-preserved : goal.loop-section-preserved
loop-section-preserved c =
    let next_is : c.aligned-start.result + c.len-bytes_len.result ≡ aligned c.loop-section.at + length c.section-item.result.bytes =
    omega (arith, c.aligned-start.ensures, c.len-bytes_len.ensures) in
    record {
      written =
          headers_more c.loop-section.out.items c.push_section_header.new.out.items _ c.loop-section.name_at c.loop-section.at
          (c.loop-section.name_at + (c.len-name_len.result + 1)) (c.aligned-start.result + c.len-bytes_len.result) c.args.sections.now
          (c.args.last.now ∷ []) c.loop-section.section-index c.section-item.result c.loop-section-test.true c.section-item.is
          (omega (arith, c.len-name_len.ensures)) next_is
          (c.in_ok-push_section_header.ensures.bytes
          ∙ ap (λ n. c.loop-section.out.items ++ section_header c.loop-section.name_at n c.section-item.result) c.aligned-start.ensures)
          c.loop-section.invariant.written;
      placed =
          sym (end_more c.loop-section.at (c.aligned-start.result + c.len-bytes_len.result) c.args.sections.now (c.args.last.now ∷ [])
          c.loop-section.section-index c.section-item.result c.loop-section-test.true c.section-item.is next_is)
          ∙ c.loop-section.invariant.placed;
      named =
          omega (
            arith,
            length-names_more c.args.sections.now (codes ".shstrtab" ∷ []) c.loop-section.section-index c.section-item.result
                c.loop-section-test.true c.section-item.is,
          );
      fits =
          All-more FitsHeader c.args.sections.now c.loop-section.section-index c.section-item.result c.loop-section-test.true
          c.loop-section.invariant.fits (subst FitsHeader c.section-item.is c.in_ok-push_section_header.ensures.fits);
    }

pub returns-clause-fits : goal.returns-clause-fits
returns-clause-fits c =
    subst (All FitsHeader) (take_all c.loop-section.section-index c.args.sections.now c.loop-section-test.false) c.loop-section.invariant.fits
