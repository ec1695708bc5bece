use Rattle.std.proofs.Common.{◌∷◌, ◌++◌, [], length, arith, ap, refl, ◌∙◌}
use Rattle.elf_object.specs.Spelling.{section_names, contents}
use Rattle.elf_object.proofs.SpellingLemmas.{length-spelling, names_below, all_below, assembled}
use Rattle.elf_object.proofs.write.write_file.Goals as goal

pub overflow_sub-table : goal.overflow_sub-table
overflow_sub-table c = omega (arith, length-spelling c.args.o.now, c.requires.size, ap length c.as_slice-sections.ensures)

pub push_headers-requires-clause-names : goal.push_headers-requires-clause-names
push_headers-requires-clause-names c =
    omega (arith, names_below c.args.o.now, ap (λ ss. length (section_names ss).bytes) c.as_slice-sections.ensures, c.requires.size)

pub push_headers-requires-clause-size : goal.push_headers-requires-clause-size
push_headers-requires-clause-size c =
    omega (
      arith,
      all_below c.args.o.now,
      ap (λ ss. length (contents 64 (ss ++ c.args.names.now ∷ []))) c.as_slice-sections.ensures
          ∙ ap (λ n. length (contents 64 (c.args.o.now.sections ++ n ∷ []))) c.requires.names,
      c.requires.size,
    )

pub returns-clause-bytes : goal.returns-clause-bytes
returns-clause-bytes c =
    c.from.ensures
    ∙ assembled c.args.o.now c.args.names.now c.as_slice-sections.result.now _ _ _ _ _ _ _ _ _ c.as_slice-sections.ensures c.requires.names c.in_ok-out.ensures.items
    c.in_ok-push_file_header.ensures c.in_ok-push_contents.ensures c.in_ok-push_padding.ensures refl c.in_ok-extend_from_slice.ensures.items
    c.in_ok-push_headers.ensures.bytes
    (omega (arith, length-spelling c.args.o.now, c.requires.size, ap length c.as_slice-sections.ensures)) (omega (arith, ap length c.as_slice-sections.ensures))
