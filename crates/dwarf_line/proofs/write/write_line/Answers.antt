use Rattle.std.specs.Prelude.{All}
use Rattle.std.proofs.Common.{◌≡◌, ◌++◌, length, arith, ap, subst, ◌∙◌}
use Rattle.dwarf_line.specs.Spelling.{program, spelling}
use Rattle.dwarf_line.specs.Table.{HasRange}
use Rattle.dwarf_line.proofs.SpellingLemmas.{length-spelling, written}
use Rattle.dwarf_line.proofs.write.write_line.Goals as goal

pub overflow_sub-size : goal.overflow_sub-size
overflow_sub-size c = omega (arith, length-spelling c.args.t.now, c.requires.size, c.section_len-size.ensures)

pub overflow_cast-tables_len : goal.overflow_cast-tables_len
overflow_cast-tables_len c = omega (arith, length-spelling c.args.t.now, c.requires.size, c.tables_len.ensures)

pub returns-clause-bytes : goal.returns-clause-bytes
returns-clause-bytes c =
    c.from.ensures
    ∙ written c.args.t.now _ _ _ _ _ _ (c.in_ok-push_program.ensures.bytes ∙ ap (λ ss. c.push_tables.new.out.items ++ program ss) c.as_slice.ensures)
    c.in_ok-push_tables.ensures.bytes c.in_ok-push_header.ensures c.in_ok-out.ensures.items
    (omega (arith, length-spelling c.args.t.now, c.requires.size, c.section_len-size.ensures))
    (omega (arith, length-spelling c.args.t.now, c.requires.size, c.tables_len.ensures))

pub returns-clause-section : goal.returns-clause-section
returns-clause-section c =
    let bytes : c.from.result ≡ spelling c.args.t.now = returns-clause-bytes c in
    record {
      spelled = bytes;
      size = omega (arith, ap length bytes, c.requires.size);
      names = c.requires.names;
      sequences = c.requires.sequences;
      fits = record {
        dirs = c.in_ok-push_tables.ensures.dirs;
        files = c.in_ok-push_tables.ensures.files;
        numbers = c.in_ok-push_tables.ensures.numbers;
        sequences = subst (All HasRange) c.as_slice.ensures c.in_ok-push_program.ensures.ranges;
      };
    }
