use Rattle.std.specs.Prelude.{All}
use Rattle.std.proofs.Common.{sym, subst, arith}
use Rattle.elf_object.specs.declared.object.Object.{Object}
use Rattle.elf_object.specs.Grammar.{IsNamed, IsAligned}
use Rattle.linkable_command.proofs.Written.{all_named, all_aligned, many_symbols, long_names, none_of, file_large}
use Rattle.linkable_command.proofs.object.file.Goals as goal

pub returns-then-symbols-ge-MAX_SYMBOLS-clause-too_large : goal.returns-then-symbols-ge-MAX_SYMBOLS-clause-too_large
returns-then-symbols-ge-MAX_SYMBOLS-clause-too_large c = λ _.
    many_symbols c.args.flags c.args.sections c.args.symbols.now (omega (arith, c.if-symbols-ge-MAX_SYMBOLS.true))

pub returns-then-is_none-clause-too_large : goal.returns-then-is_none-clause-too_large
returns-then-is_none-clause-too_large c = λ _.
    long_names c.args.flags c.args.sections c.args.symbols.now
    (c.symbol_names_size.ensures.none.0 (none_of c.symbol_names_size.result c.if-is_none.ensures))

pub linkable_object-requires-clause-sections : goal.linkable_object-requires-clause-sections
linkable_object-requires-clause-sections c = omega (arith, c.requires.few)

pub write_object-requires-clause-names : goal.write_object-requires-clause-names
write_object-requires-clause-names c =
    subst (λ (x : Object). All IsNamed x.sections) (sym c.in_ok-object.ensures) (all_named c.args.flags c.args.sections c.args.symbols.now c.requires.plain)

pub write_object-requires-clause-alignments : goal.write_object-requires-clause-alignments
write_object-requires-clause-alignments c =
    subst (λ (x : Object). All IsAligned x.sections) (sym c.in_ok-object.ensures) (all_aligned c.args.flags c.args.sections c.args.symbols.now c.requires.plain)

pub returns-then-is_none-2-clause-too_large : goal.returns-then-is_none-2-clause-too_large
returns-then-is_none-2-clause-too_large c = λ _.
    file_large c.args.flags c.args.sections c.args.symbols.now c.in_ok-object.object c.in_ok-object.ensures c.requires.few
    (c.object_size.ensures.none.0 (none_of c.object_size.result c.if-is_none-2.ensures))
