use Rattle.std.specs.Prelude.{All}
use Rattle.std.proofs.Common.{◌≡◌, ◌++◌, List, length, arith, ap, sym, ◌∙◌, subst}
use Rattle.elf_linkable.specs.declared.section.LinkableSection.{LinkableSection}
use Rattle.elf_linkable.specs.Linkable.{section_symbols}
use Rattle.elf_object.specs.declared.relocations.Relocation.{Relocation}
use Rattle.elf_object.specs.declared.symbols.Symbol.{Symbol}
use Rattle.elf_object.specs.Grammar.{IsName}
use Rattle.elf_object.specs.Symbols.{LocalsFirst}
use Rattle.linkable_command.specs.Symbols.{named_symbols}
use Rattle.linkable_command.specs.Linkable.{sections_by, sections_of, symbols_of}
use Rattle.linkable_command.specs.steps.Sections.{AreFew, IsPlain}
use Rattle.linkable_command.proofs.Written.{few, plain, locals, symbols_named, is_linkable, is_large}
use Rattle.linkable_command.proofs.object.linked.Goals as goal

pub section_symbols-requires : goal.section_symbols-requires
section_symbols-requires c =
    let made = c.as_slice.ensures ∙ c.in_ok-sections.ensures in
    omega (
      arith,
      ap (λ (ss : List LinkableSection). length ss) made,
      few c.args.relocations c.args.output.text c.args.lists c.args.t.now,
    )

pub file-requires-clause-few : goal.file-requires-clause-few
file-requires-clause-few c =
    subst AreFew (sym c.in_ok-sections.ensures) (few c.args.relocations c.args.output.text c.args.lists c.args.t.now)

pub file-requires-clause-plain : goal.file-requires-clause-plain
file-requires-clause-plain c =
    subst (All IsPlain) (sym c.in_ok-sections.ensures) (plain c.args.relocations c.args.output.text c.args.lists c.args.t.now)

pub file-requires-clause-locals : goal.file-requires-clause-locals
file-requires-clause-locals c =
    let sections = c.in_ok-sections.sections in
    let symbols : c.as_slice-2.result.now ≡ section_symbols 1 sections ++ named_symbols c.args.t.now.linkages c.args.output.functions =
    c.as_slice-2.ensures ∙ c.in_ok-append.ensures
    ∙ (λ i. (c.in_ok-symbols.ensures ∙ ap (section_symbols 1) c.as_slice.ensures) i ++ c.requires.symbols i) in
    subst LocalsFirst (sym symbols) (locals sections c.args.t.now.linkages c.args.output.functions)

pub file-requires-clause-names : goal.file-requires-clause-names
file-requires-clause-names c =
    let sections = c.in_ok-sections.sections in
    let symbols : c.as_slice-2.result.now ≡ section_symbols 1 sections ++ named_symbols c.args.t.now.linkages c.args.output.functions =
    c.as_slice-2.ensures ∙ c.in_ok-append.ensures
    ∙ (λ i. (c.in_ok-symbols.ensures ∙ ap (section_symbols 1) c.as_slice.ensures) i ++ c.requires.symbols i) in
    subst (All (λ (s : Symbol). IsName s.name)) (sym symbols) (symbols_named sections c.args.t.now.linkages c.args.output.functions c.requires.names)

pub returns-clause-object : goal.returns-clause-object
returns-clause-object c =
    let o = c.args.output in
    let sections = c.in_ok-sections.sections in
    let first : sections ≡ sections_of o c.args.lists c.args.t.now =
    c.in_ok-sections.ensures ∙ ap (λ (rs : List Relocation). sections_by rs o.text c.args.lists c.args.t.now) c.requires.relocations in
    let second : c.as_slice-2.result.now ≡ symbols_of o c.args.lists c.args.t.now =
    c.as_slice-2.ensures ∙ c.in_ok-append.ensures
    ∙ (λ i. (c.in_ok-symbols.ensures ∙ ap (section_symbols 1) (c.as_slice.ensures ∙ first)) i ++ c.requires.symbols i) in
    is_linkable c.args.flags o c.args.lists c.args.t.now sections c.as_slice-2.result.now c.file.result c.requires.names first second c.file.ensures.file

pub returns-clause-too_large : goal.returns-clause-too_large
returns-clause-too_large c = λ is.
    let o = c.args.output in
    let sections = c.in_ok-sections.sections in
    let first : sections ≡ sections_of o c.args.lists c.args.t.now =
    c.in_ok-sections.ensures ∙ ap (λ (rs : List Relocation). sections_by rs o.text c.args.lists c.args.t.now) c.requires.relocations in
    let second : c.as_slice-2.result.now ≡ symbols_of o c.args.lists c.args.t.now =
    c.as_slice-2.ensures ∙ c.in_ok-append.ensures
    ∙ (λ i. (c.in_ok-symbols.ensures ∙ ap (section_symbols 1) (c.as_slice.ensures ∙ first)) i ++ c.requires.symbols i) in
    is_large c.args.flags o c.args.lists c.args.t.now sections c.as_slice-2.result.now c.requires.names first second (c.file.ensures.too_large is)
