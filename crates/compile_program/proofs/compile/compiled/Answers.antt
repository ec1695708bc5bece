use Rattle.std.proofs.Common.{◌≡◌, ◌<◌, ◌∙◌, ℕ, [], true, ap, subst, map, length, arith, rules, refl, inl, inr}
use Rattle.dwarf_base.specs.Limits.{SECTION_LIMIT}
use Rattle.compile_function.specs.dwarf_sections.Frame.{IsLargeFrameSection}
use Rattle.listing_text.specs.declared.output.Output.{Output}
use Rattle.compile_function.specs.read_program.declared.closing.Parsed.{Parsed}
use Rattle.compile_function.specs.dwarf_line_table.declared.source_and_code.SourceAndCode.{SourceAndCode}
use Rattle.compile_function.specs.declared.compiled_function.CompiledFunction.{CompiledFunction}
use Rattle.compile_function.specs.Emitted.{lists_of}
use Rattle.compile_program.specs.Program.{IsLarge, Describe}
use Rattle.compile_program.specs.steps.Described.{IsLargeDescription}
use Rattle.compile_program.proofs.Described.{large_description}
use Rattle.compile_program.proofs.Compiled.{emitted_length, emitted_ascend, emitted_places, emitted_of_functions, large_section, large_frame_section}
use Rattle.compile_program.proofs.Compiled.{large_inlined_section, whole_output}
use Rattle.compile_program.proofs.Listed.{program_few}
use Rattle.compile_program.proofs.compile.compiled.Goals as goal

pub with_code-requires : goal.with_code-requires
with_code-requires c =
    let as_many = emitted_length _ _ _ _ _ c.requires.made in
    search (rules, as_many)

pub describe-requires-clause-variables : goal.describe-requires-clause-variables
describe-requires-clause-variables c =
    let same : map (λ (x : SourceAndCode). x.source.now) c.as_slice-compiled.result.now ≡ map (λ (p : Parsed). p.func) c.args.program.now.functions =
    search rules in
    let few = program_few c.args.program.now.meta c.as_slice-compiled.result.now c.args.program.now.functions same c.requires.read.functions in
    let functions = c.requires.read.few in
    omega (arith, few, functions)

pub loclists-requires-clause-ascend : goal.loclists-requires-clause-ascend
loclists-requires-clause-ascend c =
    emitted_ascend _ _ _ _ _ c.requires.made c.in_ok-lists.lists (c.in_ok-lists.ensures ∙ ap lists_of c.as_slice-3.ensures)

pub loclists-requires-clause-places : goal.loclists-requires-clause-places
loclists-requires-clause-places c =
    emitted_places _ _ _ _ _ c.requires.made c.in_ok-lists.lists (c.in_ok-lists.ensures ∙ ap lists_of c.as_slice-3.ensures)

pub returns-in_err-described-clause-section_too_large : goal.returns-in_err-described-clause-section_too_large
returns-in_err-described-clause-section_too_large c is =
    let sources : map (λ (x : SourceAndCode). x.source.now) c.as_slice-compiled.result.now ≡ map (λ (p : Parsed). p.func) c.args.program.now.functions =
    search rules in
    let codes : map (λ (x : SourceAndCode). x.code.now) c.as_slice-compiled.result.now ≡ map (λ (f : CompiledFunction). f.code) c.args.made.functions =
    search rules in
    let size : c.len.result ≡ length c.args.made.text = search rules in
    let found : IsLargeDescription c.args.with_inline c.args.program.now.meta c.len.result c.as_slice-compiled.result.now = search (rules, is) in
    let large =
    subst (λ (n : ℕ). IsLargeDescription c.args.with_inline c.args.program.now.meta n c.as_slice-compiled.result.now) size found in
    elim (large_description c.args.with_inline c.args.program.now.meta (length c.args.made.text) c.in_ok-lists.lists c.as_slice-compiled.result.now large) [
      | inl plain ↦
          inl (large_section c.args.program.now _ _ c.args.made c.requires.made c.in_ok-lists.lists
          (c.in_ok-lists.ensures ∙ ap lists_of c.as_slice-3.ensures) c.as_slice-compiled.result.now sources codes plain)
      | inr inline ↦
          inr (inr (
            inline.0,
            large_inlined_section c.args.program.now _ _ c.args.made c.requires.made c.in_ok-lists.lists
                (c.in_ok-lists.ensures ∙ ap lists_of c.as_slice-3.ensures) c.as_slice-compiled.result.now sources codes inline.1,
          ))
    ]

pub returns-in_err-loclists-clause-section_too_large : goal.returns-in_err-loclists-clause-section_too_large
returns-in_err-loclists-clause-section_too_large c is =
    let sources : map (λ (x : SourceAndCode). x.source.now) c.as_slice-compiled.result.now ≡ map (λ (p : Parsed). p.func) c.args.program.now.functions =
    search rules in
    let codes : map (λ (x : SourceAndCode). x.code.now) c.as_slice-compiled.result.now ≡ map (λ (f : CompiledFunction). f.code) c.args.made.functions =
    search rules in
    let large : IsLarge c.args.program.now.meta (length c.args.made.text) c.in_ok-lists.lists c.as_slice-compiled.result.now = search (rules, is) in
    inl (large_section c.args.program.now _ _ c.args.made c.requires.made c.in_ok-lists.lists (c.in_ok-lists.ensures ∙ ap lists_of c.as_slice-3.ensures)
    c.as_slice-compiled.result.now sources codes large)

pub frame_if-requires : goal.frame_if-requires
frame_if-requires c =
    let codes : map (λ (x : SourceAndCode). x.code.now) c.as_slice-compiled.result.now ≡ map (λ (f : CompiledFunction). f.code) c.args.made.functions =
    search rules in
    emitted_of_functions _ _ _ _ _ c.requires.made c.as_slice-compiled.result.now codes

pub returns-in_err-frame_if-clause-section_too_large : goal.returns-in_err-frame_if-clause-section_too_large
returns-in_err-frame_if-clause-section_too_large c is =
    let sources : map (λ (x : SourceAndCode). x.source.now) c.as_slice-compiled.result.now ≡ map (λ (p : Parsed). p.func) c.args.program.now.functions =
    let slice = c.as_slice-compiled.ensures in
    let made = c.in_ok-compiled.ensures in
    let all = c.as_slice.ensures in
    search (rules, slice, made, all) in
    let codes : map (λ (x : SourceAndCode). x.code.now) c.as_slice-compiled.result.now ≡ map (λ (f : CompiledFunction). f.code) c.args.made.functions =
    let slice = c.as_slice-compiled.ensures in
    let made = c.in_ok-compiled.ensures in
    let all = c.as_slice-2.ensures in
    search (rules, slice, made, all) in
    let large : (c.args.with_frame ≡ true) × IsLargeFrameSection [] (map (λ (x : SourceAndCode). x.code.now) c.as_slice-compiled.result.now) =
    let told = c.in_err-frame_if.ensures.large in
    let turned = c.from_residual-in_err-frame_if.ensures in
    search (rules, is, told, turned) in
    inr (inl (
      large.0,
      large_frame_section c.args.program.now _ _ c.args.made c.requires.made c.in_ok-lists.lists (c.in_ok-lists.ensures ∙ ap lists_of c.as_slice-3.ensures)
          c.as_slice-compiled.result.now sources codes large.1,
    ))

pub returns-clause-output : goal.returns-clause-output
returns-clause-output c =
    let sources : map (λ (x : SourceAndCode). x.source.now) c.as_slice-compiled.result.now ≡ map (λ (p : Parsed). p.func) c.args.program.now.functions =
    search rules in
    let codes : map (λ (x : SourceAndCode). x.code.now) c.as_slice-compiled.result.now ≡ map (λ (f : CompiledFunction). f.code) c.args.made.functions =
    search rules in
    let d = c.in_ok-described.described in
    let o : Output = record {
      text = c.args.made.text;
      abbreviations = d.abbreviations;
      info = d.info;
      rows = d.rows;
      loclists = c.in_ok-loclists.field-0;
      frame = c.in_ok-frame_if.field-0;
      ranges = d.ranges;
      functions = c.args.made.listings;
    } in
    let size : c.len.result ≡ length c.args.made.text = search rules in
    let described : Describe c.args.program.now.meta (length o.text) c.as_slice-compiled.result.now o.abbreviations o.info o.rows o.ranges =
    subst (λ (n : ℕ). Describe c.args.program.now.meta n c.as_slice-compiled.result.now d.abbreviations d.info d.rows d.ranges) size
    c.in_ok-described.ensures.described in
    let few_bytes = c.requires.made.few_bytes in
    let few = c.requires.read.few in
    let small : length o.text < SECTION_LIMIT = omega (arith, few_bytes, few) in
    whole_output c.args.program.now _ _ c.args.made c.requires.made c.in_ok-lists.lists (c.in_ok-lists.ensures ∙ ap lists_of c.as_slice-3.ensures)
    c.as_slice-compiled.result.now sources codes o refl refl c.in_ok-loclists.ensures.section described c.in_ok-frame_if.ensures.section small
    c.in_ok-described.ensures.info_small c.in_ok-described.ensures.rows_small c.in_ok-loclists.ensures.small c.in_ok-frame_if.ensures.small
    c.in_ok-described.ensures.ranges_small

pub returns-clause-frame_section : goal.returns-clause-frame_section
returns-clause-frame_section c = c.in_ok-frame_if.ensures.present

pub returns-clause-ranges_section : goal.returns-clause-ranges_section
returns-clause-ranges_section c = c.in_ok-described.ensures.present
