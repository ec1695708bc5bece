-- The output of a program that was read is printable.
use Rattle.std.proofs.Common.{◌≡◌, ℕ, ◌+◌, ◌*◌, ◌<◌, ◌^◌, List, [], ◌∷◌, length, All, Option, Some, None, IfSome, refl, sym, subst, ap, ◌∙◌, arith}
use Rattle.std.proofs.lemmas.List.{length-append}
use Rattle.std.proofs.lemmas.List.Elements.{All-nil, All-cons, All-head, All-tail}
use Rattle.emit_code.specs.Rule.{words_of}
use Rattle.listing_text.specs.declared.output.ListedFunction.{ListedFunction}
use Rattle.listing_text.specs.Shown.{IsPrintableVariable, IsPrintableFunction}
use Rattle.dwarf_base.specs.Leb.{groups, uleb_of}
use Rattle.dwarf_base.specs.Limits.{SECTION_LIMIT}
use Rattle.dwarf_info.specs.Kinds.{abbreviation, abbreviations, inlined_abbreviations}
use Rattle.dwarf_loclists.specs.declared.range.Range.{Range}
use Rattle.frame_rule.proofs.Framed.{is_framed}
use Rattle.compile_program.specs.listing_function.Printable.{IsPrintableFramed}
use Rattle.compile_program.proofs.listing_function.Printed.{printable as listing_printable}
use Rattle.compile_program.specs.listing_proof.Laws.{inlined_in}
use Rattle.compile_program.proofs.listing_proof.Framed.{bodies_are_printable}
use Rattle.read_metadata.specs.Maps.{Maps}
use Rattle.read_body.specs.Limits.{MAX_ITEMS}
use Rattle.mir_func.specs.Sound.{items_of}
use Rattle.mir_func.specs.SoundFrame.{IsFramed}
use Rattle.read_program.specs.declared.closing.Parsed.{Parsed}
use Rattle.mir_printer.specs.Printable.{IsNumber}
use Rattle.compile_program.specs.compile_theorem.Compiled.{bytes_of, IsCompiledFunction, AreCompiled}
use Rattle.compile_program.specs.compile_theorem.OutputProperties.{variable_lines}
use Rattle.compile_program.proofs.compile_theorem.Functions.{words_length}
use Rattle.compile_program.specs.compile_theorem.Source.{SourceFunction, PassedFunction}
use Rattle.compile_program.specs.Program.{ArePassed, source_of, IsCompilable, names_of, Describe}
use Rattle.dwarf_line_table.specs.declared.source_and_code.SourceAndCode.{SourceAndCode}
use Rattle.compile_program.specs.read_proof.Read.{LocationsAreLimited, IsReadFunction}
use Rattle.compile_program.specs.dwarf_unit.Variables.{variables_of_function}
use Rattle.compile_output_proof.specs.Laws.{OutputsArePrintable}
use Rattle.compile_output_proof.proofs.Variables.{few_variables, variables_printable}

-- ---- functions

module _ (meta : Maps) (locations : LocationsAreLimited meta) (names : ℕ → List ℕ) where
  function_printable : (f : Parsed) (p : PassedFunction) (base first : ℕ) (g : ListedFunction) → p.source ≡ source_of f → IsReadFunction meta f.func →
      IsCompilable meta p → (c : IsCompiledFunction names p base first g) → base + length (bytes_of c.layout) < 2 ^ 32 →
      first + length (items_of f.func.blocks) < 2 ^ 32 → IsPrintableFunction (inlined_in meta) g
  function_printable f p base first g of read is c low few =
      let follower = is.passed.follower in
      let framed = is_framed p.function follower.sound c.laid.small is.passed.physical in
      let from = c.laid.from in
      let size = words_length (words_of c.layout) in
      subst (IsPrintableFunction (inlined_in meta)) (sym c.listed)
      (listing_printable (inlined_in meta) c.layout (variable_lines names first (variables_of_function p.source.function.blocks)) p.substitutions
      (subst IsFramed (sym c.laid.framed) framed)
      c.laid.worded
      (subst (IsPrintableFramed (inlined_in meta)) (sym c.laid.framed)
      (bodies_are_printable (inlined_in meta) p.function is.printable follower.sound follower.form framed))
      (omega (arith, low, from, size))
      (subst (λ (s : SourceFunction). All IsPrintableVariable (variable_lines names first (variables_of_function s.function.blocks))) (sym of)
      (variables_printable meta f.func locations read names first few))
      is.substitutions)

  abbrev WasRead : Parsed → Type 0
  WasRead f = IsReadFunction meta f.func

  -- from an address on, so that the text isn't too long, and from a list's number on, so that there are few lists
  functions_printable : (base first : ℕ) (text : List ℕ) (lists : List (List Range)) (fs : List Parsed) (ps : List PassedFunction)
      (gs : List ListedFunction) → All WasRead fs → ArePassed meta fs ps → base + length text < 2 ^ 31 → first + MAX_ITEMS * length fs < 2 ^ 32 →
      AreCompiled names base first text lists ps gs → All (IsPrintableFunction (inlined_in meta)) gs
  functions_printable base first text lists [] [] [] read passed low few are = All-nil (IsPrintableFunction (inlined_in meta))
  functions_printable base first text lists [] [] (g ∷ gs) read passed low few are = absurd are
  functions_printable base first text lists [] (p ∷ ps) gs read passed low few are = absurd passed
  functions_printable base first text lists (f ∷ fs) [] gs read passed low few are = absurd passed
  functions_printable base first text lists (f ∷ fs) (p ∷ ps) [] read passed low few are = absurd are
  functions_printable base first text lists (f ∷ fs) (p ∷ ps) (g ∷ gs) read passed low few (c, more, rest, text_is, lists_is, onward) =
      let here = All-head WasRead f fs read in
      let both : length text ≡ length (bytes_of c.layout) + length more = ap length text_is ∙ length-append (bytes_of c.layout) more in
      let items = here.few_items in
      let variables = few_variables f.func.blocks in
      let count : length c.lists ≡ length (variables_of_function f.func.blocks) =
      c.located.for_all ∙ ap (λ (s : SourceFunction). length (variables_of_function s.function.blocks)) passed.0 in
      let high : g.high ≡ c.layout.base + 4 * length (words_of c.layout) = ap (λ (x : ListedFunction). x.high) c.listed in
      let from = c.laid.from in
      let size = words_length (words_of c.layout) in
      All-cons (IsPrintableFunction (inlined_in meta)) g gs
      (function_printable f p base first g passed.0 here passed.1 c (omega (arith, low, both)) (omega (arith, few, items)))
      (functions_printable g.high (first + length c.lists) more rest fs ps gs (All-tail WasRead f fs read) passed.2
      (omega (arith, low, both, high, from, size)) (omega (arith, few, items, variables, count)) onward)

-- ---- programs

-- `.debug_abbrev` has 83 bytes
abbreviations_size : length abbreviations ≡ 83
unfolding abbreviations abbreviation uleb_of groups
abbreviations_size = refl

few_abbreviations : IsNumber (length abbreviations)
few_abbreviations = let size = abbreviations_size in omega (arith, size)

-- with inlined functions it has 109
inlined_size : length inlined_abbreviations ≡ 109
unfolding inlined_abbreviations abbreviation uleb_of groups
inlined_size = refl

few_inlined : IsNumber (length inlined_abbreviations)
few_inlined = let size = inlined_size in omega (arith, size)

few_described : (meta : Maps) (text_len : ℕ) (compiled : List SourceAndCode) (abbreviated info rows : List ℕ) (ranges : Option (List ℕ))
    → Describe meta text_len compiled abbreviated info rows ranges → IsNumber (length abbreviated)
few_described meta text_len compiled abbreviated info rows None is =
    subst (λ (bytes : List ℕ). IsNumber (length bytes)) (sym is.0) few_abbreviations
few_described meta text_len compiled abbreviated info rows (Some ranges) is =
    subst (λ (bytes : List ℕ). IsNumber (length bytes)) (sym is.0) few_inlined

number_if : (o : Option (List ℕ)) → IfSome o (λ bytes. length bytes < SECTION_LIMIT) → IfSome o (λ bytes. IsNumber (length bytes))
number_if None small = tt
number_if (Some bytes) small = omega (arith, small)

pub printable : OutputsArePrintable
printable p functions o read passed compiled has =
    let text = has.text_small in
    let info = has.info_small in
    let rows = has.rows_small in
    let loclists = has.loclists_small in
    let few = read.few in
    record {
      text = omega (arith, text);
      abbreviations = few_described p.meta (length o.text) has.compiled o.abbreviations o.info o.rows o.ranges has.described;
      info = omega (arith, info);
      rows = omega (arith, rows);
      loclists = omega (arith, loclists);
      frame = number_if o.frame has.frame_small;
      ranges = number_if o.ranges has.ranges_small;
      functions = functions_printable p.meta read.locations (names_of p.meta) 0 0 o.text compiled.lists p.functions functions o.functions
          read.functions passed (omega (arith, text)) (omega (arith, few)) compiled.functions;
    }
