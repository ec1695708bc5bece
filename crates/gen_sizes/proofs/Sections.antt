-- No section of a generated function is above the limit, whatever passes run.
use Rattle.std.proofs.Common.{◌≡◌, ◌∙◌, ℕ, ◌+◌, ◌*◌, ◌^◌, ◌<◌, ◌≤◌, List, [], ◌∷◌, ◌++◌, map, length, Option, None, sym, ap, subst, arith, append-nil, lit≤, inl, inr}
use Rattle.std.specs.Option.{option_and_then}
use Rattle.std.specs.Cmp.{nat_cmp_total}
use Rattle.std.specs.Cmp.Lexicographic.{nat_list_cmp_total}
use Rattle.std.specs.FinMap.{get-from_entries}
use Rattle.mir_exposure.specs.declared.exposure.Exposure.TheVariants.{Nothing}
use Rattle.mir_func.specs.Function.{Function, FramedFunction}
use Rattle.mir_func.specs.declared.location.Loc.TheVariants.{Absent}
use Rattle.mir_func.specs.Sound.{AllItems}
use Rattle.emit_code.specs.Counts.{count_of}
use Rattle.emit_code.specs.Laid.{IsCodeOf}
use Rattle.emit_code.specs.Rule.{words_of}
use Rattle.emit_code.proofs.Stand.{words_few}
use Rattle.frame_rule.specs.Rule.{framed_of}
use Rattle.read_metadata.specs.Maps.{Maps}
use Rattle.read_metadata.specs.Metadata.{metadata_of, variable_at, subprogram_at, file_of_scope_at, as_variable}
use Rattle.read_metadata.specs.declared.node.Node.{Node}
use Rattle.compile_program.specs.read_program.declared.closing.Parsed.{Parsed}
use Rattle.dwarf_base.specs.Limits.{SECTION_LIMIT}
use Rattle.dwarf_info.specs.Entries.{spelling as entries_spelling}
use Rattle.dwarf_line.specs.Spelling.{spelling as rows_spelling}
use Rattle.dwarf_loclists.specs.declared.range.Range.{Range}
use Rattle.dwarf_loclists.specs.Spelling.{spelling as lists_spelling}
use Rattle.dwarf_line_table.specs.declared.source_and_code.SourceAndCode.{SourceAndCode}
use Rattle.dwarf_line_table.specs.Files.{no_file, file_or}
use Rattle.dwarf_line_table.specs.Program.{program_file, function_end, table_of}
use Rattle.compile_program.specs.dwarf_unit.Unit.{unit_of}
use Rattle.compile_program.specs.dwarf_unit.Variables.{variables_of_function}
use Rattle.listing_text.specs.declared.output.ListedFunction.{ListedFunction}
use Rattle.compile_program.specs.compile_theorem.Compiled.{IsCompiledFunction, AreCompiled}
use Rattle.compile_program.specs.compile_theorem.Source.{SourceFunction, PassedFunction}
use Rattle.compile_program.specs.Program.{ArePassed, HaveCode, IsLarge, HasLargeSection, IsCompilable, source_of, names_of, steps_of}
use Rattle.gen_function.specs.Generator.{generated}
use Rattle.gen_program.specs.Program.{generated_program}
use Rattle.gen_program.proofs.Steps.{of_made, generated_functions_mark_wholes}
use Rattle.gen_sizes.specs.Laws.{GeneratedSectionsAreSmall}
use Rattle.gen_sizes.proofs.Rows.{rows_small}
use Rattle.gen_sizes.proofs.Units.{unit_small}
use Rattle.gen_sizes.proofs.Variables.{few_variables}
use Rattle.gen_sizes.proofs.Wholes.{MarkWholes, passed_wholes, lists_small}

-- ---- without metadata

no_variable : (n : ℕ) → variable_at (metadata_of []) n ≡ None
unfolding metadata_of
no_variable n = ap (λ (o : Option Node). option_and_then as_variable o) (get-from_entries nat_cmp_total [] n)

no_subprogram : (name : List ℕ) → subprogram_at (metadata_of []) name ≡ None
unfolding metadata_of
no_subprogram name = get-from_entries nat_list_cmp_total [] name

no_unit : (c : SourceAndCode) → program_file (metadata_of []) (c ∷ []) ≡ no_file
no_unit c =
    ap (λ (o : Option ℕ). file_or (option_and_then (file_of_scope_at (metadata_of [])) o) no_file) (no_subprogram c.source.now.name)

-- ---- one function

ends_low : (base words count : ℕ) → base ≡ 0 → words ≡ count → count < 262144 → base + 4 * words < 2 ^ 64
ends_low base words count from same few = omega (arith, from, same, few)

not_large : (n : ℕ) → n < 2 ^ 31 → SECTION_LIMIT ≤ n → ⊥
not_large n small large = omega (arith, small, large)

module _ (number count : ℕ) (some : 1 ≤ count) (few : count ≤ 512) where
  abbrev source : Function
  source = generated number count

  abbrev parsed : Parsed
  parsed = record { func = source; subs = []; pool = []; exposure = Nothing }

  abbrev meta : Maps
  meta = metadata_of []

  abbrev HasFew : Function → Type 0
  HasFew f = length (variables_of_function f.blocks) ≤ 4

  module _ (p : PassedFunction) (f : ListedFunction) (c : SourceAndCode) (of : p.source ≡ source_of parsed) (is : IsCompilable meta p)
      (k : IsCompiledFunction (names_of meta) p 0 0 f) (code : IsCodeOf (framed_of p.function) 0 c.code.now)
      (sources : c.source.now ∷ [] ≡ p.source.function ∷ []) where
    source_is : c.source.now ≡ source
    source_is =
        let same : c.source.now ≡ p.source.function = cc in
        same ∙ ap (λ (s : SourceFunction). s.function) of

    wholes : MarkWholes p.source.function
    wholes = subst (λ (s : SourceFunction). MarkWholes s.function) (sym of) (generated_functions_mark_wholes number count some few)

    pub lists_fit : length (lists_spelling k.lists) < 2 ^ 31
    lists_fit =
        lists_small (names_of meta) p f k (passed_wholes meta p is wholes)
        (subst (λ (s : SourceFunction). HasFew s.function) (sym of) (few_variables number count few))

    ends : function_end c < 2 ^ 64
    ends =
        let framed = k.laid.framed ∙ sym code.of in
        let counted : count_of code.layout.framed.blocks < 262144 = subst (λ (g : FramedFunction). count_of g.blocks < 262144) framed k.laid.few in
        ends_low c.code.now.base (length c.code.now.words) (length (words_of code.layout)) code.base_kept (ap length code.words)
        (words_few code.layout code.worded counted)

    pub rows_fit : length (rows_spelling (table_of meta (c ∷ []))) < 2 ^ 31
    rows_fit =
        rows_small meta c
        (subst (λ (g : Function). AllItems (λ i. i.loc ≡ Absent) g.blocks) (sym source_is)
        (of_made (λ i. i.loc ≡ Absent) (λ i m. m.absent) number count few)) ends (no_unit c)

    pub unit_fits : (n : ℕ) → length (entries_spelling (unit_of meta n (c ∷ []))) < 2 ^ 31
    unit_fits n =
        unit_small meta no_variable n c (no_unit c) (subst (λ (g : Function). length g.name ≤ 3) (sym source_is) (lit≤ tt))
        (subst HasFew (sym source_is) (few_variables number count few))

  none_large : (ps : List PassedFunction) (fs : List ListedFunction) (cs : List SourceAndCode) (text : List ℕ) (lists : List (List Range)) →
      ArePassed meta (parsed ∷ []) ps → AreCompiled (names_of meta) 0 0 text lists ps fs → HaveCode ps cs → IsLarge meta (length text) lists cs → ⊥
  none_large [] fs cs text lists are laid coded large = are
  none_large (p ∷ r ∷ ps) fs cs text lists are laid coded large = are.2
  none_large (p ∷ []) [] cs text lists are laid coded large = laid
  none_large (p ∷ []) (f ∷ g ∷ fs) cs text lists are laid coded large = laid.5
  none_large (p ∷ []) (f ∷ []) [] text lists are laid coded large = coded.coded
  none_large (p ∷ []) (f ∷ []) (c ∷ d ∷ cs) text lists are laid coded large = coded.coded.1
  none_large (p ∷ []) (f ∷ []) (c ∷ []) text lists are laid coded large =
      let k : IsCompiledFunction (names_of meta) p 0 0 f = laid.0 in
      let code : IsCodeOf (framed_of p.function) 0 c.code.now = coded.coded.0 in
      let sources : c.source.now ∷ [] ≡ p.source.function ∷ [] = coded.sources in
      let rest : laid.2 ≡ [] = laid.5.1 in
      let same : lists ≡ k.lists = laid.4 ∙ (ap (λ (ls : List (List Range)). k.lists ++ ls) rest ∙ append-nil k.lists) in
      let small : length (lists_spelling lists) < 2 ^ 31 =
      subst (λ (ls : List (List Range)). length (lists_spelling ls) < 2 ^ 31) (sym same) (lists_fit p f c are.0 are.1 k code sources) in
      elim large [
        | inl long ↦ not_large (length (lists_spelling lists)) small long
        | inr other ↦
            elim other [
              | inl long ↦
                  not_large (length (entries_spelling (unit_of meta (length text) (c ∷ [])))) (unit_fits p f c are.0 are.1 k code sources (length text)) long
              | inr long ↦ not_large (length (rows_spelling (table_of meta (c ∷ [])))) (rows_fit p f c are.0 are.1 k code sources) long
            ]
      ]

pub generated_sections_are_small : GeneratedSectionsAreSmall
generated_sections_are_small number count reserve passes some few large =
    none_large number count some few large.functions large.listed large.compiled large.text large.lists large.passed large.laid large.coded large.large
