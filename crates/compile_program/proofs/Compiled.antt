-- Functions that are compiled one after the other: their code, their location lists, the passes that made them, and their sections.
use Rattle.std.proofs.Common.{◌≡◌, ℕ, suc, ◌+◌, ◌*◌, ◌<◌, List, [], ◌∷◌, ◌++◌, map, length, refl, sym, ap, ◌∙◌, subst, arith}
use Rattle.std.specs.Prelude.{All, IfSome}
use Rattle.std.specs.List.{flat_map}
use Rattle.std.specs.Int.{w32, to_le_bytes}
use Rattle.std.proofs.lemmas.List.Elements.{All-nil, All-cons, All-append, All-head, All-tail}
use Rattle.emit_code.specs.Laid.{LaidCode, IsCodeOf}
use Rattle.emit_code.specs.Rule.{words_of}
use Rattle.listing_text.specs.declared.output.ListedFunction.{ListedFunction}
use Rattle.listing_text.specs.declared.output.Output.{Output}
use Rattle.dwarf_base.specs.Limits.{SECTION_LIMIT}
use Rattle.dwarf_loclists.specs.declared.range.Range.{Range}
use Rattle.dwarf_loclists.specs.Grammar.{IsSection}
use Rattle.dwarf_loclists.specs.Ranges.{Ascend, ArePlaces}
use Rattle.compile_function.specs.declared.compiled_function.CompiledFunction.{CompiledFunction}
use Rattle.compile_function.specs.declared.emit.EmittedFunctions.{EmittedFunctions}
use Rattle.compile_function.specs.Emitted.{names_of, text_of, lists_of, AreWritable}
use Rattle.compile_function.specs.Passed.{IsMadeBy, steps_of}
use Rattle.compile_function.proofs.AfterPasses.{made_by}
use Rattle.read_metadata.specs.Maps.{Maps}
use Rattle.compile_function.specs.read_program.declared.closing.Parsed.{Parsed}
use Rattle.compile_function.specs.read_program.declared.program.Program.{Program}
use Rattle.mir_func.specs.Function.{Function, FramedFunction}
use Rattle.compile_function.proofs.compile_theorem.LaidOut.{lines_length}
use Rattle.compile_function.specs.compile_theorem.Compiled.{AreCompiled, bytes_of}
use Rattle.compile_function.specs.compile_theorem.Source.{PassedFunction}
use Rattle.pass_list.specs.declared.kind.PassKind.{PassKind}
use Rattle.compile_program.specs.Program.{ArePassed, AreCoded, HaveCode, IsCompiledAs, AreCompiledAs, IsOutputOf, IsLarge, HasLargeSection}
use Rattle.compile_program.specs.Program.{HasLargeFrameSection, HasLargeInlinedSection, Describe}
use Rattle.compile_program.specs.steps.CompilationState.{AreMade}
use Rattle.compile_program.proofs.Passed.{have_code}
use Rattle.compile_function.specs.dwarf_line_table.declared.source_and_code.SourceAndCode.{SourceAndCode}
use Rattle.compile_function.specs.dwarf_sections.Frame.{IsOfFunction, IsFrameSection, IsLargeFrameSection}
use Rattle.compile_function.specs.dwarf_sections.Inlined.{IsLargeInlined}
use Rattle.compile_function.specs.dwarf_unit.Variables.{variables_of_function}

module _ (names : ℕ → List ℕ) (reserve : List ℕ) (passes : List PassKind) where
  -- ---- one function

  module _ (p : PassedFunction) (base first : ℕ) (f : ListedFunction) (c : CompiledFunction) (is : IsCompiledAs names reserve passes p base first f c) where
    -- its code ends where the listing says
    pub ends : base + 4 * length c.code.words ≡ f.high
    ends =
        let words : length c.code.words ≡ length (words_of is.compiled.layout) = ap length is.words in
        let from = is.compiled.laid.from in
        let high : f.high ≡ is.compiled.layout.base + 4 * length (words_of is.compiled.layout) =
        ap (λ (g : ListedFunction). g.high) is.compiled.listed in
        omega (arith, words, from, high)

    -- it has as many lists as variables are listed
    pub many : length c.lists ≡ length f.variables
    many =
        ap length is.lists ∙ is.compiled.located.for_all ∙ sym (lines_length names first (variables_of_function p.source.function.blocks))
        ∙ ap (λ (g : ListedFunction). length g.variables) (sym is.compiled.listed)

  -- ---- all functions

  pub all_compiled : (base first : ℕ) (ps : List PassedFunction) (fs : List ListedFunction) (cs : List CompiledFunction) →
      AreCompiledAs names reserve passes base first ps fs cs → AreCompiled names base first (text_of cs) (lists_of cs) ps fs
  all_compiled base first [] [] [] are = (refl, refl)
  all_compiled base first [] [] (c ∷ cs) are = absurd are
  all_compiled base first [] (f ∷ fs) cs are = absurd are
  all_compiled base first (p ∷ ps) [] cs are = absurd are
  all_compiled base first (p ∷ ps) (f ∷ fs) [] are = absurd are
  all_compiled base first (p ∷ ps) (f ∷ fs) (c ∷ cs) (is, onward) =
      let text : text_of (c ∷ cs) ≡ bytes_of is.compiled.layout ++ text_of cs =
      ap (λ (ws : List ℕ). flat_map (to_le_bytes w32) ws ++ text_of cs) is.words in
      let lists : lists_of (c ∷ cs) ≡ is.compiled.lists ++ lists_of cs = ap (λ (ls : List (List Range)). ls ++ lists_of cs) is.lists in (
        is.compiled,
        text_of cs,
        lists_of cs,
        text,
        lists,
        subst (λ (ls : List (List Range)). AreCompiled names f.high (first + length ls) (text_of cs) (lists_of cs) ps fs) is.lists
            (all_compiled f.high (first + length c.lists) ps fs cs onward),
      )

  pub all_coded : (base first : ℕ) (ps : List PassedFunction) (fs : List ListedFunction) (cs : List CompiledFunction) →
      AreCompiledAs names reserve passes base first ps fs cs → AreCoded base (map (λ p. p.function) ps) (map (λ c. c.code) cs)
  all_coded base first [] [] [] are = tt
  all_coded base first [] [] (c ∷ cs) are = absurd are
  all_coded base first [] (f ∷ fs) cs are = absurd are
  all_coded base first (p ∷ ps) [] cs are = absurd are
  all_coded base first (p ∷ ps) (f ∷ fs) [] are = absurd are
  all_coded base first (p ∷ ps) (f ∷ fs) (c ∷ cs) (is, onward) = (
    is.code,
    subst (λ (b : ℕ). AreCoded b (map (λ q. q.function) ps) (map (λ k. k.code) cs)) (sym (ends p base first f c is))
        (all_coded f.high (first + length c.lists) ps fs cs onward),
  )

  pub all_made : (base first : ℕ) (ps : List PassedFunction) (fs : List ListedFunction) (cs : List CompiledFunction) →
      AreCompiledAs names reserve passes base first ps fs cs → All (IsMadeBy (steps_of reserve passes)) ps
  all_made base first [] fs cs are = All-nil (IsMadeBy (steps_of reserve passes))
  all_made base first (p ∷ ps) [] cs are = absurd are
  all_made base first (p ∷ ps) (f ∷ fs) [] are = absurd are
  all_made base first (p ∷ ps) (f ∷ fs) (c ∷ cs) (is, onward) =
      All-cons (IsMadeBy (steps_of reserve passes)) p ps (made_by reserve passes p c.losses is.lost)
      (all_made f.high (first + length c.lists) ps fs cs onward)

  pub all_writable : (base first : ℕ) (ps : List PassedFunction) (fs : List ListedFunction) (cs : List CompiledFunction) →
      AreCompiledAs names reserve passes base first ps fs cs → AreWritable (lists_of cs)
  all_writable base first [] [] [] are = record { ascend = All-nil Ascend; places = All-nil ArePlaces }
  all_writable base first [] [] (c ∷ cs) are = absurd are
  all_writable base first [] (f ∷ fs) cs are = absurd are
  all_writable base first (p ∷ ps) [] cs are = absurd are
  all_writable base first (p ∷ ps) (f ∷ fs) [] are = absurd are
  all_writable base first (p ∷ ps) (f ∷ fs) (c ∷ cs) (is, onward) =
      let rest = all_writable f.high (first + length c.lists) ps fs cs onward in
      record {
        ascend = All-append Ascend c.lists (lists_of cs) is.writable.ascend rest.ascend;
        places = All-append ArePlaces c.lists (lists_of cs) is.writable.places rest.places;
      }

  pub as_many_compiled : (base first : ℕ) (ps : List PassedFunction) (fs : List ListedFunction) (cs : List CompiledFunction) →
      AreCompiledAs names reserve passes base first ps fs cs → (length ps ≡ length cs) × (length cs ≡ length fs)
  as_many_compiled base first [] [] [] are = (refl, refl)
  as_many_compiled base first [] [] (c ∷ cs) are = absurd are
  as_many_compiled base first [] (f ∷ fs) cs are = absurd are
  as_many_compiled base first (p ∷ ps) [] cs are = absurd are
  as_many_compiled base first (p ∷ ps) (f ∷ fs) [] are = absurd are
  as_many_compiled base first (p ∷ ps) (f ∷ fs) (c ∷ cs) (is, onward) =
      let rest = as_many_compiled f.high (first + length c.lists) ps fs cs onward in
      (ap (λ (n : ℕ). suc n) rest.0, ap (λ (n : ℕ). suc n) rest.1)

-- ---- the code of each function

pub all_of_functions : (base : ℕ) (fs : List Function) (codes : List LaidCode) → AreCoded base fs codes → All IsOfFunction codes
all_of_functions base [] [] coded = All-nil IsOfFunction
all_of_functions base [] (c ∷ codes) coded = absurd coded
all_of_functions base (f ∷ fs) [] coded = absurd coded
all_of_functions base (f ∷ fs) (c ∷ codes) (is, coded) =
    All-cons IsOfFunction c codes (base, subst (λ (g : FramedFunction). IsCodeOf g base c) (sym is.framed) is)
    (all_of_functions (base + 4 * length c.words) fs codes coded)

abbrev pub code_in : SourceAndCode → LaidCode
code_in c = c.code.now

pub of_each : (cs : List SourceAndCode) → All IsOfFunction (map code_in cs) → All (λ (c : SourceAndCode). IsOfFunction c.code.now) cs
of_each [] all = All-nil (λ (c : SourceAndCode). IsOfFunction c.code.now)
of_each (c ∷ cs) all =
    All-cons (λ (x : SourceAndCode). IsOfFunction x.code.now) c cs (All-head IsOfFunction (code_in c) (map code_in cs) all)
    (of_each cs (All-tail IsOfFunction (code_in c) (map code_in cs) all))

-- ---- what was emitted of a program

-- passes make as many functions as there are
pub passed_length : (meta : Maps) (fs : List Parsed) (ps : List PassedFunction) → ArePassed meta fs ps → length ps ≡ length fs
passed_length meta [] [] are = refl
passed_length meta [] (p ∷ ps) are = absurd are
passed_length meta (f ∷ fs) [] are = absurd are
passed_length meta (f ∷ fs) (p ∷ ps) are = ap (λ (n : ℕ). suc n) (passed_length meta fs ps are.2)

module _ (meta : Maps) (reserve : List ℕ) (passes : List PassKind) (functions : List Parsed) (m : EmittedFunctions)
    (are : AreMade meta reserve passes functions m) where
  pub emitted_made : All (IsMadeBy (steps_of reserve passes)) are.passed
  emitted_made = all_made (names_of meta) reserve passes 0 0 are.passed m.listings m.functions are.compiled

  pub emitted_compiled : (lists : List (List Range)) → lists ≡ lists_of m.functions →
      AreCompiled (names_of meta) 0 0 m.text lists are.passed m.listings
  emitted_compiled lists same =
      subst (λ (t : List ℕ). AreCompiled (names_of meta) 0 0 t lists are.passed m.listings) (sym are.text)
      (subst (λ (ls : List (List Range)). AreCompiled (names_of meta) 0 0 (text_of m.functions) ls are.passed m.listings) (sym same)
      (all_compiled (names_of meta) reserve passes 0 0 are.passed m.listings m.functions are.compiled))

  pub emitted_code : (cs : List SourceAndCode) → map (λ c. c.source.now) cs ≡ map (λ f. f.func) functions →
      map (λ c. c.code.now) cs ≡ map (λ c. c.code) m.functions → HaveCode are.passed cs
  emitted_code cs sources_are codes_are =
      have_code meta functions are.passed cs (map (λ (c : CompiledFunction). c.code) m.functions) are.are sources_are codes_are
      (all_coded (names_of meta) reserve passes 0 0 are.passed m.listings m.functions are.compiled)

  pub emitted_of_functions : (cs : List SourceAndCode) → map (λ c. c.code.now) cs ≡ map (λ c. c.code) m.functions →
      All (λ (c : SourceAndCode). IsOfFunction c.code.now) cs
  emitted_of_functions cs codes_are =
      of_each cs (subst (All IsOfFunction) (sym codes_are)
      (all_of_functions 0 (map (λ p. p.function) are.passed) (map (λ c. c.code) m.functions)
      (all_coded (names_of meta) reserve passes 0 0 are.passed m.listings m.functions are.compiled)))

  emitted_writable : AreWritable (lists_of m.functions)
  emitted_writable = all_writable (names_of meta) reserve passes 0 0 are.passed m.listings m.functions are.compiled

  pub emitted_ascend : (lists : List (List Range)) → lists ≡ lists_of m.functions → All Ascend lists
  emitted_ascend lists same = subst (All Ascend) (sym same) emitted_writable.ascend

  pub emitted_places : (lists : List (List Range)) → lists ≡ lists_of m.functions → All ArePlaces lists
  emitted_places lists same = subst (All ArePlaces) (sym same) emitted_writable.places

  pub emitted_section : (lists : List (List Range)) (bytes : List ℕ) → lists ≡ lists_of m.functions → IsSection bytes lists →
      IsSection bytes (lists_of m.functions)
  emitted_section lists bytes same = subst (IsSection bytes) same

  pub emitted_length : length functions ≡ length m.functions
  emitted_length =
      sym (passed_length meta functions are.passed are.are)
      ∙ (as_many_compiled (names_of meta) reserve passes 0 0 are.passed m.listings m.functions are.compiled).0

-- ---- its sections

module _ (p : Program) (reserve : List ℕ) (passes : List PassKind) (m : EmittedFunctions) (are : AreMade p.meta reserve passes p.functions m)
    (lists : List (List Range)) (same : lists ≡ lists_of m.functions) (cs : List SourceAndCode)
    (sources_are : map (λ c. c.source.now) cs ≡ map (λ f. f.func) p.functions) (codes_are : map (λ c. c.code.now) cs ≡ map (λ c. c.code) m.functions) where
  pub large_section : IsLarge p.meta (length m.text) lists cs → HasLargeSection (steps_of reserve passes) p
  large_section large = record {
    functions = are.passed;
    passed = are.are;
    made = emitted_made p.meta reserve passes p.functions m are;
    text = m.text;
    lists = lists;
    listed = m.listings;
    compiled = cs;
    laid = emitted_compiled p.meta reserve passes p.functions m are lists same;
    coded = emitted_code p.meta reserve passes p.functions m are cs sources_are codes_are;
    large = large;
  }

  pub large_frame_section : IsLargeFrameSection [] (map (λ c. c.code.now) cs) → HasLargeFrameSection (steps_of reserve passes) p
  large_frame_section large = record {
    functions = are.passed;
    passed = are.are;
    made = emitted_made p.meta reserve passes p.functions m are;
    compiled = cs;
    coded = emitted_code p.meta reserve passes p.functions m are cs sources_are codes_are;
    large = large;
  }

  pub large_inlined_section : IsLargeInlined p.meta (length m.text) cs → HasLargeInlinedSection (steps_of reserve passes) p
  large_inlined_section large = record {
    functions = are.passed;
    passed = are.are;
    made = emitted_made p.meta reserve passes p.functions m are;
    text = m.text;
    lists = lists;
    listed = m.listings;
    compiled = cs;
    laid = emitted_compiled p.meta reserve passes p.functions m are lists same;
    coded = emitted_code p.meta reserve passes p.functions m are cs sources_are codes_are;
    large = large;
  }

  pub whole_output : (o : Output) → o.text ≡ m.text → o.functions ≡ m.listings → IsSection o.loclists lists →
      Describe p.meta (length o.text) cs o.abbreviations o.info o.rows o.ranges →
      IfSome o.frame (IsFrameSection [] (map (λ c. c.code.now) cs)) → length o.text < SECTION_LIMIT → length o.info < SECTION_LIMIT →
      length o.rows < SECTION_LIMIT → length o.loclists < SECTION_LIMIT → IfSome o.frame (λ bytes. length bytes < SECTION_LIMIT) →
      IfSome o.ranges (λ bytes. length bytes < SECTION_LIMIT) → IsOutputOf (steps_of reserve passes) p o
  whole_output o text_is listings_are section described frame_is text_small info_small rows_small loclists_small frame_small ranges_small = record {
    functions = are.passed;
    passed = are.are;
    made = emitted_made p.meta reserve passes p.functions m are;
    compiled = record {
      lists = lists;
      section = section;
      functions =
          subst (λ (t : List ℕ). AreCompiled (names_of p.meta) 0 0 t lists are.passed o.functions) (sym text_is)
          (subst (λ (fs : List ListedFunction). AreCompiled (names_of p.meta) 0 0 m.text lists are.passed fs) (sym listings_are)
          (emitted_compiled p.meta reserve passes p.functions m are lists same));
    };
    sections = record {
      compiled = cs;
      coded = emitted_code p.meta reserve passes p.functions m are cs sources_are codes_are;
      described = described;
      frame = frame_is;
      text_small = text_small;
      info_small = info_small;
      rows_small = rows_small;
      loclists_small = loclists_small;
      frame_small = frame_small;
      ranges_small = ranges_small;
    };
  }
