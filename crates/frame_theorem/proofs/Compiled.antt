-- The section of a compiled output unwinds: each function's code is that of its layout, so the section shows the frame's state at each of its entries.
use Rattle.std.proofs.Common.{◌≡◌, ℕ, zero, suc, ◌+◌, ◌*◌, List, [], ◌∷◌, ◌++◌, map, length, drop, Contains, Some, sym, ap, ◌∙◌, subst, arith}
use Rattle.std.specs.Prelude.{slice_get}
use Rattle.mir_func.specs.Function.{Function, FramedFunction}
use Rattle.mir_func.specs.Resolve.{resolve}
use Rattle.sem_mir.proofs.Places.{contains_head, contains_tail}
use Rattle.emit_code.specs.declared.code.EncodedInstruction.{EncodedInstruction}
use Rattle.emit_code.specs.Laid.{LaidCode, StandFrom, IsCodeOf}
use Rattle.emit_code.specs.Rule.{Layout, entries_of, words_of}
use Rattle.emit_code.proofs.Stand.{stands, words_fill}
use Rattle.invariance_code.proofs.Settled.{same_layout}
use Rattle.frame_rule.specs.Rule.{framed_of}
use Rattle.machine_proof.specs.LaidOut.{IsImageOfFunction}
use Rattle.machine_steps_proof.specs.Images.{IsImageOf}
use Rattle.dwarf_frame.specs.Rows.{RulesAt, unwinding}
use Rattle.frame_table.specs.Laws.{LieFrom, end_of}
use Rattle.frame_table.specs.Table.{entry_row}
use Rattle.frame_table.proofs.Shown.{sections_show_frames}
use Rattle.dwarf_loclists.specs.declared.range.Range.{Range}
use Rattle.dwarf_sections.specs.Frame.{IsFrameSection}
use Rattle.dwarf_sections.specs.dwarf_unit.Variables.{variables_of_function}
use Rattle.listing_text.specs.declared.output.ListedFunction.{ListedFunction}
use Rattle.listing_text.specs.declared.output.Output.{Output}
use Rattle.compile_theorem.specs.listing_meaning.Program.{image_of}
use Rattle.compile_theorem.proofs.listing_meaning.Images.{image_shown}
use Rattle.compile_theorem.specs.Compiled.{bytes_of, AreCoded, IsCompiledFunction, AreCompiled}
use Rattle.compile_theorem.specs.Laws.{AreCompiledTo}
use Rattle.compile_theorem.specs.OutputProperties.{variable_lines}
use Rattle.compile_theorem.specs.Source.{PassedFunction, IsPassedFunction}
use Rattle.compile_theorem.proofs.Functions.{IsCompiledIn, compiled_in, as_many, of_sources}
use Rattle.compile_theorem.proofs.Headline.{formed}
use Rattle.compile_theorem.proofs.Telling.{all_at}
use Rattle.frame_theorem.specs.Compiled.{CompiledUnwinds}
use Rattle.frame_theorem.specs.Laws.{SparesKept, ShowsFrames}
use Rattle.frame_theorem.specs.Unwinding.{AlwaysUnwinds}
use Rattle.frame_theorem.proofs.Unwinds.{followers_unwind}

-- ---- the code of functions

-- the entries of a function's code go from its first address to its end
code_stands : (f : FramedFunction) (base : ℕ) (c : LaidCode) → IsCodeOf f base c → StandFrom c.base c.entries (end_of c)
code_stands f base c is =
    let l = is.layout in
    let filled = words_fill l is.worded in
    let words : length c.words ≡ length (words_of l) = ap length is.words in
    let from : l.base ≡ c.base = is.from ∙ sym is.base_kept in
    let end : l.base + _ ≡ end_of c = omega (arith, filled, words, from) in
    subst (λ (a : ℕ). StandFrom a c.entries (end_of c)) from
    (subst (λ (es : List EncodedInstruction). StandFrom l.base es (end_of c)) (sym is.entries)
    (subst (λ (x : ℕ). StandFrom l.base (entries_of l) x) end (stands l)))

lie_from : (base : ℕ) (fs : List Function) (codes : List LaidCode) → AreCoded base fs codes → LieFrom base codes
lie_from base [] [] are = tt
lie_from base [] (c ∷ codes) are = absurd are
lie_from base (f ∷ fs) [] are = absurd are
lie_from base (f ∷ fs) (c ∷ codes) (is, are) = (
  is.base_kept,
  code_stands (framed_of f) base c is,
  subst (λ (b : ℕ). LieFrom (b + 4 * length c.words) codes) (sym is.base_kept) (lie_from (base + 4 * length c.words) fs codes are),
)

-- two codes of a function at one address are of one layout
one_code : (f : FramedFunction) (base : ℕ) (c : LaidCode) (is : IsCodeOf f base c) (l : Layout) → l.framed ≡ f → l.base ≡ base →
    Rattle.emit_code.specs.BranchRelaxation.IsSettled l → is.layout ≡ l
one_code f base c is l of from settled = same_layout is.layout l (is.of ∙ sym of) (is.from ∙ sym from) is.settled settled

-- the code of a function that is compiled
record IsCodedIn (codes : List LaidCode) (p : PassedFunction) (f : ListedFunction) : Type 0 where
  code : LaidCode
  among : Contains codes code
  is : IsCodeOf (framed_of p.function) f.low code

more_codes : (c : LaidCode) (codes : List LaidCode) (p : PassedFunction) (f : ListedFunction) → IsCodedIn codes p f → IsCodedIn (c ∷ codes) p f
more_codes c codes p f in_rest = record { code = in_rest.code; among = contains_tail c in_rest.code codes in_rest.among; is = in_rest.is }

module _ (names : ℕ → List ℕ) where
  low_is : (p : PassedFunction) (base first : ℕ) (f : ListedFunction) (c : IsCompiledFunction names p base first f) → f.low ≡ base
  low_is p base first f c = ap (λ (x : ListedFunction). x.low) c.listed ∙ c.laid.from

  -- it ends where the listing says
  ends : (p : PassedFunction) (base first : ℕ) (f : ListedFunction) (c : IsCompiledFunction names p base first f) (code : LaidCode) →
      IsCodeOf (framed_of p.function) base code → base + 4 * length code.words ≡ f.high
  ends p base first f c code is =
      let one = one_code (framed_of p.function) base code is c.layout c.laid.framed c.laid.from c.laid.settled in
      let words : length code.words ≡ length (words_of c.layout) = ap length is.words ∙ ap (λ (l : Layout). length (words_of l)) one in
      let from = c.laid.from in
      let high : f.high ≡ c.layout.base + 4 * length (words_of c.layout) = ap (λ (x : ListedFunction). x.high) c.listed in
      omega (arith, words, from, high)

  coded_in : (base first : ℕ) (text : List ℕ) (lists : List (List Range)) (ps : List PassedFunction) (fs : List ListedFunction) (codes : List LaidCode) →
      AreCompiled names base first text lists ps fs → AreCoded base (map (λ p. p.function) ps) codes → (n : ℕ) (p : PassedFunction) (f : ListedFunction) →
      slice_get ps n ≡ Some p → slice_get fs n ≡ Some f → IsCodedIn codes p f
  coded_in base first text lists [] fs codes are coded n p f p_is f_is = absurd cc
  coded_in base first text lists (q ∷ ps) [] codes are coded n p f p_is f_is = absurd cc
  coded_in base first text lists (q ∷ ps) (g ∷ fs) [] are coded n p f p_is f_is = absurd coded
  coded_in base first text lists (q ∷ ps) (g ∷ fs) (c ∷ codes) (compiled, more, rest, text_is, lists_is, onward) (is, coded) zero p f p_is f_is =
      let same_function : q ≡ p = cc in
      let same : g ≡ f = cc in
      subst (λ (x : PassedFunction). IsCodedIn (c ∷ codes) x f) same_function (subst (IsCodedIn (c ∷ codes) q) same (record {
        code = c;
        among = contains_head c codes;
        is = subst (λ (b : ℕ). IsCodeOf (framed_of q.function) b c) (sym (low_is q base first g compiled)) is;
      }))
  coded_in base first text lists (q ∷ ps) (g ∷ fs) (c ∷ codes) (compiled, more, rest, text_is, lists_is, onward) (is, coded) (suc n) p f p_is f_is =
      more_codes c codes p f (coded_in g.high (first + length compiled.lists) more rest ps fs codes onward
      (subst (λ (b : ℕ). AreCoded b (map (λ x. x.function) ps) codes) (ends q base first g compiled c is) coded) n p f p_is f_is)

-- ---- one function

module _ (names : ℕ → List ℕ) (functions : List PassedFunction) (o : Output) (are : AreCompiledTo names functions o) (codes : List LaidCode)
    (coded : AreCoded 0 (map (λ p. p.function) functions) codes) (undefined section : List ℕ) (spares : SparesKept undefined)
    (frames : IsFrameSection undefined codes section) where
  -- the section shows the frame's state at each entry of its layout
  shows : (p : PassedFunction) (f : ListedFunction) (c : IsCompiledIn names o.text are.compiled.lists p f) → IsCodedIn codes p f →
      ShowsFrames undefined section c.compiled.layout
  shows p f c made e among =
      let l = c.compiled.layout in
      let laid = c.compiled.laid in
      let low : f.low ≡ c.base = low_is names p c.base c.first f c.compiled in
      let one : made.is.layout ≡ l =
      one_code (framed_of p.function) f.low made.code made.is l laid.framed (laid.from ∙ sym low) laid.settled in
      let entries : entries_of l ≡ made.code.entries = sym (made.is.entries ∙ ap entries_of one) in
      let framed : made.code.framed ≡ l.framed = made.is.framed ∙ sym laid.framed in
      subst (λ (x : FramedFunction). RulesAt undefined section e.address (unwinding undefined (entry_row x e).rules)) framed
      (sections_show_frames undefined section codes frames.table 0 (lie_from 0 (map (λ q. q.function) functions) codes coded) frames.described
      frames.section made.code made.among e (subst (λ (es : List EncodedInstruction). Contains es e) entries among))

  image_is : (p : PassedFunction) (f : ListedFunction) → IsPassedFunction p → (c : IsCompiledIn names o.text are.compiled.lists p f) →
      IsImageOfFunction p.function (image_of o f)
  image_is p f is c = record {
    layout = c.compiled.layout;
    framed = c.compiled.laid.framed;
    low = c.compiled.laid.low;
    few = c.compiled.laid.few;
    worded = c.compiled.laid.worded;
    laid =
        let l = c.compiled.layout in
        let at : drop l.base o.text ≡ bytes_of l ++ c.more = ap (λ (n : ℕ). drop n o.text) c.compiled.laid.from ∙ c.words in
        subst (λ (x : ListedFunction). IsImageOf l (image_of o x)) (sym c.compiled.listed) (image_shown l (variable_lines names c.first
        (variables_of_function p.source.function.blocks)) p.substitutions o c.more
        (formed names o are.compiled.lists are.compiled.section p f is c) at);
  }

  unwinds : (n : ℕ) (p : PassedFunction) (f : ListedFunction) → slice_get functions n ≡ Some p → slice_get o.functions n ≡ Some f →
      AlwaysUnwinds undefined section p.source.function (resolve p.source.substitutions) (image_of o f)
  unfolding image_is
  unwinds n p f p_is f_is =
      let is : IsPassedFunction p = all_at IsPassedFunction functions n p p_is are.passed in
      let c = compiled_in names functions o are.compiled n p f p_is f_is in
      let made = coded_in names 0 0 o.text are.compiled.lists functions o.functions codes are.compiled.functions coded n p f p_is f_is in
      followers_unwind undefined section spares p.source.function p.function (resolve p.source.substitutions) (resolve p.substitutions) (image_of o f)
      is.follower is.physical c.compiled.laid.small (image_is p f is c) (shows p f c made)

-- ---- all functions

pub compiled_unwinds : CompiledUnwinds
compiled_unwinds names functions o are codes coded undefined section spares frames =
    of_sources (λ s f. AlwaysUnwinds undefined section s.function (resolve s.substitutions) (image_of o f)) functions o.functions (record {
      as_many = as_many names o.text are.compiled.lists 0 0 o.text are.compiled.lists functions o.functions are.compiled.functions;
      each = unwinds names functions o are codes coded undefined section spares frames;
    })
