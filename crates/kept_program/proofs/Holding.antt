-- The lists of each function are over the entries of its layout, on whose image the machine runs.
use Rattle.std.specs.Prelude.{All, slice_get}
use Rattle.std.proofs.Common.{◌≡◌, ℕ, suc, ◌+◌, List, [], ◌∷◌, ◌++◌, length, map, drop, Some, refl, sym, ap, ◌∙◌, subst, arith}
use Rattle.std.proofs.lemmas.List.Elements.{All-nil, All-cons}
use Rattle.mir_func.specs.Function.{FramedFunction}
use Rattle.mir_func.specs.Graph.{block_start, framed_program}
use Rattle.mir_func.specs.Resolve.{resolve}
use Rattle.emit_code.specs.declared.code.EncodedInstruction.{EncodedInstruction}
use Rattle.emit_code.specs.Rule.{Layout, entries_of}
use Rattle.frame_rule.specs.Rule.{framed_of}
use Rattle.dwarf_loclists.specs.declared.range.Range.{Range}
use Rattle.dwarf_loclists.specs.Grammar.{IsSection}
use Rattle.machine_steps_proof.specs.Images.{IsImageOf}
use Rattle.machine_proof.specs.LaidOut.{IsImageOfFunction}
use Rattle.invariance_code.proofs.Settled.{same_layout}
use Rattle.kept_ranges.specs.Lists.{AreKeptListsOf}
use Rattle.kept_theorem.proofs.Backtrace.{suspended_lists_hold}
use Rattle.kept_lists.specs.Kept.{AreKeptListsFor, AllKept}
use Rattle.listing_text.specs.declared.output.ListedFunction.{ListedFunction}
use Rattle.listing_text.specs.declared.output.Output.{Output}
use Rattle.read_metadata.specs.Maps.{Maps}
use Rattle.pass_list.specs.declared.kind.PassKind.{PassKind}
use Rattle.compile_program.specs.dwarf_unit.Variables.{variables_of_function}
use Rattle.compile_program.specs.listing_meaning.Program.{image_of}
use Rattle.compile_program.proofs.listing_meaning.Images.{image_shown}
use Rattle.compile_program.specs.compile_theorem.Compiled.{bytes_of, AreCompiled, IsCompiledProgram}
use Rattle.compile_program.specs.compile_theorem.OutputProperties.{variable_lines}
use Rattle.compile_program.specs.compile_theorem.Source.{SourceFunction, PassedFunction, IsPassedFunction}
use Rattle.compile_program.proofs.compile_theorem.Functions.{IsCompiledIn, compiled_in}
use Rattle.compile_program.proofs.compile_theorem.Headline.{formed}
use Rattle.compile_program.proofs.compile_theorem.Telling.{all_at}
use Rattle.compile_program.specs.read_program.declared.closing.Parsed.{Parsed}
use Rattle.compile_program.specs.Program.{CompiledFunction, ArePassed, IsCompiledAs, AreCompiledAs, source_of, names_of, lists_of}
use Rattle.compile_program.proofs.Compiled.{all_compiled}
use Rattle.kept_program.specs.Suspended.{HoldWhereSuspended, HoldFor, AllHold, SuspendedProgramsHold}

-- ---- what passes made

same_sources : (meta : Maps) (fs : List Parsed) (ps : List PassedFunction) → ArePassed meta fs ps → map (λ p. p.source) ps ≡ map source_of fs
same_sources meta [] [] are = refl
same_sources meta [] (p ∷ ps) are = absurd are
same_sources meta (f ∷ fs) [] are = absurd are
same_sources meta (f ∷ fs) (p ∷ ps) (same, compilable, onward) =
    let rest = same_sources meta fs ps onward in
    λ i. same i ∷ rest i

all_passed : (meta : Maps) (fs : List Parsed) (ps : List PassedFunction) → ArePassed meta fs ps → All IsPassedFunction ps
all_passed meta [] [] are = All-nil IsPassedFunction
all_passed meta [] (p ∷ ps) are = absurd are
all_passed meta (f ∷ fs) [] are = absurd are
all_passed meta (f ∷ fs) (p ∷ ps) (same, compilable, onward) =
    All-cons IsPassedFunction p ps compilable.passed (all_passed meta fs ps onward)

-- ---- one function

module _ (names : ℕ → List ℕ) (reserve : List ℕ) (passes : List PassKind) (o : Output) (every : List (List Range)) (section : IsSection o.loclists every)
    (p : PassedFunction) (base first : ℕ) (f : ListedFunction) (c : CompiledFunction) (passed : IsPassedFunction p)
    (within : IsCompiledIn names o.text every p f) (is : IsCompiledAs names reserve passes p base first f c) where
  abbrev layout : Layout
  layout = within.compiled.layout

  abbrev image_is : IsImageOfFunction p.function (image_of o f)
  image_is = record {
    layout = layout;
    framed = within.compiled.laid.framed;
    low = within.compiled.laid.low;
    few = within.compiled.laid.few;
    worded = within.compiled.laid.worded;
    laid =
        let at : drop layout.base o.text ≡ bytes_of layout ++ within.more =
        ap (λ (n : ℕ). drop n o.text) within.compiled.laid.from ∙ within.words in
        subst (λ (x : ListedFunction). IsImageOf layout (image_of o x)) (sym within.compiled.listed) (image_shown layout
        (variable_lines names within.first (variables_of_function p.source.function.blocks)) p.substitutions o within.more
        (formed names o every section p f passed within) at);
  }

  -- its code is that of the layout
  one_base : base ≡ within.base
  one_base =
      sym (ap (λ (x : ListedFunction). x.low) is.compiled.listed ∙ is.compiled.laid.from)
      ∙ (ap (λ (x : ListedFunction). x.low) within.compiled.listed ∙ within.compiled.laid.from)

  one_layout : is.code.layout ≡ layout
  one_layout =
      same_layout is.code.layout layout (is.code.of ∙ sym within.compiled.laid.framed) (is.code.from ∙ one_base ∙ sym within.compiled.laid.from)
      is.code.settled within.compiled.laid.settled

  entries : entries_of layout ≡ c.code.entries
  entries = sym (is.code.entries ∙ ap entries_of one_layout)

  substitutions : f.substitutions ≡ p.substitutions
  substitutions = ap (λ (x : ListedFunction). x.substitutions) within.compiled.listed

  module _ (own : List (List Range)) (kept : AreKeptListsFor c f own) where
    over_layout : AreKeptListsOf (framed_program (framed_of p.function).blocks (resolve p.substitutions)) (block_start 0) (entries_of layout) c.variables own
    over_layout =
        subst (λ (es : List EncodedInstruction). AreKeptListsOf (framed_program (framed_of p.function).blocks (resolve p.substitutions)) (block_start 0) es
        c.variables own) (sym entries)
        (subst (λ ss. AreKeptListsOf (framed_program (framed_of p.function).blocks (resolve ss)) (block_start 0) c.code.entries c.variables own)
        substitutions
        (subst (λ (x : FramedFunction). AreKeptListsOf (framed_program x.blocks (resolve f.substitutions)) (block_start 0) c.code.entries c.variables own)
        is.code.framed kept))

    hold : HoldFor o p.source c f own
    hold =
        subst (λ (x : FramedFunction). HoldWhereSuspended p.source.function (resolve p.source.substitutions)
        (framed_program x.blocks (resolve f.substitutions)) c.code.entries c.variables own (image_of o f)) (sym is.code.framed)
        (subst (λ ss. HoldWhereSuspended p.source.function (resolve p.source.substitutions)
        (framed_program (framed_of p.function).blocks (resolve ss)) c.code.entries c.variables own (image_of o f)) (sym substitutions)
        (subst (λ (es : List EncodedInstruction). HoldWhereSuspended p.source.function (resolve p.source.substitutions)
        (framed_program (framed_of p.function).blocks (resolve p.substitutions)) es c.variables own (image_of o f)) entries
        (suspended_lists_hold p.source.function p.function (resolve p.source.substitutions) (resolve p.substitutions) (image_of o f) passed.follower
        passed.physical within.compiled.laid.small image_is c.variables own over_layout)))

-- ---- all functions

module _ (names : ℕ → List ℕ) (reserve : List ℕ) (passes : List PassKind) (o : Output) (whole : List PassedFunction)
    (are : IsCompiledProgram names whole o) (all : All IsPassedFunction whole) where
  all_hold : (n base first : ℕ) (ps : List PassedFunction) (fs : List ListedFunction) (cs : List CompiledFunction)
      → ((k : ℕ) (x : PassedFunction) → slice_get ps k ≡ Some x → slice_get whole (n + k) ≡ Some x)
      → ((k : ℕ) (x : ListedFunction) → slice_get fs k ≡ Some x → slice_get o.functions (n + k) ≡ Some x)
      → AreCompiledAs names reserve passes base first ps fs cs → (lists : List (List Range)) → AllKept cs fs lists
      → AllHold o (map (λ p. p.source) ps) cs fs lists
  all_hold n base first [] [] [] at_p at_f compiled lists kept = kept
  all_hold n base first [] [] (c ∷ cs) at_p at_f compiled lists kept = absurd compiled
  all_hold n base first [] (f ∷ fs) cs at_p at_f compiled lists kept = absurd compiled
  all_hold n base first (p ∷ ps) [] cs at_p at_f compiled lists kept = absurd compiled
  all_hold n base first (p ∷ ps) (f ∷ fs) [] at_p at_f compiled lists kept = absurd compiled
  all_hold n base first (p ∷ ps) (f ∷ fs) (c ∷ cs) at_p at_f (is, onward) lists (own, rest, here, same, behind) =
      let next : (k : ℕ) → n + suc k ≡ suc n + k = λ k. omega arith in
      let passed : IsPassedFunction p = all_at IsPassedFunction whole (n + 0) p (at_p 0 p refl) all in
      let within = compiled_in names whole o are (n + 0) p f (at_p 0 p refl) (at_f 0 f refl) in (
        own,
        rest,
        hold names reserve passes o are.lists are.section p base first f c passed within is own here,
        same,
        all_hold (suc n) f.high (first + length c.lists) ps fs cs
            (λ k x e. subst (λ (i : ℕ). slice_get whole i ≡ Some x) (next k) (at_p (suc k) x e))
            (λ k x e. subst (λ (i : ℕ). slice_get o.functions i ≡ Some x) (next k) (at_f (suc k) x e)) onward rest behind,
      )

pub suspended_programs_hold : SuspendedProgramsHold
suspended_programs_hold reserve passes p c is lists kept =
    let names = names_of p.meta in
    let from : (k : ℕ) → k ≡ 0 + k = λ k. omega arith in
    let are : IsCompiledProgram names is.functions c.output = record {
      lists = lists_of c.functions;
      section = is.section;
      functions =
          subst (λ (t : List ℕ). AreCompiled names 0 0 t (lists_of c.functions) is.functions c.output.functions) (sym is.text)
          (all_compiled names reserve passes 0 0 is.functions c.output.functions c.functions is.compiled);
    } in
    subst (λ (ss : List SourceFunction). AllHold c.output ss c.functions c.output.functions lists)
    (same_sources p.meta p.functions is.functions is.passed)
    (all_hold names reserve passes c.output is.functions are (all_passed p.meta p.functions is.functions is.passed) 0 0 0 is.functions c.output.functions
    c.functions (λ k x e. subst (λ (i : ℕ). slice_get is.functions i ≡ Some x) (from k) e)
    (λ k x e. subst (λ (i : ℕ). slice_get c.output.functions i ≡ Some x) (from k) e) is.compiled lists kept)
