-- The image that the sections show of a function is that of its layout, and the layout's image shows its code.
use Rattle.std.proofs.Common.{◌≡◌, ℕ, zero, suc, ◌+◌, List, [], ◌∷◌, ◌++◌, drop, length, Some, ap, ◌∙◌, sym, subst}
use Rattle.std.specs.Prelude.{slice_get}
use Rattle.emit_code.specs.Laid.{LaidCode, IsCodeOf}
use Rattle.emit_code.specs.Rule.{Layout}
use Rattle.listing_text.specs.declared.output.ListedFunction.{ListedFunction}
use Rattle.listing_text.specs.declared.output.Output.{Output}
use Rattle.dwarf_loclists.specs.declared.range.Range.{Range}
use Rattle.dwarf_loclists.specs.Grammar.{IsSection}
use Rattle.frame_rule.specs.Rule.{framed_of}
use Rattle.compile_program.specs.machine_steps_proof.Images.{IsImageOf}
use Rattle.compile_program.proofs.compile_theorem.Functions.{IsCompiledIn, compiled_in}
use Rattle.compile_program.proofs.compile_theorem.Headline.{formed}
use Rattle.compile_program.proofs.compile_theorem.Telling.{all_at}
use Rattle.compile_program.specs.compile_theorem.Compiled.{AreCompiled, IsCompiledProgram, bytes_of}
use Rattle.compile_program.specs.compile_theorem.OutputProperties.{variable_lines}
use Rattle.compile_program.specs.compile_theorem.Source.{PassedFunction, IsPassedFunction}
use Rattle.pass_list.specs.declared.kind.PassKind.{PassKind}
use Rattle.compile_program.proofs.Passed.{all_passed}
use Rattle.compile_program.specs.read_program.declared.program.Program.{Program}
use Rattle.compile_program.specs.Program.{CompiledFunction, AreCompiledAs, IsCompilationOf, names_of, lists_of}
use Rattle.compile_program.specs.declared.compile.Compilation.{Compilation}
use Rattle.sim_start.specs.sim_machine.Shown.{ShowsCode}
use Rattle.compile_program.proofs.listing_meaning.Images.{image_shown}
use Rattle.compile_program.specs.listing_meaning.Program.{image_of}
use Rattle.sim_start.proofs.sim_proof.Shows.{images_show_code}
use Rattle.compile_program.specs.dwarf_unit.Variables.{variables_of_function}
use Rattle.invariance_code.proofs.Settled.{same_layout}
use Rattle.compile_program.proofs.Compiled.{all_compiled}
use Rattle.run_command.specs.Runs.{CompilationsShowCode}

-- ---- one function

module _ (names : ℕ → List ℕ) (o : Output) (lists : List (List Range)) (section : IsSection o.loclists lists) (passed : PassedFunction) (f : ListedFunction)
    (is : IsPassedFunction passed) (c : IsCompiledIn names o.text lists passed f) where
  shows_image : IsImageOf c.compiled.layout (image_of o f)
  shows_image =
      let l = c.compiled.layout in
      let at : drop l.base o.text ≡ bytes_of l ++ c.more = ap (λ (n : ℕ). drop n o.text) c.compiled.laid.from ∙ c.words in
      subst (λ (x : ListedFunction). IsImageOf l (image_of o x)) (sym c.compiled.listed) (image_shown l (variable_lines names c.first
      (variables_of_function passed.source.function.blocks)) passed.substitutions o c.more (formed names o lists section passed f is c)
      at)

  shows : (code : LaidCode) → IsCodeOf (framed_of passed.function) c.base code → ShowsCode code (image_of o f)
  shows code coded =
      let one : c.compiled.layout ≡ coded.layout =
      same_layout c.compiled.layout coded.layout (c.compiled.laid.framed ∙ sym coded.of) (c.compiled.laid.from ∙ sym coded.from)
      c.compiled.laid.settled coded.settled in
      images_show_code (framed_of passed.function) c.base code coded (image_of o f)
      (subst (λ (l : Layout). IsImageOf l (image_of o f)) one shows_image)

-- ---- the code of a function, which begins where the listing says

record CodeAt (p : PassedFunction) (f : ListedFunction) (k : CompiledFunction) : Type 0 where
  base : ℕ
  begins : f.low ≡ base
  coded : IsCodeOf (framed_of p.function) base k.code

record Found (ps : List PassedFunction) (n : ℕ) (f : ListedFunction) (k : CompiledFunction) : Type 0 where
  passed : PassedFunction
  stands : slice_get ps n ≡ Some passed
  here : CodeAt passed f k

code_at : (names : ℕ → List ℕ) (reserve : List ℕ) (passes : List PassKind) (base first : ℕ) (ps : List PassedFunction) (fs : List ListedFunction)
    (cs : List CompiledFunction) → AreCompiledAs names reserve passes base first ps fs cs → (n : ℕ) (f : ListedFunction) (k : CompiledFunction) →
    slice_get fs n ≡ Some f → slice_get cs n ≡ Some k → Found ps n f k
code_at names reserve passes base first [] [] cs are n f k f_is k_is = absurd cc
code_at names reserve passes base first [] (g ∷ fs) cs are n f k f_is k_is = absurd are
code_at names reserve passes base first (p ∷ ps) [] cs are n f k f_is k_is = absurd are
code_at names reserve passes base first (p ∷ ps) (g ∷ fs) [] are n f k f_is k_is = absurd are
code_at names reserve passes base first (p ∷ ps) (g ∷ fs) (c ∷ cs) (is, onward) zero f k f_is k_is =
    let same : g ≡ f = cc in
    let one : c ≡ k = cc in
    record {
      passed = p;
      stands = cc;
      here = record {
        base = base;
        begins =
            ap (λ (x : ListedFunction). x.low) (sym same) ∙ ap (λ (x : ListedFunction). x.low) is.compiled.listed ∙ is.compiled.laid.from;
        coded = subst (λ (x : CompiledFunction). IsCodeOf (framed_of p.function) base x.code) one is.code;
      };
    }
code_at names reserve passes base first (p ∷ ps) (g ∷ fs) (c ∷ cs) (is, onward) (suc n) f k f_is k_is =
    let later = code_at names reserve passes g.high (first + length c.lists) ps fs cs onward n f k f_is k_is in
    record { passed = later.passed; stands = later.stands; here = later.here }

-- a compilation's output is compiled
pub compiled_whole : (reserve : List ℕ) (passes : List PassKind) (p : Program) (c : Compilation) (is : IsCompilationOf reserve passes p c) →
    IsCompiledProgram (names_of p.meta) is.functions c.output
compiled_whole reserve passes p c is =
    let names = names_of p.meta in
    record {
      lists = lists_of c.functions;
      section = is.section;
      functions = subst (λ (t : List ℕ). AreCompiled names 0 0 t (lists_of c.functions) is.functions c.output.functions) (sym is.text)
          (all_compiled names reserve passes 0 0 is.functions c.output.functions c.functions is.compiled);
    }

pub compilation_shows_code : (reserve : List ℕ) (passes : List PassKind) (p : Program) (c : Compilation) → IsCompilationOf reserve passes p c →
    (number : ℕ) (f : ListedFunction) (k : CompiledFunction) → slice_get c.output.functions number ≡ Some f → slice_get c.functions number ≡ Some k →
    ShowsCode k.code (image_of c.output f)
unfolding compiled_whole
compilation_shows_code reserve passes p c is n f k f_is k_is =
    let names = names_of p.meta in
    let found = code_at names reserve passes 0 0 is.functions c.output.functions c.functions is.compiled n f k f_is k_is in
    let at = compiled_in names is.functions c.output (compiled_whole reserve passes p c is) n found.passed f found.stands f_is in
    let sound = all_at IsPassedFunction is.functions n found.passed found.stands (all_passed p.meta p.functions is.functions is.passed) in
    let base : found.here.base ≡ at.base =
    sym found.here.begins ∙ ap (λ (x : ListedFunction). x.low) at.compiled.listed ∙ at.compiled.laid.from in
    shows names c.output (lists_of c.functions) is.section found.passed f sound at k.code
    (subst (λ (b : ℕ). IsCodeOf (framed_of found.passed.function) b k.code) base found.here.coded)

pub compilations_show_code : CompilationsShowCode
compilations_show_code reserve passes p c is n f k f_is k_is = compilation_shows_code reserve passes p c is n f k f_is k_is
