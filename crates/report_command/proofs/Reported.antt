-- What is reported of a compilation is each of its functions, as it is compiled.
use Rattle.std.proofs.Common.{ℕ, ◌+◌, List, [], ◌∷◌, length, refl}
use Rattle.listing_text.specs.declared.output.ListedFunction.{ListedFunction}
use Rattle.compile_program.specs.compile_theorem.Source.{PassedFunction}
use Rattle.compile_program.specs.read_program.declared.program.Program.{Program}
use Rattle.pass_list.specs.declared.kind.PassKind.{PassKind}
use Rattle.compile_program.specs.Program.{CompiledFunction, AreCompiledAs, IsCompilationOf, names_of}
use Rattle.compile_program.proofs.Compiled.{many}
use Rattle.compile_program.specs.declared.compile.Compilation.{Compilation}
use Rattle.report_command.specs.ProgramReport.{HaveLists, IsReported, CompilationsAreReported}

have_lists : (names : ℕ → List ℕ) (reserve : List ℕ) (passes : List PassKind) (base first : ℕ) (ps : List PassedFunction) (fs : List ListedFunction)
    (cs : List CompiledFunction) → AreCompiledAs names reserve passes base first ps fs cs → HaveLists fs cs
have_lists names reserve passes base first ps [] cs are = tt
have_lists names reserve passes base first ps (f ∷ fs) [] are = tt
have_lists names reserve passes base first [] (f ∷ fs) (c ∷ cs) are = absurd are
have_lists names reserve passes base first (p ∷ ps) (f ∷ fs) (c ∷ cs) (is, onward) = (
  record { many = many names reserve passes p base first f c is; ascend = is.writable.ascend },
  have_lists names reserve passes f.high (first + length c.lists) ps fs cs onward,
)

pub compilation_reported : (reserve : List ℕ) (passes : List PassKind) (p : Program) (c : Compilation) → IsCompilationOf reserve passes p c →
    IsReported reserve passes p c
compilation_reported reserve passes p c is = record {
  lists = have_lists (names_of p.meta) reserve passes 0 0 is.functions c.output.functions c.functions is.compiled;
  text = record {
    functions = is.functions;
    passed = is.passed;
    listed = c.output.functions;
    compiled = c.functions;
    are = is.compiled;
    spelled = refl;
  };
}

pub compilations_are_reported : CompilationsAreReported
compilations_are_reported reserve passes p c is = compilation_reported reserve passes p c is
