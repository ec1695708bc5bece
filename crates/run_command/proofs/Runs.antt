-- Each function of a compilation has its code, at low addresses, and each variable its list.
use Rattle.std.proofs.Common.{◌≡◌, ℕ, suc, ◌+◌, ◌*◌, ◌<◌, ◌≤◌, ◌^◌, List, [], ◌∷◌, length, All, ap, ◌∙◌, subst, sym, arith, length-append}
use Rattle.std.specs.List.{flat_map}
use Rattle.std.specs.Int.{w32, to_le_bytes}
use Rattle.std.proofs.lemmas.List.Elements.{All-nil, All-cons, All-head, All-tail}
use Rattle.listing_text.specs.declared.output.ListedFunction.{ListedFunction}
use Rattle.listing_text.specs.declared.output.ListedVariable.{ListedVariable}
use Rattle.dwarf_base.specs.Limits.{SECTION_LIMIT}
use Rattle.dwarf_loclists.specs.declared.range.Range.{Range}
use Rattle.dwarf_loclists.specs.Ranges.{Ascend, ArePlaces}
use Rattle.mir_func.specs.declared.variable.VarId.{VarId}
use Rattle.compile_program.proofs.compile_theorem.Functions.{words_length}
use Rattle.compile_program.specs.compile_theorem.Compiled.{AreCompiled}
use Rattle.compile_program.specs.compile_theorem.OutputProperties.{variable_lines, variable_listed}
use Rattle.compile_program.specs.compile_theorem.Source.{PassedFunction}
use Rattle.compile_program.specs.read_program.declared.program.Program.{Program}
use Rattle.pass_list.specs.declared.kind.PassKind.{PassKind}
use Rattle.compile_program.specs.Program.{CompiledFunction, AreCompiledAs, IsCompilationOf, names_of, text_of, lists_of}
use Rattle.compile_program.specs.declared.compile.Compilation.{Compilation}
use Rattle.compile_program.specs.dwarf_unit.Variables.{variables_of_function}
use Rattle.compile_program.proofs.Compiled.{ends, all_compiled, all_writable, as_many_compiled}
use Rattle.run_command.specs.Runs.{CanRun, CompilationsCanRun}

abbrev IsLow : CompiledFunction → Type 0
IsLow k = k.code.base + 4 * length k.code.words ≤ 2 ^ 32

abbrev IsBelow : ℕ → ListedVariable → Type 0
IsBelow total v = v.list < total

abbrev AreBelow : ℕ → ListedFunction → Type 0
AreBelow total f = All (IsBelow total) f.variables

-- ---- code

low : (names : ℕ → List ℕ) (reserve : List ℕ) (passes : List PassKind) (base first : ℕ) (ps : List PassedFunction) (fs : List ListedFunction)
    (cs : List CompiledFunction) → AreCompiledAs names reserve passes base first ps fs cs → base + length (text_of cs) ≤ 2 ^ 32 → All IsLow cs
low names reserve passes base first [] [] [] are small = All-nil IsLow
low names reserve passes base first [] [] (c ∷ cs) are small = absurd are
low names reserve passes base first [] (f ∷ fs) cs are small = absurd are
low names reserve passes base first (p ∷ ps) [] cs are small = absurd are
low names reserve passes base first (p ∷ ps) (f ∷ fs) [] are small = absurd are
low names reserve passes base first (p ∷ ps) (f ∷ fs) (c ∷ cs) (is, onward) small =
    let high : base + 4 * length c.code.words ≡ f.high = ends names reserve passes p base first f c is in
    let whole : length (text_of (c ∷ cs)) ≡ length (flat_map (to_le_bytes w32) c.code.words) + length (text_of cs) =
    length-append (flat_map (to_le_bytes w32) c.code.words) (text_of cs) in
    let words : length (flat_map (to_le_bytes w32) c.code.words) ≡ 4 * length c.code.words = words_length c.code.words in
    let kept = is.code.base_kept in
    let after : f.high + length (text_of cs) ≤ 2 ^ 32 = omega (arith, high, whole, words, small) in
    All-cons IsLow c cs (omega (arith, high, kept, after)) (low names reserve passes f.high (first + length c.lists) ps fs cs onward after)

-- ---- lists

lines_below : (names : ℕ → List ℕ) (k total : ℕ) (vs : List VarId) → k + length vs ≤ total → All (IsBelow total) (variable_lines names k vs)
lines_below names k total [] few = All-nil (IsBelow total)
lines_below names k total (v ∷ vs) few =
    All-cons (IsBelow total) (variable_listed names k v) (variable_lines names (suc k) vs) (omega (arith, few))
    (lines_below names (suc k) total vs (omega (arith, few)))

below : (names : ℕ → List ℕ) (total base first : ℕ) (text : List ℕ) (lists : List (List Range)) (ps : List PassedFunction) (fs : List ListedFunction) →
    AreCompiled names base first text lists ps fs → first + length lists ≤ total → All (AreBelow total) fs
below names total base first text lists [] [] are few = All-nil (AreBelow total)
below names total base first text lists [] (f ∷ fs) are few = absurd are
below names total base first text lists (p ∷ ps) [] are few = absurd are
below names total base first text lists (p ∷ ps) (f ∷ fs) (is, more, rest, text_is, lists_is, onward) few =
    let vs = variables_of_function p.source.function.blocks in
    let count : length is.lists ≡ length vs = is.located.for_all in
    let whole : length lists ≡ length is.lists + length rest = ap length lists_is ∙ length-append is.lists rest in
    All-cons (AreBelow total) f fs
    (subst (λ (g : ListedFunction). AreBelow total g) (sym is.listed) (lines_below names first total vs (omega (arith, count, whole, few))))
    (below names total f.high (first + length is.lists) more rest ps fs onward (omega (arith, whole, few)))

readable : (lists : List (List Range)) → All Ascend lists → All ArePlaces lists → All (λ (ranges : List Range). Ascend ranges × ArePlaces ranges) lists
readable [] ascend places = All-nil (λ (ranges : List Range). Ascend ranges × ArePlaces ranges)
readable (l ∷ ls) ascend places =
    All-cons (λ (ranges : List Range). Ascend ranges × ArePlaces ranges) l ls (All-head Ascend l ls ascend, All-head ArePlaces l ls places)
    (readable ls (All-tail Ascend l ls ascend) (All-tail ArePlaces l ls places))

pub compilation_can_run : (reserve : List ℕ) (passes : List PassKind) (p : Program) (c : Compilation) → IsCompilationOf reserve passes p c → CanRun c
compilation_can_run reserve passes p c is =
    let names = names_of p.meta in
    let fs = c.output.functions in
    let small : 0 + length (text_of c.functions) ≤ 2 ^ 32 =
    let below_limit : length c.output.text < SECTION_LIMIT = is.small in
    let same : length c.output.text ≡ length (text_of c.functions) = ap length is.text in
    omega (arith, below_limit, same) in
    let writable = all_writable names reserve passes 0 0 is.functions fs c.functions is.compiled in
    record {
      functions = (as_many_compiled names reserve passes 0 0 is.functions fs c.functions is.compiled).1;
      low = low names reserve passes 0 0 is.functions fs c.functions is.compiled small;
      listed = below names (length (lists_of c.functions)) 0 0 (text_of c.functions) (lists_of c.functions) is.functions fs
          (all_compiled names reserve passes 0 0 is.functions fs c.functions is.compiled) (omega arith);
      readable = readable (lists_of c.functions) writable.ascend writable.places;
    }

pub compilations_can_run : CompilationsCanRun
compilations_can_run reserve passes p c is = compilation_can_run reserve passes p c is
