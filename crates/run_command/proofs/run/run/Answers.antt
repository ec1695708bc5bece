use Rattle.std.proofs.Common.{◌≡◌, ℕ, ◌<◌, List, take, length, map, Some, refl, sym, ap, ◌∙◌, subst, get_or, arith}
use Rattle.std.specs.Prelude.{slice_get}
use Rattle.std.proofs.lemmas.Option.{get_or_from_slice_get, slice_get_read, slice_get_within}
use Rattle.rv64_instr.specs.declared.symbol.Symbol.{Symbol}
use Rattle.listing_text.specs.declared.output.ListedFunction.{ListedFunction}
use Rattle.dwarf_loclists.specs.declared.range.Range.{Range}
use Rattle.compile_program.specs.Program.{CompiledFunction, lists_of}
use Rattle.compile_program.specs.declared.compile.Compilation.{Compilation}
use Rattle.sim_start.specs.InitialMachine.{IsTextOfAskedRun}
use Rattle.sim_start.specs.sim_trace.declared.variable.Variable.{Variable}
use Rattle.sim_start.specs.sim_trace.Variables.{variable_of}
use Rattle.run_command.specs.Runs.{HasNone, IsFirstNamed, IsRunOf}
use Rattle.run_command.proofs.run.run.Goals as goal

-- the run of a function that was found, with its code and its variables
module _ (c : Compilation) (name : List ℕ) (limit : ℕ) (addresses : List (Symbol × ℕ)) (arguments values text : List ℕ) (number : ℕ)
    (functions : List ListedFunction) (compiled : List CompiledFunction) (function : ListedFunction) (one : CompiledFunction) (lists : List (List Range))
    (variables : List Variable) where
  run_found : functions ≡ c.output.functions → compiled ≡ c.functions → length c.functions ≡ length c.output.functions →
      IsFirstNamed name functions number → one ≡ get_or compiled number one → lists ≡ lists_of c.functions →
      variables ≡ map (variable_of lists) (get_or functions number function).variables →
      IsTextOfAskedRun one.code addresses arguments values variables limit text → IsRunOf c name limit addresses arguments values text
  run_found same same_compiled as_many found one_is lists_are made runs =
      let stands : slice_get c.output.functions number ≡ Some found.function =
      subst (λ (fs : List ListedFunction). slice_get fs number ≡ Some found.function) same found.stands in
      let within : number < length c.output.functions = slice_get_within c.output.functions number found.function stands in
      let named_is : get_or functions number function ≡ found.function = get_or_from_slice_get functions number found.function function found.stands in
      let below : number < length compiled = let many = ap length same_compiled in omega (arith, within, as_many, many) in
      let one_stands : slice_get compiled number ≡ Some one = slice_get_read compiled (length compiled) number one refl below one_is in
      let listed : variables ≡ map (variable_of (lists_of c.functions)) found.function.variables =
      made ∙ (λ i. map (variable_of (lists_are i)) (named_is i).variables) in
      record {
        number = number;
        named = record {
          function = found.function;
          stands = stands;
          named = found.named;
          first = subst (λ (fs : List ListedFunction). HasNone name (take number fs)) same found.first;
        };
        compiled = one;
        stands = subst (λ (cs : List CompiledFunction). slice_get cs number ≡ Some one) same_compiled one_stands;
        runs = subst (λ (vs : List Variable). IsTextOfAskedRun one.code addresses arguments values vs limit text) listed runs;
      }

pub returns : goal.returns
returns c =
    let made = c.in_ok-variables.ensures.made ∙ (λ i. map (variable_of (c.as_slice-2.ensures i)) (c.as_slice-listed.ensures i)) in
    run_found c.args.compilation.now c.args.name.now c.args.limit c.args.symbols c.args.arguments.now c.args.values c.in_ok-text.text c.in-Some.number
    c.as_slice-functions.result.now c.as_slice-3.result.now c.index-functions-number.result c.index-as_slice-number.result c.in_ok-lists.lists
    c.in_ok-variables.variables c.as_slice-functions.ensures c.as_slice-3.ensures c.requires.functions c.in-Some.ensures
    c.index-as_slice-number.is (c.in_ok-lists.ensures ∙ ap lists_of c.as_slice.ensures) made
    (subst (λ (k : CompiledFunction).
    IsTextOfAskedRun k.code c.args.symbols c.args.arguments.now c.args.values c.in_ok-variables.variables c.args.limit c.in_ok-text.text)
    (sym c.index-as_slice-number.is) c.in_ok-text.ensures)
