-- The functions of an output that is compiled lie one after the other, their lines between their first addresses and their ends; and their lines
-- show the functions that passes made, with their frames.
use Rattle.std.proofs.Common.{◌≡◌, ℕ, suc, ◌+◌, List, [], ◌∷◌, length, map, refl, sym, ap, ◌∙◌, subst, arith}
use Rattle.mir_func.specs.declared.variable.VarId.{VarId}
use Rattle.mir_func.specs.Function.{FramedFunction}
use Rattle.mir_func.specs.SoundFrame.{IsFramed}
use Rattle.mir_func.specs.Sound.{contents_of}
use Rattle.frame_rule.proofs.Framed.{is_framed}
use Rattle.dwarf_loclists.specs.declared.range.Range.{Range}
use Rattle.dwarf_loclists.specs.Grammar.{IsSection}
use Rattle.listing_text.specs.declared.output.ListedFunction.{ListedFunction}
use Rattle.listing_text.specs.declared.output.Output.{Output}
use Rattle.listing_meaning.specs.Listing.{object_listed}
use Rattle.listing_meaning.specs.Program.{IsLaidOut as LinesLie, blocks_shown}
use Rattle.listing_meaning.specs.Settled.{settled}
use Rattle.listing_meaning.proofs.Framing.{function_shown}
use Rattle.listing_meaning.proofs.Lying.{listings_lie}
use Rattle.compile_theorem.specs.Compiled.{AreCompiled}
use Rattle.compile_theorem.specs.Laws.{CompiledIsLaidOut, CompiledListsPassed}
use Rattle.compile_theorem.specs.OutputProperties.{IsLaidOut, ListVariables, variable_lines, ListsFramed}
use Rattle.compile_theorem.specs.Source.{PassedFunction, sources_among, IsPassedFunction}
use Rattle.dwarf_unit.specs.Variables.{variables_of_function}
use Rattle.compile_theorem.proofs.Functions.{IsCompiledIn, compiled_in, as_many, functions_lie, of_sources}
use Rattle.compile_theorem.proofs.Telling.{all_at}
use Rattle.compile_theorem.proofs.Headline.{formed}

module _ (names : ℕ → List ℕ) (o : Output) (lists : List (List Range)) (section : IsSection o.loclists lists) (passed : PassedFunction) (f : ListedFunction)
    (is : IsPassedFunction passed) (c : IsCompiledIn names o.text lists passed f) where
  pub framed : IsFramed c.compiled.layout.framed
  framed = subst IsFramed (sym c.compiled.laid.framed) (is_framed passed.function is.follower.sound c.compiled.laid.small is.physical)

  laid_out : IsLaidOut passed.source f
  laid_out = record {
    named = ap (λ (x : ListedFunction). x.name) c.compiled.listed ∙ ap (λ (x : FramedFunction). x.name) c.compiled.laid.framed ∙ is.name;
    objects = ap (λ (x : ListedFunction). x.objects) c.compiled.listed ∙
        ap (λ (x : FramedFunction). map object_listed x.objects) c.compiled.laid.framed ∙ ap (map object_listed) is.follower.objects;
    lines = subst LinesLie (sym c.compiled.listed) (listings_lie c.compiled.layout (variable_lines names c.first
        (variables_of_function passed.source.function.blocks)) passed.substitutions
        (formed names o lists section passed f is c) c.compiled.laid.worded);
  }

  pub shown : map contents_of (blocks_shown f) ≡ map contents_of (map (settled c.compiled.layout.framed) c.compiled.layout.framed.blocks)
  shown = ap (λ (x : ListedFunction). map contents_of (blocks_shown x)) c.compiled.listed ∙
      function_shown c.compiled.layout (variable_lines names c.first (variables_of_function passed.source.function.blocks)) passed.substitutions framed
      (formed names o lists section passed f is c)

  lists_framed : ListsFramed passed f
  lists_framed = record {
    blocks = shown ∙ ap (λ (x : FramedFunction). map contents_of (map (settled x) x.blocks)) c.compiled.laid.framed;
    substitutions = ap (λ (x : ListedFunction). x.substitutions) c.compiled.listed;
  }

pub lines_length : (names : ℕ → List ℕ) (k : ℕ) (vs : List VarId) → length (variable_lines names k vs) ≡ length vs
lines_length names k [] = refl
lines_length names k (v ∷ vs) = ap (λ (n : ℕ). suc n) (lines_length names (suc k) vs)

list_variables : (names : ℕ → List ℕ) (base first : ℕ) (text : List ℕ) (lists : List (List Range)) (ss : List PassedFunction) (fs : List ListedFunction) →
    AreCompiled names base first text lists ss fs → ListVariables names first (sources_among ss) fs
list_variables names base first text lists [] [] are = tt
list_variables names base first text lists [] (f ∷ fs) are = absurd are
list_variables names base first text lists (s ∷ ss) [] are = absurd are
list_variables names base first text lists (s ∷ ss) (f ∷ fs) (c, more, rest, text_is, lists_is, onward) =
    let variables : f.variables ≡ variable_lines names first (variables_of_function s.source.function.blocks) =
    ap (λ (x : ListedFunction). x.variables) c.listed in
    let count : length c.lists ≡ length f.variables =
    c.located.for_all ∙ sym (lines_length names first (variables_of_function s.source.function.blocks)) ∙ ap length (sym variables) in (
      variables,
      subst (λ (n : ℕ). ListVariables names (first + n) (sources_among ss) fs) count
          (list_variables names f.high (first + length c.lists) more rest ss fs onward),
    )

pub compiled_is_laid_out : CompiledIsLaidOut
compiled_is_laid_out names functions o are = record {
  each = of_sources IsLaidOut functions o.functions (record {
    as_many = as_many names o.text are.compiled.lists 0 0 o.text are.compiled.lists functions o.functions are.compiled.functions;
    each = λ n passed f s_is f_is.
        laid_out names o are.compiled.lists are.compiled.section passed f (all_at IsPassedFunction functions n passed s_is are.passed)
        (compiled_in names functions o are.compiled n passed f s_is f_is);
  });
  variables = list_variables names 0 0 o.text are.compiled.lists functions o.functions are.compiled.functions;
  functions = functions_lie names o.text are.compiled.lists 0 0 o.text are.compiled.lists functions o.functions (omega arith) are.compiled.functions;
}

pub compiled_lists_passed : CompiledListsPassed
compiled_lists_passed names functions o are = record {
  as_many = as_many names o.text are.compiled.lists 0 0 o.text are.compiled.lists functions o.functions are.compiled.functions;
  each = λ n passed f s_is f_is.
      lists_framed names o are.compiled.lists are.compiled.section passed f (all_at IsPassedFunction functions n passed s_is are.passed)
      (compiled_in names functions o are.compiled n passed f s_is f_is);
}
