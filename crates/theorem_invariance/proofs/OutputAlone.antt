-- The same passes make alike code of alike code, function by function, and what is compiled of it has the same `.text`.
use Rattle.std.proofs.Common.{◌≡◌, List, [], ◌∷◌, sym, ap, ◌∙◌, subst}
use Rattle.std.specs.Prelude.{All}
use Rattle.std.proofs.lemmas.List.Elements.{All-head, All-tail}
use Rattle.theorem_invariance.specs.Compiled.{functions_of}
use Rattle.theorem_invariance.proofs.Compiled.{same_text}
use Rattle.pass_trait.specs.Change.{change}
use Rattle.pass_trait.specs.Steps.{KeepsSteps, MakeCodeAlone}
use Rattle.invariance_code.specs.Alike.{HaveAlikeCode}
use Rattle.mir_exposure.specs.declared.exposure.Exposure.{Exposure}
use Rattle.read_metadata.specs.Maps.{Maps}
use Rattle.read_program.specs.declared.closing.Parsed.{Parsed}
use Rattle.compile_theorem.specs.Source.{PassedFunction, SourceFunction}
use Rattle.theorem_invariance.proofs.Passed.{passes_alone}
use Rattle.tool_driver.specs.Program.{ExposedSteps, ArePassed, steps_of, IsMadeBy, source_of, names_of}
use Rattle.theorem_invariance.specs.Text.{OneByOne}
use Rattle.theorem_invariance.specs.OutputAlone.{AreReadAlike, OutputsOfAlikeCode}

module _ (steps : ExposedSteps) (alone : (e : Exposure) → MakeCodeAlone (steps e)) (meta meta' : Maps) where
  one_alike : (f g : Parsed) (s t : PassedFunction) → s.source ≡ source_of f → t.source ≡ source_of g → AreReadAlike f g → IsMadeBy steps s → IsMadeBy steps t →
      HaveAlikeCode s.function t.function
  one_alike f g s t from_f from_g alike made made' =
      let exposed : t.source.exposure ≡ s.source.exposure =
      ap (λ (x : SourceFunction). x.exposure) from_g ∙ (sym alike.0 ∙ ap (λ (x : SourceFunction). x.exposure) (sym from_f)) in
      let other = change t.source.function t.source.substitutions t.function t.substitutions in
      (alone s.source.exposure).alike (change s.source.function s.source.substitutions s.function s.substitutions) other made.losses made'.losses made.kept
      (subst (λ (e : Exposure). KeepsSteps (steps e) other made'.losses) exposed made'.kept)
      (subst (λ (x : SourceFunction). HaveAlikeCode x.function t.source.function) (sym from_f)
      (subst (λ (x : SourceFunction). HaveAlikeCode f.func x.function) (sym from_g) alike.1))

  each_alike : (fs gs : List Parsed) (ss ts : List PassedFunction) → OneByOne AreReadAlike fs gs → ArePassed meta fs ss → ArePassed meta' gs ts →
      All (IsMadeBy steps) ss → All (IsMadeBy steps) ts → OneByOne HaveAlikeCode (functions_of ss) (functions_of ts)
  each_alike [] [] [] [] alike is are made made' = tt
  each_alike [] [] [] (t ∷ ts) alike is are made made' = absurd are
  each_alike [] [] (s ∷ ss) ts alike is are made made' = absurd is
  each_alike [] (g ∷ gs) ss ts alike is are made made' = absurd alike
  each_alike (f ∷ fs) [] ss ts alike is are made made' = absurd alike
  each_alike (f ∷ fs) (g ∷ gs) [] ts alike is are made made' = absurd is
  each_alike (f ∷ fs) (g ∷ gs) (s ∷ ss) [] alike is are made made' = absurd are
  each_alike (f ∷ fs) (g ∷ gs) (s ∷ ss) (t ∷ ts) alike is are made made' = (
    one_alike f g s t is.0 are.0 alike.0 (All-head (IsMadeBy steps) s ss made) (All-head (IsMadeBy steps) t ts made'),
    each_alike fs gs ss ts alike.1 is.2 are.2 (All-tail (IsMadeBy steps) s ss made) (All-tail (IsMadeBy steps) t ts made'),
  )

pub outputs_alone : OutputsOfAlikeCode
outputs_alone reserve passes p q o o' alike is are =
    same_text (names_of p.meta) (names_of q.meta) is.functions are.functions o o'
    (each_alike (steps_of reserve passes) (passes_alone reserve passes) p.meta q.meta p.functions q.functions is.functions are.functions alike
    is.passed are.passed is.made are.made) is.compiled are.compiled
