-- The same passes make alike code of alike code.
use Rattle.std.proofs.Common.{◌≡◌, ℕ, Bool, true, false, List, [], ◌∷◌, ◌++◌, sym, subst}
use Rattle.global_registers.specs.Laws.{one_shared, same_shared}
use Rattle.global_registers.specs.Pass.{shared_step}
use Rattle.global_registers.specs.Shared.{IsSharedBy}
use Rattle.mir_exposure.specs.declared.exposure.Exposure.{Exposure}
use Rattle.mir_exposure.specs.declared.exposure.Exposure.TheVariants.{Nothing, Globals, Everything}
use Rattle.mir_func.specs.Function.{Function}
use Rattle.mir_func.specs.Strip.{stripped}
use Rattle.copyprop_rule.specs.Laws.{one_copied, same_copied}
use Rattle.tool_driver.specs.dce_pass.PassLaws.{rounds_have_one_result, rounds_see_code_alone}
use Rattle.fold_pass.specs.Laws.{folding_has_one_result, folding_sees_code_alone}
use Rattle.remat_pass.specs.Laws.{one_rematerialized, same_rematerialized}
use Rattle.spill_pass.specs.Reserve.{reserve_of}
use Rattle.spill_rule.specs.Laws.{one_spilled, same_spilled}
use Rattle.pass_trait.specs.Change.{change}
use Rattle.pass_trait.specs.Code.{CodeRule, HasOneResult, SeesCodeAlone}
use Rattle.pass_trait.specs.Laws.{one_then, same_then}
use Rattle.pass_trait.specs.Steps.{PassStep, EachCode, KeepsSteps}
use Rattle.theorem_invariance.proofs.Made.{make_code_alone}
use Rattle.invariance_code.specs.Alike.{HaveAlikeCode, HaveSameCode}
use Rattle.pass_list.specs.declared.kind.PassKind.{PassKind}
use Rattle.pass_list.specs.declared.kind.PassKind.TheVariants.{Copy, Remat, Spill, Dead, Fold}
use Rattle.tool_driver.specs.pass_manager.Exposed.{exposed_passes}
use Rattle.tool_driver.specs.pass_manager.Passes.{steps_of_pass, passes_of as passes_of_list, joined}
use Rattle.tool_driver.specs.compile_passes.Passed.{steps_of, passes_of}
use Rattle.compile_theorem.specs.Source.{SourceFunction}
use Rattle.tool_driver.proofs.scan_pass.CodeAlone.{scan_is_one, scan_sees_code_alone}
use Rattle.tool_driver.specs.scan_pass.Scanned.{scan_steps}
use Rattle.theorem_invariance.specs.Text.{OneByOne}
use Rattle.theorem_invariance.proofs.Text.{coded_alone, alike_text, same_text}
use Rattle.theorem_invariance.specs.Passed.{IsPassed, PassesMakeCodeAlone, PassedIsMadeOfCode, AreSourcesAlike, AreSourcesSame}
use Rattle.theorem_invariance.specs.Passed.{PassedHasSameText, PassedHasSameCode}

-- ---- the rules for code

one_of_pass : (reserve : List ℕ) (p : PassKind) → EachCode HasOneResult (steps_of_pass reserve p)
one_of_pass reserve Copy = (one_copied, tt)
one_of_pass reserve Remat = (one_rematerialized, tt)
one_of_pass reserve Spill = (one_spilled (reserve_of reserve), tt)
one_of_pass reserve Dead = rounds_have_one_result
one_of_pass reserve Fold = (folding_has_one_result, tt)

same_of_pass : (reserve : List ℕ) (p : PassKind) → EachCode SeesCodeAlone (steps_of_pass reserve p)
same_of_pass reserve Copy = (same_copied, tt)
same_of_pass reserve Remat = (same_rematerialized, tt)
same_of_pass reserve Spill = (same_spilled (reserve_of reserve), tt)
same_of_pass reserve Dead = rounds_see_code_alone
same_of_pass reserve Fold = (folding_sees_code_alone, tt)

-- the rules of each pass have the property
abbrev EachPass : (CodeRule → Type 0) → List (List PassStep) → Type 0
EachPass P [] = Unit {0}
EachPass P (steps ∷ passes) = EachCode P steps × EachPass P passes

one_joined : (passes : List (List PassStep)) → EachPass HasOneResult passes → EachCode HasOneResult (joined passes)
one_joined [] each = tt
one_joined (steps ∷ passes) each = one_then steps (joined passes) each.0 (one_joined passes each.1)

same_joined : (passes : List (List PassStep)) → EachPass SeesCodeAlone passes → EachCode SeesCodeAlone (joined passes)
same_joined [] each = tt
same_joined (steps ∷ passes) each = same_then steps (joined passes) each.0 (same_joined passes each.1)

module _ (P : CodeRule → Type 0) (reserve : List ℕ) (of_pass : (p : PassKind) → EachCode P (steps_of_pass reserve p))
    (of_sharing : (shares : Bool) → P (IsSharedBy shares)) where
  of_list : (passes : List PassKind) → EachPass P (passes_of_list reserve passes)
  of_list [] = tt
  of_list (p ∷ ps) = (of_pass p, of_list ps)

  of_last : (passes : List (List PassStep)) (last : List PassStep) → EachPass P passes → EachCode P last → EachPass P (passes ++ last ∷ [])
  of_last [] last each of = (of, tt)
  of_last (steps ∷ passes) last each of = (each.0, of_last passes last each.1 of)

  of_exposed : (passes : List PassKind) (exposure : Exposure) → EachPass P (exposed_passes reserve passes exposure)
  of_exposed passes Nothing = of_list passes
  of_exposed passes Globals = (
    (of_sharing true, tt),
    of_last (passes_of_list reserve passes) (shared_step false ∷ []) (of_list passes) (of_sharing false, tt),
  )
  of_exposed passes Everything = tt

one_each : (reserve : List ℕ) (passes : List PassKind) (exposure : Exposure) → EachCode HasOneResult (steps_of reserve passes exposure)
unfolding steps_of passes_of
one_each reserve passes exposure =
    one_joined (scan_steps reserve ∷ exposed_passes reserve passes exposure)
    (scan_is_one reserve, of_exposed HasOneResult reserve (one_of_pass reserve) one_shared passes exposure)

same_each : (reserve : List ℕ) (passes : List PassKind) (exposure : Exposure) → EachCode SeesCodeAlone (steps_of reserve passes exposure)
unfolding steps_of passes_of
same_each reserve passes exposure =
    same_joined (scan_steps reserve ∷ exposed_passes reserve passes exposure)
    (scan_sees_code_alone reserve, of_exposed SeesCodeAlone reserve (same_of_pass reserve) same_shared passes exposure)

pub passes_alone : PassesMakeCodeAlone
passes_alone reserve passes exposure =
    make_code_alone (steps_of reserve passes exposure) (one_each reserve passes exposure) (same_each reserve passes exposure)

pub passed_made : PassedIsMadeOfCode
passed_made reserve passes s g base l is laid =
    let h = coded_alone g base l laid in
    record {
      made = stripped g;
      by_passes = (passes_alone reserve passes s.exposure).made (change s.function s.substitutions g is.substitutions) is.losses is.kept;
      layout = h.layout;
      laid = h.laid;
      coded = h.coded;
    }

-- ---- one by one

module _ {X Y Z W : Type 0} (R : X → Y → Type 0) (S : X → Z → Type 0) (T : Y → W → Type 0) (U : Z → W → Type 0)
    (step : (x : X) (y : Y) (z : Z) (w : W) → R x y → S x z → T y w → U z w) where
  each_step : (xs : List X) (ys : List Y) (zs : List Z) (ws : List W) → OneByOne R xs ys → OneByOne S xs zs → OneByOne T ys ws → OneByOne U zs ws
  each_step [] [] [] [] r s t = tt
  each_step [] [] [] (w ∷ ws) r s t = absurd t
  each_step [] [] (z ∷ zs) ws r s t = absurd s
  each_step [] (y ∷ ys) zs ws r s t = absurd r
  each_step (x ∷ xs) [] zs ws r s t = absurd r
  each_step (x ∷ xs) (y ∷ ys) [] ws r s t = absurd s
  each_step (x ∷ xs) (y ∷ ys) (z ∷ zs) [] r s t = absurd t
  each_step (x ∷ xs) (y ∷ ys) (z ∷ zs) (w ∷ ws) r s t = (step x y z w r.0 s.0 t.0, each_step xs ys zs ws r.1 s.1 t.1)

module _ (reserve : List ℕ) (passes : List PassKind) (s t : SourceFunction) (f g : Function) (is : IsPassed reserve passes s f)
    (others : IsPassed reserve passes t g) (exposed : s.exposure ≡ t.exposure) where
  -- the steps of one are those of the other
  kept_as : KeepsSteps (steps_of reserve passes s.exposure) (change t.function t.substitutions g others.substitutions) others.losses
  kept_as = subst (λ (e : Exposure). KeepsSteps (steps_of reserve passes e) (change t.function t.substitutions g others.substitutions) others.losses)
      (sym exposed) others.kept

  alike_made : HaveAlikeCode s.function t.function → HaveAlikeCode f g
  alike_made alike =
      (passes_alone reserve passes s.exposure).alike (change s.function s.substitutions f is.substitutions)
      (change t.function t.substitutions g others.substitutions) is.losses others.losses is.kept kept_as alike

  same_made : HaveSameCode s.function t.function → HaveSameCode f g
  same_made same =
      (passes_alone reserve passes s.exposure).same (change s.function s.substitutions f is.substitutions)
      (change t.function t.substitutions g others.substitutions) is.losses others.losses is.kept kept_as same

alike_step : (reserve : List ℕ) (passes : List PassKind) (s t : SourceFunction) (f g : Function) → AreSourcesAlike s t → IsPassed reserve passes s f →
    IsPassed reserve passes t g → HaveAlikeCode f g
alike_step reserve passes s t f g alike is others = alike_made reserve passes s t f g is others alike.0 alike.1

same_step : (reserve : List ℕ) (passes : List PassKind) (s t : SourceFunction) (f g : Function) → AreSourcesSame s t → IsPassed reserve passes s f →
    IsPassed reserve passes t g → HaveSameCode f g
same_step reserve passes s t f g same is others = same_made reserve passes s t f g is others same.0 same.1

pub passed_text : PassedHasSameText
passed_text reserve passes ss ts new others base text other ls ms alike is are laid laid' =
    alike_text new others base text other ls ms
    (each_step AreSourcesAlike (IsPassed reserve passes) (IsPassed reserve passes) HaveAlikeCode (alike_step reserve passes) ss ts new others alike is are)
    laid laid'

pub passed_code : PassedHasSameCode
passed_code reserve passes ss ts new others base text other ls ms same is are laid laid' =
    same_text new others base text other ls ms
    (each_step AreSourcesSame (IsPassed reserve passes) (IsPassed reserve passes) HaveSameCode (same_step reserve passes) ss ts new others same is are)
    laid laid'
