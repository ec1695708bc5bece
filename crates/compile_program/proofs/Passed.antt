-- Functions that passes made, and their sources.
use Rattle.std.proofs.Common.{◌≡◌, ◌∙◌, ℕ, zero, suc, ◌<◌, List, [], ◌∷◌, map, All, Contains, Some, refl, ap, sym, subst}
use Rattle.std.specs.Prelude.{slice_get}
use Rattle.std.proofs.lemmas.List.Elements.{All-nil, All-cons}
use Rattle.emit_code.specs.Laid.{LaidCode}
use Rattle.compile_function.specs.pass_trait.declared.loss.Loss.{Loss}
use Rattle.frame_rule.specs.Rule.{reach_of}
use Rattle.mir_func.specs.declared.debug_substitution.DebugSubstitution.{DebugSubstitution}
use Rattle.mir_func.specs.Function.{Function}
use Rattle.mir_func.specs.Limits.{MAX_FRAME}
use Rattle.pass_list.specs.declared.kind.PassKind.{PassKind}
use Rattle.compile_function.proofs.AfterPasses.{made_by}
use Rattle.compile_function.specs.Passed.{ExposedSteps, source_of, passed_of, steps_of, IsCompilable, IsMadeLosing}
use Rattle.read_metadata.specs.Maps.{Maps}
use Rattle.compile_function.specs.read_program.declared.closing.Parsed.{Parsed}
use Rattle.compile_function.specs.compile_theorem.Source.{SourceFunction, PassedFunction, IsPassedFunction, sources_among}
use Rattle.compile_program.specs.Program.{sources_of, ArePassed, AreCoded, HaveCode, LeavesVirtual, HasVirtualRegister, HasLargeFrame}
use Rattle.compile_program.specs.steps.CompilationState.{IsTooLarge}
use Rattle.compile_function.specs.dwarf_line_table.declared.source_and_code.SourceAndCode.{SourceAndCode}

-- ---- the sources of what passes made

pub passed_sources : (meta : Maps) (fs : List Parsed) (ps : List PassedFunction) → ArePassed meta fs ps → sources_of fs ≡ sources_among ps
passed_sources meta [] [] are = refl
passed_sources meta [] (p ∷ ps) are = absurd are
passed_sources meta (f ∷ fs) [] are = absurd are
passed_sources meta (f ∷ fs) (p ∷ ps) are =
    let here : source_of f ≡ p.source = sym are.0 in
    let rest = passed_sources meta fs ps are.2 in
    λ i. here i ∷ rest i

pub passed_functions : (meta : Maps) (fs : List Parsed) (ps : List PassedFunction) → ArePassed meta fs ps →
    map (λ f. f.func) fs ≡ map (λ p. p.source.function) ps
passed_functions meta [] [] are = refl
passed_functions meta [] (p ∷ ps) are = absurd are
passed_functions meta (f ∷ fs) [] are = absurd are
passed_functions meta (f ∷ fs) (p ∷ ps) are =
    let here : f.func ≡ p.source.function = ap (λ (s : SourceFunction). s.function) (sym are.0) in
    let rest = passed_functions meta fs ps are.2 in
    λ i. here i ∷ rest i

-- a function that passes made has a frame above the limit
pub made_too_large : (reserve : List ℕ) (passes : List PassKind) (q : Parsed) (f : Function) (subs : List DebugSubstitution) (losses : List Loss)
    (meta : Maps) →
    IsMadeLosing reserve passes (passed_of q f subs) losses → IsCompilable meta (passed_of q f subs) → MAX_FRAME < reach_of f →
    IsTooLarge (steps_of reserve passes) q
made_too_large reserve passes q f subs losses meta by is large = record {
  passed = passed_of q f subs;
  source = refl;
  keeps = is.passed;
  made = made_by reserve passes (passed_of q f subs) losses by;
  large = large;
}

-- one of the functions has a frame above the limit
pub one_too_large : (steps : ExposedSteps) (functions : List Parsed) (q : Parsed) → IsTooLarge steps q → Contains functions q → HasLargeFrame steps functions
one_too_large steps functions q is among = record {
  function = q;
  among = among;
  passed = is.passed;
  source = is.source;
  keeps = is.keeps;
  made = is.made;
  large = is.large;
}

-- linear scan leaves a virtual register in one of the functions
pub one_virtual : (reserve : List ℕ) (functions : List Parsed) (q : Parsed) → LeavesVirtual reserve q → Contains functions q →
    HasVirtualRegister reserve functions
one_virtual reserve functions q virtual among = record { function = q; among = among; virtual = virtual }

-- functions that were read, with the machine code of what passes made of them
pub have_code : (meta : Maps) (fs : List Parsed) (ps : List PassedFunction) (cs : List SourceAndCode) (codes : List LaidCode) → ArePassed meta fs ps →
    map (λ c. c.source.now) cs ≡ map (λ f. f.func) fs → map (λ c. c.code.now) cs ≡ codes → AreCoded 0 (map (λ p. p.function) ps) codes → HaveCode ps cs
have_code meta fs ps cs codes are sources_are codes_are coded = record {
  sources = sources_are ∙ passed_functions meta fs ps are;
  coded = subst (AreCoded 0 (map (λ p. p.function) ps)) (sym codes_are) coded;
}

pub all_passed : (meta : Maps) (fs : List Parsed) (ps : List PassedFunction) → ArePassed meta fs ps → All IsPassedFunction ps
all_passed meta [] [] are = All-nil IsPassedFunction
all_passed meta [] (p ∷ ps) are = absurd are
all_passed meta (f ∷ fs) [] are = absurd are
all_passed meta (f ∷ fs) (p ∷ ps) are = All-cons IsPassedFunction p ps are.1.passed (all_passed meta fs ps are.2)

-- what passes made of one of the functions
pub record PassedAt (meta : Maps) (ps : List PassedFunction) (n : ℕ) (f : Parsed) : Type 0 where
  pub passed : PassedFunction
  pub at : slice_get ps n ≡ Some passed
  pub source : passed.source ≡ source_of f
  pub is : IsCompilable meta passed

pub passed_at : (meta : Maps) (fs : List Parsed) (ps : List PassedFunction) → ArePassed meta fs ps → (n : ℕ) (f : Parsed) → slice_get fs n ≡ Some f →
    PassedAt meta ps n f
passed_at meta [] ps are n f at = absurd cc
passed_at meta (g ∷ fs) [] are n f at = absurd are
passed_at meta (g ∷ fs) (p ∷ ps) are zero f at =
    let same : g ≡ f = cc in
    subst (PassedAt meta (p ∷ ps) 0) same (record { passed = p; at = refl; source = are.0; is = are.1 })
passed_at meta (g ∷ fs) (p ∷ ps) are (suc n) f at =
    let later = passed_at meta fs ps are.2 n f at in
    record { passed = later.passed; at = later.at; source = later.source; is = later.is }
