-- A function that was read, after linear scan and passes.
use Rattle.std.specs.Prelude.{◌≡◌, ℕ, List, ◌∷◌, ◌++◌, All}
use Rattle.listing_proof.specs.listing_text.Shown.{IsPrintableEntry}
use Rattle.pass_trait.specs.Change.{change}
use Rattle.pass_trait.specs.declared.loss.Loss.{Loss}
use Rattle.pass_trait.specs.Sizes.{IsPhysical}
use Rattle.pass_trait.specs.Steps.{PassStep, KeepsSteps}
use Rattle.listing_proof.specs.Laws.{inlined_in, IsPrintableBody}
use Rattle.read_metadata.specs.Maps.{Maps}
use Rattle.mir_exposure.specs.declared.exposure.Exposure.{Exposure}
use Rattle.mir_func.specs.declared.debug_substitution.DebugSubstitution.{DebugSubstitution}
use Rattle.mir_func.specs.Function.{Function}
use Rattle.listing_proof.specs.read_program.declared.closing.Parsed.{Parsed}
use Rattle.compile_theorem.specs.Source.{SourceFunction, PassedFunction, IsPassedFunction}
use Rattle.pass_list.specs.declared.kind.PassKind.{PassKind}
use Rattle.pass_manager.specs.Exposed.{exposed_passes, left_exposed}
use Rattle.pass_manager.specs.Passes.{joined}
use Rattle.pass_manager.specs.Shown.{KeepsShown}
use Rattle.pass_manager.specs.Told.{KeepsPasses}
use Rattle.linear_scan.specs.Scanned.{scan_steps}

-- the most items that a function has after passes
abbrev pub MAX_PASSED : ℕ
MAX_PASSED = 167936

-- a function that was read, as a source
abbrev pub source_of : Parsed → SourceFunction
source_of p = record { function = p.func; substitutions = p.subs; exposure = p.exposure }

-- a passed function with a source that was read
abbrev pub passed_of : Parsed → (function : Function) → (substitutions : List DebugSubstitution) → PassedFunction
passed_of p f subs = record { source = source_of p; function = f; substitutions = subs }

-- ---- linear scan, which runs before the passes, without a name of its own

-- the steps that make a function, by what it exposes
abbrev pub ExposedSteps : Type 1
ExposedSteps = Exposure → List PassStep

-- the steps of linear scan, and those of each pass. `reserve` is the registers that may be spilled; linear scan gives none of them
unfoldable pub passes_of : (reserve : List ℕ) → List PassKind → Exposure → List (List PassStep)
passes_of reserve passes exposure = scan_steps reserve ∷ exposed_passes reserve passes exposure

-- all these steps, in order
unfoldable pub steps_of : (reserve : List ℕ) → List PassKind → ExposedSteps
steps_of reserve passes exposure = joined (passes_of reserve passes exposure)

-- these steps, one after the other, made the function from its source
pub record IsMadeBy (steps : ExposedSteps) (p : PassedFunction) : Type 0 where
  pub losses : List Loss
  pub kept : KeepsSteps (steps p.source.exposure) (change p.source.function p.source.substitutions p.function p.substitutions) losses

-- Linear scan leaves no virtual register in a function that was read.
pub record GetsRegisters (reserve : List ℕ) (q : Parsed) : Type 0 where
  pub function : Function
  pub substitutions : List DebugSubstitution
  pub made : IsMadeBy (λ exposure. scan_steps reserve) (passed_of q function substitutions)
  pub physical : IsPhysical function

-- A function that was read names a virtual register, and linear scan leaves one in it.
pub record LeavesVirtual (reserve : List ℕ) (q : Parsed) : Type 0 where
  pub named : IsPhysical q.func → ⊥
  pub function : Function
  pub substitutions : List DebugSubstitution
  pub made : IsMadeBy (λ exposure. scan_steps reserve) (passed_of q function substitutions)
  pub virtual : IsPhysical function → ⊥

-- ---- passes

-- Linear scan and the passes, one after the other, made the function from its source, and report these losses: those of their steps, and the registers that
-- spilling leaves in a function that exposes everything.
pub record IsMadeLosing (reserve : List ℕ) (passes : List PassKind) (p : PassedFunction) (told : List Loss) : Type 0 where
  pub of_steps : List Loss
  pub kept : KeepsPasses (passes_of reserve passes p.source.exposure)
      (change p.source.function p.source.substitutions p.function p.substitutions) of_steps
  pub are : told ≡ of_steps ++ left_exposed reserve passes p.source.exposure p.function

-- The function refines its source, has what every pass preserves, has debug values only of the source's parts of variables, and has a printable
-- listing.
pub record IsCompilable (meta : Maps) (p : PassedFunction) : Type 0 where
  pub passed : IsPassedFunction p
  pub shown : KeepsShown p.source.function p.function
  pub printable : IsPrintableBody (inlined_in meta) p.function
  pub substitutions : All IsPrintableEntry p.substitutions
