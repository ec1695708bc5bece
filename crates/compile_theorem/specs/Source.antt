-- The functions of an output: the sources that were read, and the functions that passes made of them.
use Rattle.std.specs.Prelude.{◌≡◌, ℕ, List, length, map, Some, slice_get, Contains}
use Rattle.mir_exposure.specs.declared.exposure.Exposure.{Exposure}
use Rattle.mir_func.specs.declared.debug_substitution.DebugSubstitution.{DebugSubstitution}
use Rattle.mir_func.specs.declared.item.ItemKind.{ItemKind}
use Rattle.mir_func.specs.declared.item.ItemKind.TheVariants.{Code, Mark, Phi}
use Rattle.mir_func.specs.declared.variable.VarId.{VarId}
use Rattle.mir_func.specs.Function.{Function}
use Rattle.mir_func.specs.Resolve.{resolve}
use Rattle.mir_func.specs.Sound.{AllItems, IsSound, HasForm}
use Rattle.mir_func.specs.SoundFrame.{HasPhysical}
use Rattle.sem_mir.specs.Follow.{IsRead}
use Rattle.machine_proof.specs.Followers.{IsFollower}
use Rattle.listing_text.specs.declared.output.ListedFunction.{ListedFunction}
use Rattle.dwarf_unit.specs.Variables.{whole, variables_of_function}

-- a source function: as it was read, with its debug value substitutions and what it exposes to other code
pub record SourceFunction : Type 0 where
  pub function : Function
  pub substitutions : List DebugSubstitution
  pub exposure : Exposure

-- What a source function satisfies: the origin of each item is its own position, the operands of code have the form of the opcode, registers are
-- physical, and the function is sound.
pub record IsSourceFunction (source : SourceFunction) : Type 0 where
  pub read : IsRead source.function.blocks
  pub form : AllItems (λ i. HasForm i.kind) source.function.blocks
  pub physical : AllItems (λ i. HasPhysical i.kind) source.function.blocks
  pub sound : IsSound source.function

-- a source, and the function and substitutions that passes made of it
pub record PassedFunction : Type 0 where
  pub source : SourceFunction
  pub function : Function
  pub substitutions : List DebugSubstitution

-- a source compiled without passes
abbrev pub unpassed : SourceFunction → PassedFunction
unpassed source = record { source = source; function = source.function; substitutions = source.substitutions }

-- the sources of these functions
abbrev pub sources_among : List PassedFunction → List SourceFunction
sources_among functions = map (λ p. p.source) functions

-- if the item is a debug value, the whole variable that it is for is in the list
abbrev pub MarksOneOf : List VarId → ItemKind → Type 0
MarksOneOf variables (Mark v m) = Contains variables (whole v)
MarksOneOf variables (Code i k) = Unit {0}
MarksOneOf variables (Phi p k) = Unit {0}

-- What every list of passes preserves: the function refines its source, keeps its name, has only physical registers, and has debug values only for
-- variables that the source has debug values for.
pub record IsPassedFunction (p : PassedFunction) : Type 0 where
  pub follower : IsFollower p.source.function p.function (resolve p.source.substitutions) (resolve p.substitutions)
  pub name : p.function.name ≡ p.source.function.name
  pub physical : AllItems (λ i. HasPhysical i.kind) p.function.blocks
  pub marks : AllItems (λ i. MarksOneOf (variables_of_function p.source.function.blocks) i.kind) p.function.blocks

-- The two lists have the same length, and P holds of the n-th elements of both.
pub record OfEach {X : Type 0} (P : X → ListedFunction → Type 0) (functions : List X) (listed : List ListedFunction) : Type 0 where
  pub as_many : length listed ≡ length functions
  pub each : (n : ℕ) (x : X) (f : ListedFunction) → slice_get functions n ≡ Some x → slice_get listed n ≡ Some f → P x f
