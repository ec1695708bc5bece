-- The statements of the theorems on generated functions.
use Rattle.std.specs.Prelude.{◌≡◌, ℕ, ◌≤◌, Option, None, true}
use Rattle.mir_func.specs.declared.debug_substitution.OperandPair.{OperandPair}
use Rattle.mir_func.specs.declared.item.ItemKind.{ItemKind}
use Rattle.mir_func.specs.declared.item.ItemKind.TheVariants.{Code, Mark, Phi}
use Rattle.mir_func.specs.Function.{Function}
use Rattle.mir_func.specs.Graph.{program_of}
use Rattle.mir_func.specs.Sound.{AllItems}
use Rattle.sem_mir.specs.InitialState.{first_of, IsInitialState}
use Rattle.sem_mir.specs.State.{State}
use Rattle.sem_mir.specs.Step.{Faulted, run}
use Rattle.gen_function.specs.Generator.{generated}

-- No run of the function from a start stops on a frame fault, whatever its debug value substitutions are.
abbrev pub NeverFaults : Function → (OperandPair → Option OperandPair) → Type 0
NeverFaults f resolve = (s : State) → IsInitialState f.objects (first_of f.blocks) s → (n : ℕ) → run (program_of true f.blocks resolve) n s ≡ Faulted → ⊥

-- No run of a generated function stops on a frame fault.
abbrev pub GeneratedRunsDontFault : Type 0
GeneratedRunsDontFault = (number count : ℕ) → 1 ≤ count → count ≤ 512 → (resolve : OperandPair → Option OperandPair) →
    NeverFaults (generated number count) resolve

-- a debug value is for a whole variable
abbrev pub MarksWhole : ItemKind → Type 0
MarksWhole (Mark v m) = v.fragment ≡ None
MarksWhole (Code i k) = Unit {0}
MarksWhole (Phi p k) = Unit {0}

-- All debug values of generated functions are for whole variables.
abbrev pub GeneratedFunctionsMarkWholes : Type 0
GeneratedFunctionsMarkWholes = (number count : ℕ) → 1 ≤ count → count ≤ 512 → AllItems (λ i. MarksWhole i.kind) (generated number count).blocks
