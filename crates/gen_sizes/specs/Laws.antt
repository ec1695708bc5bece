-- The statements of the theorems on generated functions.
use Rattle.std.specs.Prelude.{ℕ, ◌≤◌, List}
use Rattle.pass_list.specs.declared.kind.PassKind.{PassKind}
use Rattle.compile_program.specs.Program.{HasVirtualRegister, HasLargeFrame, HasLargeSection, steps_of}
use Rattle.gen_program.specs.Program.{generated_program}

-- Linear scan leaves no virtual register in a generated function.
abbrev pub GeneratedHaveRegisters : Type 0
GeneratedHaveRegisters = (number count : ℕ) (reserve : List ℕ) → count ≤ 512 →
    HasVirtualRegister reserve (generated_program number count).functions → ⊥

-- No generated function has a frame above the limit after passes.
abbrev pub GeneratedFramesAreSmall : Type 0
GeneratedFramesAreSmall = (number count : ℕ) (reserve : List ℕ) (passes : List PassKind) →
    HasLargeFrame (steps_of reserve passes) (generated_program number count).functions → ⊥

-- No section of a generated function is above the limit after passes.
abbrev pub GeneratedSectionsAreSmall : Type 0
GeneratedSectionsAreSmall = (number count : ℕ) (reserve : List ℕ) (passes : List PassKind) → 1 ≤ count → count ≤ 512 →
    HasLargeSection (steps_of reserve passes) (generated_program number count) → ⊥
