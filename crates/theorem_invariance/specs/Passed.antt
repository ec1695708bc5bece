-- Functions after linear scan and the same passes, from functions that may differ in their debug items.
use Rattle.std.specs.Prelude.{◌≡◌, ℕ, List}
use Rattle.mir_exposure.specs.declared.exposure.Exposure.{Exposure}
use Rattle.mir_func.specs.declared.debug_substitution.DebugSubstitution.{DebugSubstitution}
use Rattle.mir_func.specs.Function.{Function}
use Rattle.mir_func.specs.Strip.{stripped}
use Rattle.emit_code.specs.Rule.{Layout}
use Rattle.pass_trait.specs.declared.loss.Loss.{Loss}
use Rattle.pass_trait.specs.Change.{change}
use Rattle.pass_trait.specs.Steps.{MakesInTurn, KeepsSteps, MakeCodeAlone}
use Rattle.invariance_code.specs.Alike.{HaveAlikeCode, HaveSameCode}
use Rattle.compile_theorem.specs.Source.{SourceFunction}
use Rattle.pass_list.specs.declared.kind.PassKind.{PassKind}
use Rattle.tool_driver.specs.Program.{steps_of}
use Rattle.theorem_invariance.specs.Text.{IsLaid, AreLaid, OneByOne}
use Rattle.invariance_code.specs.Alone.{AreCodedAlike, AreCodedSame}

-- Linear scan and the list of passes made the function of the source, with some substitutions and some losses. `reserve` is the registers that may be
-- spilled.
pub record IsPassed (reserve : List ℕ) (passes : List PassKind) (s : SourceFunction) (g : Function) : Type 0 where
  pub substitutions : List DebugSubstitution
  pub losses : List Loss
  pub kept : KeepsSteps (steps_of reserve passes s.exposure) (change s.function s.substitutions g substitutions) losses

-- The machine code is that of a function that the passes' rules for code make of `code`, a function without debug items that exposes this much.
pub record IsMadeOf (reserve : List ℕ) (passes : List PassKind) (exposure : Exposure) (code : Function) (base : ℕ) (l : Layout) : Type 0 where
  pub made : Function
  pub by_passes : MakesInTurn (steps_of reserve passes exposure) code made
  pub layout : Layout
  pub laid : IsLaid made base layout
  pub coded : AreCodedSame l layout

-- The machine code after passes depends only on the code of the function before them and on what it exposes.
abbrev pub PassedIsMadeOfCode : Type 0
PassedIsMadeOfCode = (reserve : List ℕ) (passes : List PassKind) (s : SourceFunction) (g : Function) (base : ℕ) (l : Layout) →
    IsPassed reserve passes s g → IsLaid g base l → IsMadeOf reserve passes s.exposure (stripped s.function) base l

-- The code after passes depends only on the code before them.
abbrev pub PassesMakeCodeAlone : Type 0
PassesMakeCodeAlone = (reserve : List ℕ) (passes : List PassKind) (exposure : Exposure) → MakeCodeAlone (steps_of reserve passes exposure)

-- two sources expose the same and have equal code up to positions
abbrev pub AreSourcesAlike : SourceFunction → SourceFunction → Type 0
AreSourcesAlike s t = (s.exposure ≡ t.exposure) × HaveAlikeCode s.function t.function

-- two sources expose the same and have equal code and origins
abbrev pub AreSourcesSame : SourceFunction → SourceFunction → Type 0
AreSourcesSame s t = (s.exposure ≡ t.exposure) × HaveSameCode s.function t.function

-- From sources with pairwise equal code up to positions, the same passes make functions with the same `.text`, and pairwise equal machine code up
-- to positions.
abbrev pub PassedHasSameText : Type 0
PassedHasSameText = (reserve : List ℕ) (passes : List PassKind) (ss ts : List SourceFunction) (new others : List Function) (base : ℕ)
    (text other : List ℕ) (ls ms : List Layout) →
    OneByOne AreSourcesAlike ss ts → OneByOne (IsPassed reserve passes) ss new → OneByOne (IsPassed reserve passes) ts others →
    AreLaid base text new ls → AreLaid base other others ms → (text ≡ other) × OneByOne AreCodedAlike ls ms

-- From sources with pairwise equal code and origins, the same passes make functions with the same `.text`, and pairwise equal machine code with its
-- origins.
abbrev pub PassedHasSameCode : Type 0
PassedHasSameCode = (reserve : List ℕ) (passes : List PassKind) (ss ts : List SourceFunction) (new others : List Function) (base : ℕ)
    (text other : List ℕ) (ls ms : List Layout) →
    OneByOne AreSourcesSame ss ts → OneByOne (IsPassed reserve passes) ss new → OneByOne (IsPassed reserve passes) ts others →
    AreLaid base text new ls → AreLaid base other others ms → (text ≡ other) × OneByOne AreCodedSame ls ms
