-- The runs of machine code and of its source stay in lockstep.
use Rattle.std.specs.Prelude.{◌≡◌, ℕ, ◌≤◌, List, All, Option, None, true}
use Rattle.rv64_instr.specs.declared.place.Place.{Place}
use Rattle.mir_func.specs.declared.debug_substitution.OperandPair.{OperandPair}
use Rattle.mir_func.specs.declared.variable.VarId.{VarId}
use Rattle.mir_func.specs.Function.{Function}
use Rattle.mir_func.specs.Graph.{program_of}
use Rattle.sem_mir.specs.State.{State}
use Rattle.sem_mir.specs.Step.{Went, Faulted, run}
use Rattle.dwarf_loclists.specs.declared.range.Range.{Range}
use Rattle.sem_machine.specs.Headline.{Headline}
use Rattle.sem_machine.specs.Image.{Image}
use Rattle.emit_code.specs.declared.code.EncodedInstruction.{EncodedInstruction}
use Rattle.emit_code.specs.Laid.{LaidCode}
use Rattle.selftest_count.specs.sim_machine.Shown.{ShowsCode, entry_call}
use Rattle.selftest_count.specs.Apart.{MAX_SOURCE_STEPS}
use Rattle.selftest_count.specs.Runs.{BeginsSource, GoApart}

-- no run of the source from the start without arguments stops on a frame fault
abbrev pub HasNoFault : Function → (OperandPair → Option OperandPair) → Type 0
HasNoFault source resolve = (s : State) → BeginsSource source s → (n : ℕ) → run (program_of true source.blocks resolve) n s ≡ Faulted → ⊥

-- no item of the code's entries is a call
abbrev pub HasNoCall : LaidCode → Type 0
HasNoCall c = All (λ (e : EncodedInstruction). entry_call c.framed e ≡ None) c.entries

-- the source's run from a state makes at least 2^64 - 1 steps
pub record RunsLongFrom (source : Function) (resolve : OperandPair → Option OperandPair) (s : State) : Type 0 where
  pub steps : ℕ
  pub many : MAX_SOURCE_STEPS ≤ steps
  pub to : State
  pub goes : run (program_of true source.blocks resolve) steps s ≡ Went to

-- the source's run from the start without arguments makes at least 2^64 - 1 steps
abbrev pub RunsLong : Function → (OperandPair → Option OperandPair) → Type 0
RunsLong source resolve = (s : State) → BeginsSource source s → RunsLongFrom source resolve s

-- If the headline holds of an image of the code, the code has no calls and the source no frame fault, then the runs diverge only if the source makes
-- at least 2^64 - 1 steps.
abbrev pub RunsGoTogether : (gives : VarId → (address : ℕ) → Place → Type 0) → Type 0
RunsGoTogether gives = (source : Function) (resolve : OperandPair → Option OperandPair) (image : Image) (c : LaidCode) (lists : List (List Range))
    (parts : List VarId) (limit : ℕ) → Headline source resolve image gives → ShowsCode c image → HasNoFault source resolve → HasNoCall c →
    GoApart source resolve c lists parts limit → RunsLong source resolve
