-- What call frame information guarantees of a run of the machine: a debugger that applies the rules of the instruction at the counter
-- finds the values that registers had at the function's start (DWARF 5 section 6.4).
use Rattle.std.specs.Prelude.{◌≡◌, ◌⊎◌, ℕ, ◌+◌, ◌-◌, ◌%◌, ◌^◌, List, All, Option, Some, None, true, get_or}
use Rattle.mir_func.specs.declared.debug_substitution.OperandPair.{OperandPair}
use Rattle.mir_func.specs.Function.{Function}
use Rattle.mir_func.specs.Graph.{program_of}
use Rattle.mir_func.specs.Resolve.{resolve}
use Rattle.sem_mir.specs.Align.{Since}
use Rattle.sem_mir.specs.State.{State, spelled}
use Rattle.sem_machine.specs.Headline.{KEPT, StartsAt, MachineAlong, FailsBeforeLine}
use Rattle.sem_machine.specs.Image.{CodeLine, Image, line_at}
use Rattle.sem_machine.specs.Machine.{Machine, machine_start, register}
use Rattle.dwarf_frame.specs.declared.table.RegisterRule.{RegisterRule}
use Rattle.dwarf_frame.specs.declared.table.RegisterRule.TheVariants.{SameValue, Below, FrameAddress, Undefined}
use Rattle.dwarf_frame.specs.declared.table.UnwindingRules.{UnwindingRules}
use Rattle.dwarf_frame.specs.Rows.{RulesAt}
use Rattle.listing_text.specs.declared.output.Output.{Output}
use Rattle.compile_theorem.specs.listing_meaning.Program.{image_of}
use Rattle.compile_theorem.specs.Source.{SourceFunction, OfEach}

-- the canonical frame address: x2 and the offset. Addresses wrap at 64 bits
abbrev pub frame_address : UnwindingRules → Machine → ℕ
frame_address rules m = (register m 2 + rules.cfa_offset) % 2 ^ 64

-- the value that the rule of a register finds, with the canonical frame address
abbrev pub found_by : RegisterRule → (cfa : ℕ) → Machine → (register : ℕ) → Option ℕ
found_by SameValue cfa m r = Some (register m r)
found_by (Below distance) cfa m r = Some (spelled m.memory (((cfa + 2 ^ 64) - distance) % 2 ^ 64) 8)
found_by FrameAddress cfa m r = Some cfa
found_by Undefined cfa m r = None

-- the value that the rules find for a register
abbrev pub found : UnwindingRules → Machine → (register : ℕ) → Option ℕ
found rules m r = found_by (get_or rules.registers r Undefined) (frame_address rules m) m r

-- the section has rules for the instruction at the counter of m, and by them the stack pointer, the return address and the callee-saved
-- registers have the values that they had in m0
pub record Unwinds (undefined section : List ℕ) (m0 m : Machine) : Type 0 where
  pub rules : UnwindingRules
  pub has : RulesAt undefined section m.counter rules
  pub values : All (λ r. found rules m r ≡ Some (register m0 r)) KEPT

-- The sentence, of a source and its image: from every start, for every script of answers and every number of steps, each time the machine
-- comes to a line, the section unwinds to the start, unless the source stops on a frame fault before the line.
abbrev pub AlwaysUnwinds : (undefined section : List ℕ) → Function → (OperandPair → Option OperandPair) → Image → Type 0
AlwaysUnwinds undefined section source resolve image = (s0 : State) → StartsAt source s0 → (m : Machine) (s : State) (since : Since) (l : CodeLine) →
    MachineAlong (program_of true source.blocks resolve) image (machine_start image s0) s0 m s since → line_at image.lines m.counter ≡ Some l →
    Unwinds undefined section (machine_start image s0) m ⊎ FailsBeforeLine (program_of true source.blocks resolve) l since s

-- it holds of each source and its part of an output
abbrev pub AllUnwind : (undefined section : List ℕ) → List SourceFunction → Output → Type 0
AllUnwind undefined section sources o =
    OfEach (λ s f. AlwaysUnwinds undefined section s.function (resolve s.substitutions) (image_of o f)) sources o.functions
