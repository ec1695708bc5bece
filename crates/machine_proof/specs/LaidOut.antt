-- The statement `Headline` for a function that simulates a source, with its frame, its layout and its location lists.
use Rattle.std.specs.Prelude.{◌≡◌, ℕ, ◌<◌, ◌≤◌, Option}
use Rattle.rv64_instr.specs.declared.place.Place.{Place}
use Rattle.mir_func.specs.declared.debug_substitution.OperandPair.{OperandPair}
use Rattle.mir_func.specs.declared.variable.VarId.{VarId}
use Rattle.mir_func.specs.Function.{Function}
use Rattle.mir_func.specs.Graph.{framed_program}
use Rattle.mir_func.specs.Limits.{MAX_FRAME}
use Rattle.mir_func.specs.Sound.{AllItems, IsSound, HasForm}
use Rattle.mir_func.specs.SoundFrame.{HasPhysical}
use Rattle.sem_mir.specs.Follow.{IsRead}
use Rattle.sem_machine.specs.Headline.{Headline}
use Rattle.sem_machine.specs.Image.{Image}
use Rattle.emit_code.specs.Counts.{MAX_WORDS, MAX_BASE, count_of}
use Rattle.emit_code.specs.Laid.{IsWorded}
use Rattle.emit_code.specs.Rule.{Layout}
use Rattle.frame_rule.specs.Rule.{reach_of, framed_of}
use Rattle.machine_proof.specs.Followers.{IsFollower}
use Rattle.machine_steps_proof.specs.Images.{IsImageOf}
use Rattle.machine_proof.specs.Lists.{GiveSitting}
use Rattle.machine_proof.specs.Entries.{IsEntryAt}

-- an image of the function's layout with its frame
pub record IsImageOfFunction (f : Function) (image : Image) : Type 0 where
  pub layout : Layout
  pub framed : layout.framed ≡ framed_of f
  pub low : layout.base < MAX_BASE
  pub few : count_of layout.framed.blocks < MAX_WORDS
  pub worded : IsWorded layout
  pub laid : IsImageOf layout image

-- If lists name a place only where it is required at the entry's point, the image of each function that simulates a source
-- satisfies the source's `Headline`: at each line that the machine reaches, the source reaches the line's origin with the same
-- events and results, unless it stops on a frame fault before; listed places hold the newest assignment, and a return preserves
-- the registers `KEPT`; and the machine stops only where its run ends, or at a call without an answer.
abbrev pub ImagesMeetTheHeadline : (lists : VarId → (address : ℕ) → Place → Type 0) → Type 0
ImagesMeetTheHeadline lists = (source f : Function) (resolve fresolve : OperandPair → Option OperandPair) (image : Image) →
    IsFollower source f resolve fresolve → AllItems (λ i. HasPhysical i.kind) f.blocks → reach_of f ≤ MAX_FRAME → (is : IsImageOfFunction f image) →
    GiveSitting (framed_program (framed_of f).blocks fresolve) (IsEntryAt is.layout) lists → Headline source resolve image lists

-- So does the image of a source as it was read, with its frame and its layout.
abbrev pub SourcesMeetTheHeadline : (lists : VarId → (address : ℕ) → Place → Type 0) → Type 0
SourcesMeetTheHeadline lists = (source : Function) (resolve : OperandPair → Option OperandPair) (image : Image) → IsRead source.blocks →
    AllItems (λ i. HasForm i.kind) source.blocks → AllItems (λ i. HasPhysical i.kind) source.blocks → IsSound source → reach_of source ≤ MAX_FRAME →
    (is : IsImageOfFunction source image) → GiveSitting (framed_program (framed_of source).blocks resolve) (IsEntryAt is.layout) lists →
    Headline source resolve image lists
