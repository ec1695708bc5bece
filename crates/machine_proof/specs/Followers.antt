-- From a function that simulates a source to the machine's run, with its frame and its layout.
use Rattle.std.specs.Prelude.{◌≡◌, ℕ, Option}
use Rattle.rv64_instr.specs.declared.place.Place.{Place}
use Rattle.mir_func.specs.declared.debug_substitution.OperandPair.{OperandPair}
use Rattle.mir_func.specs.declared.variable.VarId.{VarId}
use Rattle.mir_func.specs.Function.{Function}
use Rattle.mir_func.specs.Graph.{framed_program}
use Rattle.mir_func.specs.Sound.{AllItems, IsSound, HasForm}
use Rattle.mir_func.specs.SoundFrame.{IsFramed}
use Rattle.sem_mir.specs.Follow.{IsRead, Follows}
use Rattle.sem_mir.specs.State.{State}
use Rattle.sem_machine.specs.Headline.{StartsAt, Headline}
use Rattle.sem_machine.specs.Image.{Image}
use Rattle.frame_rule.specs.Rule.{framed_of}
use Rattle.machine_steps_proof.specs.Laid.{IsLaidAt}
use Rattle.machine_proof.specs.Lists.{GiveSitting, IsPointAt}
use Rattle.machine_proof.specs.Runs.{GivesBackKept, start_beside}

-- f simulates the source, which is as it was read, and has its stack objects. f is sound, and all instructions of both have the
-- form of their opcode
pub record IsFollower (source f : Function) (resolve fresolve : OperandPair → Option OperandPair) : Type 0 where
  pub read : IsRead source.blocks
  pub source_form : AllItems (λ i. HasForm i.kind) source.blocks
  pub form : AllItems (λ i. HasForm i.kind) f.blocks
  pub sound : IsSound f
  pub objects : f.objects ≡ source.objects
  pub follows : Follows source.objects source.blocks f.blocks resolve fresolve

-- If lists name only places that have the value, and the function with its frame preserves the registers `KEPT`, the image that a simulating
-- function is laid in with its frame satisfies the source's `Headline`.
abbrev pub FollowersMeetTheHeadline : (lists : VarId → (address : ℕ) → Place → Type 0) → Type 0
FollowersMeetTheHeadline lists = (source f : Function) (resolve fresolve : OperandPair → Option OperandPair) (image : Image) →
    IsFollower source f resolve fresolve → IsFramed (framed_of f) →
    ((s : State) → StartsAt source s → GivesBackKept (framed_program (framed_of f).blocks fresolve) (start_beside s)) → (laid : IsLaidAt (framed_of f) image) →
    GiveSitting (framed_program (framed_of f).blocks fresolve) (IsPointAt (framed_of f) laid.address) lists → Headline source resolve image lists
