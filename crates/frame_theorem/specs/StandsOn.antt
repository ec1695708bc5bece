-- What a function with its frame keeps along its runs, from any state on: the frame stands.
use Rattle.std.specs.Prelude.{◌≡◌, ◌≤◌, ℕ, Contains, Option, Some, IsSome}
use Rattle.mir_func.specs.declared.debug_substitution.OperandPair.{OperandPair}
use Rattle.mir_func.specs.declared.position.Pos.{Pos}
use Rattle.mir_func.specs.Function.{Function}
use Rattle.mir_func.specs.Graph.{block_start, framed_program}
use Rattle.mir_func.specs.Limits.{MAX_FRAME}
use Rattle.mir_func.specs.Sound.{IsSound}
use Rattle.mir_func.specs.SoundFrame.{SAVED}
use Rattle.sem_mir.specs.State.{Core, State, content}
use Rattle.sem_mir.specs.Step.{Went, step}
use Rattle.frame_rule.specs.Rule.{framed_of, size_of}
use Rattle.frame_proof.specs.Stands.{FrameStands, IsEntered}

-- the frame stands at each state that steps lead to from here, whatever slots that aren't written get meanwhile
pub data StandsOn (f : Function) (resolve : OperandPair → Option OperandPair) (e : Core) : Pos → Core → Type 0 where
  start : StandsOn f resolve e (block_start 0) e
  stepped : (t u : State) → StandsOn f resolve e t.pos t.core → step (framed_program (framed_of f).blocks resolve) t ≡ Went u →
      StandsOn f resolve e u.pos u.core
  -- slots that weren't written have contents from now on, and what the state tells is something else
  filled : (p : Pos) (c d : Core) → d ≡ record c { slots = d.slots; pairs = d.pairs; marks = d.marks } →
      ((o v : ℕ) → c.slots o ≡ Some v → d.slots o ≡ Some v) → StandsOn f resolve e p c → StandsOn f resolve e p d

-- at all of them the frame stands, if the registers that a frame may save are written at entry
abbrev pub FrameStandsOn : Type 0
FrameStandsOn = (f : Function) (resolve : OperandPair → Option OperandPair) → IsSound f → size_of f ≤ MAX_FRAME → (e : Core) → IsEntered e →
    ((r : ℕ) → Contains SAVED r → IsSome (content e.regs r)) → (p : Pos) (d : Core) → StandsOn f resolve e p d → FrameStands (framed_of f) e p d
