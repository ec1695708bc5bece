-- The value that the machine has in a place with a token.
use Rattle.std.specs.Prelude.{◌≡◌, ℕ, Option, Some}
use Rattle.rv64_instr.specs.declared.place.Place.{Place}
use Rattle.mir_func.specs.declared.debug_substitution.OperandPair.{OperandPair}
use Rattle.mir_func.specs.declared.position.Pos.{Pos}
use Rattle.mir_func.specs.Function.{FramedFunction}
use Rattle.mir_func.specs.Graph.{block_start, framed_program}
use Rattle.mir_func.specs.SoundFrame.{IsFramed}
use Rattle.sem_mir.specs.State.{Core}
use Rattle.sem_mir.specs.ValueId.{Token, Tokens, place_token, Path}
use Rattle.sem_value_ids.specs.Trace.{Names}
use Rattle.sem_simulation.specs.Words.{SameCode}
use Rattle.sem_machine.specs.Machine.{Machine, place_content}
use Rattle.machine_steps_proof.specs.Beside.{Beside}
use Rattle.machine_steps_proof.specs.Pointer.{IsPointerAt}

-- On each path of a function with its frame, a place with a token holds at the machine the value that the token names. c is a
-- core at the path's end that agrees with its tokens (`Names`), d has the same registers, slots and memory as c, and the machine
-- matches d.
abbrev pub PlacesHold : Type 0
PlacesHold = (f : FramedFunction) → IsFramed f → (resolve : OperandPair → Option OperandPair) (n : ℕ) (p : Pos) (t : Tokens) →
    Path (framed_program f.blocks resolve) (block_start 0) n p t → (value : Token → ℕ) (c d : Core) → Names value t c → SameCode d c →
    (m : Machine) → Beside f d m → IsPointerAt f p d → (place : Place) (k : Token) → place_token (Some place) t ≡ Some k → place_content place m ≡ value k
