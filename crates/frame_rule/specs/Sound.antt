-- Frame lowering of a sound function.
use Rattle.std.specs.Prelude.{◌≤◌}
use Rattle.mir_func.specs.Function.{Function}
use Rattle.mir_func.specs.Limits.{MAX_FRAME}
use Rattle.mir_func.specs.Sound.{AllItems, IsSound}
use Rattle.mir_func.specs.SoundFrame.{HasPhysical, IsFramed}
use Rattle.frame_rule.specs.Rule.{reach_of, framed_of}

-- a sound function without virtual registers, whose frame and arguments on the stack don't reach too far, satisfies `IsFramed` after frame lowering
abbrev pub LoweredIsFramed : Type 0
LoweredIsFramed = (f : Function) → IsSound f → AllItems (λ i. HasPhysical i.kind) f.blocks → reach_of f ≤ MAX_FRAME → IsFramed (framed_of f)
