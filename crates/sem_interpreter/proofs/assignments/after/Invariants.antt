use Rattle.std.proofs.Common.{◌≡◌, List, ◌∷◌, ◌++◌, Option, ℕ, false, drop}
use Rattle.mir_func.specs.Parts.{Bytes}
use Rattle.mir_func.specs.Variables.{do_meet}
use Rattle.sem_interpreter.specs.Assigned.{part_in}
use Rattle.sem_interpreter.proofs.assignments.after.Given as goal

abbrev pub invariant-loop-old : goal.invariant-loop-old
invariant-loop-old l = (kept : List (Option Bytes × Option ℕ)) × (l.made ≡ (l.part, l.fn.value) ∷ kept) ×
    ((b : Option Bytes) → do_meet b l.part ≡ false → part_in b (kept ++ drop l.old-index l.parts) ≡ part_in b l.parts)
