-- The value of x2, by the position alone.
use Rattle.std.specs.Prelude.{◌≡◌, ℕ, ◌-◌, Bool, cond, ◌&&◌, ◌||◌, nat_eq}
use Rattle.mir_func.specs.declared.position.Pos.{Pos}
use Rattle.mir_func.specs.Function.{FramedFunction}
use Rattle.mir_func.specs.Graph.{is_return}
use Rattle.sem_mir.specs.State.{Core}
use Rattle.sem_mir.specs.Step.{read}
use Rattle.machine_steps_proof.specs.Laid.{fetched}

-- x2 has its value at entry: at the start of the prologue, and where control leaves back to the caller
abbrev pub is_as_at_entry : FramedFunction → Pos → Bool
is_as_at_entry f p = (nat_eq p.block 0 && nat_eq p.item 0) || is_return (fetched f p)

-- the bytes by which x2 is below its value at entry
abbrev pub lowered_by : FramedFunction → Pos → ℕ
lowered_by f p = cond (is_as_at_entry f p) 0 f.size

-- x2 has this value
abbrev pub IsPointerAt : FramedFunction → Pos → Core → Type 0
IsPointerAt f p c = read c 2 ≡ c.entry - lowered_by f p
