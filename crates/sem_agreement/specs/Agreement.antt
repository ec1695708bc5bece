-- Agreement of two states on a set of locations, of which the second may have fewer debug values.
use Rattle.std.specs.Prelude.{◌≡◌, ◌⊎◌, ℕ, Option, Some, None, true, false, slice_get}
use Rattle.sem_simulation.specs.rv64_instr.declared.place.Place.{Place}
use Rattle.sem_simulation.specs.rv64_instr.declared.place.Place.TheVariants.{Register}
use Rattle.sem_simulation.specs.rv64_instr.Instruction.{Instruction}
use Rattle.sem_simulation.specs.rv64_instr.Row.{row_of}
use Rattle.sem_simulation.specs.rv64_instr.LocationEffects.{is_call, uses_of, defines_of}
use Rattle.sem_simulation.specs.mir_func.declared.item.ItemKind.{ItemKind}
use Rattle.sem_simulation.specs.mir_func.declared.item.ItemKind.TheVariants.{Code, Mark, Phi}
use Rattle.sem_simulation.specs.mir_func.declared.variable.VarId.{VarId}
use Rattle.sem_simulation.specs.mir_func.declared.variable.MarkValue.{MarkValue}
use Rattle.sem_simulation.specs.mir_func.declared.variable.MarkValue.TheVariants.{Nothing, Constant, At, Pair}
use Rattle.sem_simulation.specs.mir_func.Graph.{Program}
use Rattle.sem_simulation.specs.sem_mir.State.{Core, assigned}
use Rattle.sem_simulation.specs.sem_mir.Step.{defined, pair_value}
use Rattle.sem_simulation.specs.sem_mir.Effects.{held_in, SameWorld}

-- the cores agree on memory, script and events, and each of these locations has the same content in both,
-- or is unwritten in both
pub record AgreeOn (Held : Place → Type 0) (c d : Core) : Type 0 where
  pub world : SameWorld c d
  pub places : (x : Place) → Held x → held_in x c ≡ held_in x d

-- the values that d has, c has too: those of the pairs whose number isn't free, and of the variables
pub record DebugLessDef (Free : ℕ → Type 0) (c d : Core) : Type 0 where
  pub pairs : (k o : ℕ) → (Free k → ⊥) → (v : ℕ) → d.pairs k o ≡ Some v → c.pairs k o ≡ Some v
  pub marks : (w : VarId) (v : ℕ) → assigned w d.marks ≡ Some v → assigned w c.marks ≡ Some v

-- both together
pub record Alike (Held : Place → Type 0) (Free : ℕ → Type 0) (c d : Core) : Type 0 where
  pub held : AgreeOn Held c d
  pub told : DebugLessDef Free c d

-- the locations that agree after code that ran in both: those that it defines agree too
abbrev pub GenDefs : (Place → Type 0) → Instruction → Place → Type 0
GenDefs Held i x = (defines_of (row_of i) x ≡ true) ⊎ Held x

-- the locations that agree after code that ran in one alone: those that it defines agree no longer
abbrev pub KillDefs : (Place → Type 0) → Instruction → Place → Type 0
KillDefs Held i x = (defines_of (row_of i) x ≡ false) × Held x

-- the locations that agree after an item that ran in both
abbrev pub HeldAfter : (Place → Type 0) → ItemKind → Place → Type 0
HeldAfter Held (Code i n) = GenDefs Held i
HeldAfter Held (Mark v m) = Held
HeldAfter Held (Phi p k) = Held

-- the registers that code's operands define under its debug instruction number agree after the code
abbrev pub NumbersHeld : (Place → Type 0) → Instruction → Option ℕ → Type 0
NumbersHeld Held i None = Unit {0}
NumbersHeld Held i (Some k) = (o r : ℕ) → defined (is_call (row_of i)) (slice_get i.operands o) ≡ Some r → GenDefs Held i (Register r)

-- the register that a mark of this value reads agrees, or g's pair has no value but f's
abbrev pub ValueHeld : Program → Program → (Place → Type 0) → MarkValue → Core → Core → Type 0
ValueHeld f g Held Nothing c d = Unit {0}
ValueHeld f g Held (Constant z) c d = Unit {0}
ValueHeld f g Held (At r) c d = Held (Register r)
ValueHeld f g Held (Pair q) c d = (v : ℕ) → pair_value (g.resolve q) d ≡ Some v → pair_value (f.resolve q) c ≡ Some v

-- the location that a phi reads agrees
abbrev pub PlaceHeld : (Place → Type 0) → Option Place → Type 0
PlaceHeld Held None = Unit {0}
PlaceHeld Held (Some x) = Held x

-- all that an item depends on agrees
abbrev pub Depends : Program → Program → (Place → Type 0) → ItemKind → Core → Core → Type 0
Depends f g Held (Code i n) c d = ((x : Place) → uses_of i x ≡ true → Held x) × NumbersHeld Held i n
Depends f g Held (Mark v m) c d = ValueHeld f g Held m c d
Depends f g Held (Phi p k) c d = PlaceHeld Held p
