-- An allocation by which the function's code may be rewritten.
use Rattle.std.specs.Prelude.{◌≡◌, ℕ, ◌<◌, ◌≤◌, Contains, Option, Some, None, true}
use Rattle.rv64_instr.specs.declared.place.Place.TheVariants.{Register}
use Rattle.rv64_instr.specs.Instruction.{Instruction}
use Rattle.rv64_instr.specs.Row.{Moves, row_of, implicit_uses}
use Rattle.rv64_instr.specs.DefsAndUses.{reads}
use Rattle.rv64_instr.specs.LocationEffects.{has_implicit_uses}
use Rattle.mir_func.specs.declared.position.Pos.{Pos}
use Rattle.mir_func.specs.declared.position.Origin.TheVariants.{Before}
use Rattle.mir_func.specs.declared.item.Item.{Item}
use Rattle.mir_func.specs.declared.item.ItemKind.TheVariants.{Code}
use Rattle.mir_func.specs.Graph.{Program, Here}
use Rattle.scan_intervals.specs.sem_mir.Live.{Defines}
use Rattle.scan_intervals.specs.pass_liveness.Liveness.{LivePast}

-- a register, or the one that replaces it
abbrev pub now_by : ℕ → Option ℕ → ℕ
now_by r None = r
now_by r (Some given) = given

-- the register in which the value of r is
abbrev pub now : (given : ℕ → Option ℕ) → ℕ → ℕ
now given r = now_by r (given r)

-- Virtual registers get physical ones that may be allocated, so none of x0 to x4 (RISC-V ELF psABI: gp and tp are unallocatable). Where code
-- sets a register, each other register that is live after it, unless the code sets that too, is in another place (Chaitin: interference).
-- A copy stays one between two registers. And no register gets one that a call or a return reads by an implicit operand, or that code reads which
-- a pass added
pub record IsColoring (g : Program) (given : ℕ → Option ℕ) : Type 0 where
  pub real : (r q : ℕ) → given r ≡ Some q → (32 ≤ r) × (4 < q) × (q < 32)
  pub apart : (p : Pos) (s r : ℕ) → Defines (g.fetch p) (Register s) → (Defines (g.fetch p) (Register r) → ⊥) → LivePast g (Register r) p →
      now given s ≡ now given r → ⊥
  pub copies : (p : Pos) (i : Item) (code : Instruction) (k : Option ℕ) (rd rs : ℕ) → g.fetch p ≡ Here i → i.kind ≡ Code code k →
      row_of code ≡ Moves rd rs → (rd ≡ rs → ⊥) → now given rd ≡ now given rs → ⊥
  pub implicit : (p : Pos) (i : Item) (code : Instruction) (k : Option ℕ) → g.fetch p ≡ Here i → i.kind ≡ Code code k →
      has_implicit_uses (row_of code) ≡ true → (r : ℕ) → Contains (implicit_uses code.operands) r → given r ≡ None
  pub added : (p : Pos) (i : Item) (code : Instruction) (k : Option ℕ) (o : Pos) → g.fetch p ≡ Here i → i.kind ≡ Code code k →
      i.origin ≡ Before o → (r : ℕ) → Contains (reads (row_of code)) r → given r ≡ None
