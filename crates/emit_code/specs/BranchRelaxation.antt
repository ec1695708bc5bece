-- Branch relaxation: the least set of long conditional branches in which every branch out of reach is long.
use Rattle.std.specs.Prelude.{◌≡◌, ℕ, pos, negsuc, ◌-ℤ◌, Bool, true, false, cond}
use Rattle.rv64_instr.specs.Form.{is_within}
use Rattle.mir_func.specs.declared.exit.Exit.TheVariants.{Perhaps}
use Rattle.mir_func.specs.declared.item.Item.{Item}
use Rattle.mir_func.specs.declared.position.Pos.{Pos}
use Rattle.mir_func.specs.Exits.{exit_of}
use Rattle.mir_func.specs.Function.{FramedFunction}
use Rattle.mir_func.specs.Graph.{Here, fetch_in}
use Rattle.mir_func.specs.Positions.{is_same_position}
use Rattle.std.specs.Prelude.{drop}
use Rattle.emit_code.specs.Rule.{Layout, address_in, start_of}

-- the item at a point is a conditional branch to a block
pub record IsBranchTo (f : FramedFunction) (p : Pos) (block : ℕ) : Type 0 where
  pub item : Item
  pub stands : fetch_in (drop p.block f.blocks) p.item ≡ Here item
  pub goes : exit_of item.kind ≡ Perhaps block

-- the layout with the branch at a point short
abbrev pub with_short : Pos → Layout → Layout
with_short p l = record l { long = λ q. cond (is_same_position p q) false (l.long q) }

-- a short branch at this point reaches the block: the offset is a multiple of 2 of 13 bits (RISC-V Unprivileged ISA, "Conditional
-- Branches")
abbrev pub reaches_in : Layout → Pos → (block : ℕ) → Bool
reaches_in l p n = is_within (negsuc 4095) (pos 4094) (pos (start_of l n) -ℤ pos (address_in l p))

-- each conditional branch that, if short itself, doesn't reach its target is long
abbrev pub IsClosed : Layout → Type 0
IsClosed l = (p : Pos) (n : ℕ) → IsBranchTo l.framed p n → reaches_in (with_short p l) p n ≡ false → l.long p ≡ true

-- the least closed set of long branches: each one is long in every closed layout of the function
pub record IsSettled (l : Layout) : Type 0 where
  pub closed : IsClosed l
  pub least : (other : Pos → Bool) → IsClosed (record l { long = other }) → (p : Pos) → l.long p ≡ true → other p ≡ true
