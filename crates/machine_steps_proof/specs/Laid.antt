-- The code of a function with its frame in an image: each instruction's address, and the machine's step there.
use Rattle.std.specs.Prelude.{◌≡◌, ◌⊎◌, ℕ, suc, ◌+◌, drop, Option, Some, false, cond}
use Rattle.rv64_instr.specs.Instruction.{Instruction}
use Rattle.rv64_instr.specs.declared.op.BranchOp.{BranchOp}
use Rattle.rv64_instr.specs.Arithmetic.{taken}
use Rattle.rv64_instr.specs.Row.{Row, Fixes, Moves, Sets, Addresses, Loads, Stores, LoadsSlot, StoresSlot, Branches, Jumps, Calls, Returns, Unfit, row_of}
use Rattle.rv64_instr.specs.Row.{CallSite, Callee, Ending}
use Rattle.rv64_word.specs.Linked.{immediate_of}
use Rattle.rv64_word.specs.MachineRow.{placed}
use Rattle.rv64_instr.specs.LocationEffects.{object_named}
use Rattle.mir_func.specs.declared.exit.Exit.{Exit}
use Rattle.mir_func.specs.declared.exit.Exit.TheVariants.{Onward, Perhaps, Always, Final}
use Rattle.mir_func.specs.Exits.{row_exit}
use Rattle.mir_func.specs.declared.position.Pos.{Pos}
use Rattle.mir_func.specs.declared.position.Origin.TheVariants.{Before}
use Rattle.mir_func.specs.declared.item.Item.{Item}
use Rattle.mir_func.specs.declared.item.ItemKind.TheVariants.{Code}
use Rattle.mir_func.specs.Function.{FramedFunction}
use Rattle.mir_func.specs.Graph.{Fetch, Here, EndOfBlock, below, block_start, fetch_in, index_of}
use Rattle.mir_func.specs.Objects.{area_of}
use Rattle.mir_func.specs.SoundFrame.{body_of}
use Rattle.mir_func.specs.Positions.{position_of}
use Rattle.sem_mir.specs.Align.{is_code}
use Rattle.sem_machine.specs.Image.{CodeLine, Image, line_at}
use Rattle.sem_machine.specs.Machine.{Machine, register}
use Rattle.sem_machine.specs.MachineStep.{Continues, Ends, past, at, step_call, machine_step, called_at, passed, result_at, callee_size}
use Rattle.sem_machine.specs.MachineStep as machine
use Rattle.emit_code.specs.Rule.{object_offset}

-- the item, block end or nothing at a position of a function with its frame. The position's block is a block index
abbrev pub fetched : FramedFunction → Pos → Fetch
fetched f p = fetch_in (drop p.block f.blocks) p.item

-- the block that control goes to, perhaps or always, and 0 if it goes to none
abbrev pub exit_target : Exit → ℕ
exit_target Onward = 0
exit_target (Perhaps n) = n
exit_target (Always n) = n
exit_target Final = 0

-- the number of the block that an instruction of this row jumps or branches to, and 0 if it has no target
abbrev pub target_of : Row → ℕ
target_of row = exit_target (row_exit row)

module _ (f : FramedFunction) (image : Image) (address : Pos → ℕ) where
  -- the target address of a branch to the block with this number. The prologue is no target
  abbrev pub start_of : (block : ℕ) → ℕ
  start_of n = address (block_start (suc (index_of (body_of f.blocks) n)))

  -- one line with one word: the machine's step is that of the row, with the target's address, the stack object's offset and the immediate of a half of
  -- an address
  pub record HasWord (p : Pos) (i : Item) (r : Row) : Type 0 where
    pub line : CodeLine
    pub stands : line_at image.lines (address p) ≡ Some line
    pub origin : line.origin ≡ i.origin
    pub next : address (below p) ≡ address p + 4
    pub step : (m : Machine) → m.counter ≡ address p →
        machine_step image m ≡ machine.does (placed (start_of (target_of r)) (object_offset f (object_named r)) (immediate_of m.symbols r) r) m

  -- a long branch has two lines. At the first, whose origin is before the position, the machine steps over the second if the
  -- branch isn't taken, and to the second otherwise. At the second it jumps to the target
  pub record HasTwoWords (p : Pos) (i : Item) (op : BranchOp) (a b target : ℕ) : Type 0 where
    pub line : CodeLine
    pub jump_line : CodeLine
    pub stands : line_at image.lines (address p) ≡ Some line
    pub jump_stands : line_at image.lines (address p + 4) ≡ Some jump_line
    pub origin : line.origin ≡ Before (position_of i.origin)
    pub jump_origin : jump_line.origin ≡ i.origin
    pub next : address (below p) ≡ address p + 8
    pub step : (m : Machine) → m.counter ≡ address p →
        machine_step image m ≡ Continues (cond (taken op (register m a) (register m b)) (past 4 m) (past 8 m))
    pub jump_step : (m : Machine) → m.counter ≡ address p + 4 → machine_step image m ≡ Continues (at (start_of target) m)

  -- a call has one line, and one word or two: the machine's step is that of the call
  pub record HasCall (p : Pos) (i : Item) (call : CallSite) : Type 0 where
    pub line : CodeLine
    pub stands : line_at image.lines (address p) ≡ Some line
    pub origin : line.origin ≡ i.origin
    pub next : address (below p) ≡ address p + callee_size call.callee
    pub step : (m : Machine) → m.counter ≡ address p →
        machine_step image m ≡ step_call (callee_size call.callee) (called_at m call.callee) (passed m call) call.outgoing m m.script

  -- an ending has one line: the machine's step ends the run with its result
  pub record HasReturn (p : Pos) (i : Item) (ending : Ending Callee) : Type 0 where
    pub line : CodeLine
    pub stands : line_at image.lines (address p) ≡ Some line
    pub origin : line.origin ≡ i.origin
    pub step : (m : Machine) → m.counter ≡ address p → machine_step image m ≡ Ends (result_at m ending)

  -- the lines and the machine's steps at the address of an instruction of this row
  abbrev pub HasRow : Pos → Item → Row → Type 0
  HasRow p i (Fixes rd n) = HasWord p i (Fixes rd n)
  HasRow p i (Moves rd rs) = HasWord p i (Moves rd rs)
  HasRow p i (Sets rd op a b) = HasWord p i (Sets rd op a b)
  HasRow p i (Addresses rd n offset) = HasWord p i (Addresses rd n offset)
  HasRow p i (Loads rd op base offset) = HasWord p i (Loads rd op base offset)
  HasRow p i (Stores op rs base offset) = HasWord p i (Stores op rs base offset)
  HasRow p i (LoadsSlot rd n) = HasWord p i (LoadsSlot rd n)
  HasRow p i (StoresSlot rs n) = HasWord p i (StoresSlot rs n)
  HasRow p i (Branches op a b target) = HasWord p i (Branches op a b target) ⊎ HasTwoWords p i op a b target
  HasRow p i (Jumps target) = HasWord p i (Jumps target)
  HasRow p i (Calls call) = HasCall p i call
  HasRow p i (Returns ending) = HasReturn p i ending
  HasRow p i Unfit = ⊥

-- the image has the function's code: each position has an address, and the machine's steps at the address of an instruction are
-- the instruction's
pub record IsLaidAt (f : FramedFunction) (image : Image) : Type 0 where
  pub address : Pos → ℕ
  pub low : address (block_start 0) ≡ image.low
  pub area : image.area ≡ area_of f.objects
  -- debug items and the ends of blocks have no bytes
  pub debug : (p : Pos) (i : Item) → fetched f p ≡ Here i → is_code i.kind ≡ false → address (below p) ≡ address p
  pub ends : (p : Pos) (k n : ℕ) → fetched f p ≡ EndOfBlock k n → address (block_start (suc p.block)) ≡ address p
  pub code : (p : Pos) (i : Item) (c : Instruction) (k : Option ℕ) → fetched f p ≡ Here i → i.kind ≡ Code c k → HasRow f image address p i (row_of c)
