-- From a function with its frame to the machine's run: the statement `Headline` for the image of its layout.
use Rattle.std.specs.Prelude.{◌≡◌, ◌⊎◌, ℕ, suc, ◌<◌, All, Option, true, false, IsSome}
use Rattle.rv64_instr.specs.Instruction.{Instruction}
use Rattle.rv64_instr.specs.declared.place.Place.{Place}
use Rattle.rv64_instr.specs.Row.{Row, row_of, way_leads_back}
use Rattle.rv64_instr.specs.View.{Access, MemoryAccess, access_of, Class, Plain, class_of}
use Rattle.mir_func.specs.declared.debug_substitution.OperandPair.{OperandPair}
use Rattle.mir_func.specs.declared.exit.Exit.TheVariants.{Perhaps, Final}
use Rattle.mir_func.specs.declared.position.Pos.{Pos}
use Rattle.mir_func.specs.declared.position.Origin.TheVariants.{Before}
use Rattle.mir_func.specs.declared.item.Item.{Item}
use Rattle.mir_func.specs.declared.item.ItemKind.{ItemKind}
use Rattle.mir_func.specs.declared.item.ItemKind.TheVariants.{Code, Mark, Phi}
use Rattle.mir_func.specs.declared.variable.MarkValue.TheVariants.{Nothing}
use Rattle.mir_func.specs.declared.variable.VarId.{VarId}
use Rattle.mir_func.specs.Exits.{exit_of}
use Rattle.mir_func.specs.Function.{Function, FramedFunction}
use Rattle.mir_func.specs.Graph.{Here, EndOfBlock, Program, below, block_start, program_of, framed_program}
use Rattle.mir_func.specs.SoundFrame.{IsFramed}
use Rattle.mir_func.specs.Positions.{position_of}
use Rattle.sem_mir.specs.State.{State, content, RunResult}
use Rattle.sem_mir.specs.Step.{Went, Returned, Faulted, read, step, run}
use Rattle.sem_mir.specs.Align.{is_code}
use Rattle.sem_simulation.specs.Words.{RunsByWords}
use Rattle.sem_machine.specs.Image.{Image}
use Rattle.sem_machine.specs.Headline.{StartsAt, KEPT, Headline}
use Rattle.machine_steps_proof.specs.Laid.{fetched, IsLaidAt}
use Rattle.machine_proof.specs.Lists.{GiveSitting, IsPointAt}

-- at this position the source never stops on a frame fault, if all physical registers are written
abbrev pub NeverFaults : Program → Pos → Type 0
NeverFaults src q = (s : State) → s.pos ≡ q → ((r : ℕ) → r < 32 → IsSome (content s.core.regs r)) → step src s ≡ Faulted → ⊥

-- no access to memory
abbrev pub IsNoMemoryAccess : Access → Type 0
IsNoMemoryAccess (MemoryAccess base offset width) = ⊥
IsNoMemoryAccess _ = Unit {0}

-- plain code without an access to memory
abbrev pub IsHarmlessBy : Class → Access → Type 0
IsHarmlessBy Plain a = IsNoMemoryAccess a
IsHarmlessBy _ a = ⊥

-- an instruction without observable effect, which can stop only at a slot that isn't written
abbrev pub IsHarmless : Row → Type 0
IsHarmless row = IsHarmlessBy (class_of row) (access_of row)

-- debug items and block ends lead down the text from one position to the other
pub data FallsTo (f : FramedFunction) : Pos → Pos → Type 0 where
  here : {p : Pos} → FallsTo f p p
  past_item : {p q : Pos} (i : Item) → fetched f p ≡ Here i → is_code i.kind ≡ false → FallsTo f (below p) q → FallsTo f p q
  past_end : {p q : Pos} (k n : ℕ) → fetched f p ≡ EndOfBlock k n → FallsTo f (block_start (suc p.block)) q → FallsTo f p q

-- an item that assigns no value to a variable: any but a debug value with an operand other than $noreg
abbrev pub AssignsNothing : ItemKind → Type 0
AssignsNothing (Code c k) = Unit {0}
AssignsNothing (Mark v m) = m ≡ Nothing
AssignsNothing (Phi p k) = Unit {0}

-- what `Headline` requires of the origins in a function with its frame
pub record ComesFrom (src : Program) (f : FramedFunction) : Type 0 where
  -- added code before a position is harmless, or the source never stops on a frame fault there
  pub added : (p : Pos) (i : Item) (c : Instruction) (k : Option ℕ) (q : Pos) → fetched f p ≡ Here i → i.kind ≡ Code c k → i.origin ≡ Before q →
      IsHarmless (row_of c) ⊎ NeverFaults src q
  -- the source never stops on a frame fault at a return's position
  pub returns : (p : Pos) (i : Item) → fetched f p ≡ Here i → exit_of i.kind ≡ Final → NeverFaults src (position_of i.origin)
  -- the next code below a conditional branch has another position as its origin
  pub apart : (p q : Pos) (i j : Item) (n : ℕ) → fetched f p ≡ Here i → exit_of i.kind ≡ Perhaps n → FallsTo f (below p) q → fetched f q ≡ Here j →
      is_code j.kind ≡ true → position_of j.origin ≡ position_of i.origin → ⊥
  -- no conditional branch was added
  pub kept : (p q : Pos) (i : Item) (n : ℕ) → fetched f p ≡ Here i → exit_of i.kind ≡ Perhaps n → i.origin ≡ Before q → ⊥
  -- between added code before a position and the next code, if its origin has the same position, no item assigns a value to a
  -- variable
  pub quiet : (p q r o : Pos) (i d j : Item) → fetched f p ≡ Here i → i.origin ≡ Before o → FallsTo f (below p) q → fetched f q ≡ Here d →
      FallsTo f q r → fetched f r ≡ Here j → is_code j.kind ≡ true → position_of j.origin ≡ o → AssignsNothing d.kind

-- each run from this start that ends on a way that leads back to the caller leaves the registers `KEPT` (return address, stack pointer, callee-saved)
-- with their values at the start
abbrev pub GivesBackKept : Program → State → Type 0
GivesBackKept g g0 = (n : ℕ) (t : State) (result : RunResult) → run g n g0 ≡ Went t → step g t ≡ Returned result →
    way_leads_back result.way ≡ true → All (λ r. read t.core r ≡ read g0.core r) KEPT

-- the start of the function with its frame, for a start of the source
abbrev pub start_beside : State → State
start_beside s = record { pos = block_start 0; core = s.core }

-- the runs of the function with its frame simulate the source's word by word, and preserve the registers `KEPT`
pub record RunsBeside (source : Function) (f : FramedFunction) (resolve fresolve : OperandPair → Option OperandPair) : Type 0 where
  pub follows : (s : State) → StartsAt source s →
      RunsByWords (program_of true source.blocks resolve) (framed_program f.blocks fresolve) s (start_beside s)
  pub keeps : (s : State) → StartsAt source s → GivesBackKept (framed_program f.blocks fresolve) (start_beside s)

-- If lists name only places that have the value, the image that such a function is laid in satisfies `Headline`.
abbrev pub LaidCodeMeetsTheHeadline : (lists : VarId → (address : ℕ) → Place → Type 0) → Type 0
LaidCodeMeetsTheHeadline lists = (source : Function) (f : FramedFunction) (resolve fresolve : OperandPair → Option OperandPair) (image : Image) →
    IsFramed f → f.objects ≡ source.objects → ComesFrom (program_of true source.blocks resolve) f → RunsBeside source f resolve fresolve →
    (laid : IsLaidAt f image) → GiveSitting (framed_program f.blocks fresolve) (IsPointAt f laid.address) lists → Headline source resolve image lists
