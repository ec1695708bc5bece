-- The run that the command `run` makes: with given addresses of symbols, given arguments, and given values as the results of calls.
use Rattle.std.specs.Prelude.{◌≡◌, ℕ, zero, suc, ◌+◌, ◌-◌, ◌<◌, List, [], ◌∷◌, length, map, cond, ◌&&◌, nat_eq, nat_le, nat_lt, slice_index}
use Rattle.rv64_instr.specs.Linked.{addresses_in}
use Rattle.rv64_instr.specs.declared.symbol.Symbol.{Symbol}
use Rattle.rv64_instr.specs.DefsAndUses.{caller_saved}
use Rattle.mir_func.specs.Objects.{area_of}
use Rattle.sem_mir.specs.State.{Reply}
use Rattle.sem_machine.specs.Image.{Image}
use Rattle.sem_machine.specs.Machine.{Machine, register}
use Rattle.emit_code.specs.Laid.{LaidCode}
use Rattle.sim_trace.specs.sim_machine.Shown.{ShowsCode}
use Rattle.sim_trace.specs.declared.variable.Variable.{Variable}
use Rattle.sim_trace.specs.Run.{IsRunText}

-- ---- the start

-- the content of a register from x3 on: an argument from x10 on, and otherwise 1000 plus the register's number
abbrev pub other_register : (arguments : List ℕ) → (r : ℕ) → ℕ
other_register arguments r = cond (nat_le 10 r && nat_lt (r - 10) (length arguments)) (slice_index arguments (r - 10)) (1000 + r)

-- the contents of registers at the start: x1 is the return address, and x2 the stack pointer
abbrev pub start_register : (arguments : List ℕ) → (r : ℕ) → ℕ
start_register arguments zero = 0
start_register arguments (suc zero) = 4294967296
start_register arguments (suc (suc zero)) = 1048576
start_register arguments (suc (suc (suc r))) = other_register arguments (suc (suc (suc r)))

-- The machine is at the start of the code, with these addresses of symbols and these arguments. Memory is 0, and the script is arbitrary.
pub record BeginsRun (c : LaidCode) (addresses : List (Symbol × ℕ)) (arguments : List ℕ) (s : Machine) : Type 0 where
  pub entry : s.entry ≡ 1048576
  pub area : s.area ≡ area_of c.framed.objects
  pub symbols : s.symbols ≡ addresses_in addresses
  pub counter : s.counter ≡ c.base
  pub regs : (r : ℕ) → r < 32 → register s r ≡ start_register arguments r
  pub memory : (a : ℕ) → s.memory a ≡ 0
  pub events : s.events ≡ []

-- ---- the answers

-- the value to which the n-th call sets x10: the n-th value, or n if there is none
abbrev pub call_value : (values : List ℕ) → (n : ℕ) → ℕ
call_value values n = cond (nat_lt (n - 1) (length values)) (slice_index values (n - 1)) n

-- the value to which a call sets a caller-saved register
abbrev pub call_register : (value r : ℕ) → ℕ
call_register value r = cond (nat_eq r 10) value (2000 + r)

-- the answer to the n-th call: it sets the caller-saved registers, and writes no memory
abbrev pub reply_to : (values : List ℕ) → (n : ℕ) → Reply
reply_to values n = record { regs = map (call_register (call_value values n)) caller_saved; writes = []; below = [] }

-- the answers to `count` calls, from the n-th on
abbrev pub replies : (values : List ℕ) → (n count : ℕ) → List Reply
replies values n zero = []
replies values n (suc count) = reply_to values n ∷ replies values (suc n) count

-- ---- the text

-- On each image of the code, the text is that of the machine's run from the start with these addresses of symbols and these arguments, with these
-- values as the results of its calls, for at most `limit` steps.
abbrev pub IsTextOfAskedRun : LaidCode → (addresses : List (Symbol × ℕ)) → (arguments values : List ℕ) → List Variable → (limit : ℕ) → (text : List ℕ) → Type 0
IsTextOfAskedRun c addresses arguments values variables limit text =
    (image : Image) (s : Machine) → ShowsCode c image → BeginsRun c addresses arguments s → s.script ≡ replies values 1 limit →
    IsRunText image variables limit s text
