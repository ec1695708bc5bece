-- Which values are in which locations: value numbers along a path, and what is true of them on every path.
use Rattle.std.specs.Prelude.{◌≡◌, ℕ, zero, suc, List, [], ◌∷◌, Option, Some, None, Bool, cond, not, ◌&&◌, nat_eq, nat_lt, slice_get}
use Rattle.std.specs.List.{list_any}
use Rattle.mir_func.specs.rv64_instr.declared.operand.Operand.{Operand}
use Rattle.mir_func.specs.rv64_instr.declared.place.Place.{Place}
use Rattle.mir_func.specs.rv64_instr.declared.place.Place.TheVariants.{Register, Slot, Const}
use Rattle.mir_func.specs.rv64_instr.Arithmetic.{word}
use Rattle.mir_func.specs.rv64_instr.Row.{Row, row_of}
use Rattle.mir_func.specs.rv64_instr.View.{Value, Literal, OfRegister, OfSlot, Computed, Write, SetsNothing, SetsRegister, SetsSlot, Clobbers, write_of}
use Rattle.mir_func.specs.rv64_instr.LocationEffects.{is_call}
use Rattle.mir_func.specs.rv64_instr.DefsAndUses.{caller_saved, sets}
use Rattle.mir_func.specs.declared.debug_substitution.OperandPair.{OperandPair}
use Rattle.mir_func.specs.declared.position.Pos.{Pos}
use Rattle.mir_func.specs.declared.variable.VarId.{VarId}
use Rattle.mir_func.specs.declared.variable.MarkValue.{MarkValue}
use Rattle.mir_func.specs.declared.variable.MarkValue.TheVariants.{Nothing, Constant, At, Pair}
use Rattle.mir_func.specs.declared.item.ItemKind.{ItemKind}
use Rattle.mir_func.specs.declared.item.ItemKind.TheVariants.{Code, Mark, Phi}
use Rattle.sem_mir.specs.State.{updated, without, assigned}
use Rattle.sem_mir.specs.Step.{defined}
use Rattle.mir_func.specs.Graph.{Fetch, Here, EndOfBlock, Outside, Program, Edge}

-- a value number along one path (LLVM: `ValueIDNum`): a register's content at entry, what the item at an index of the
-- path wrote to a register, or a constant modulo 2^64
pub data Token : Type 0 where
  Entry : (r : ℕ) → Token
  Made : (index r : ℕ) → Token
  Fixed : (n : ℕ) → Token

-- the tokens of registers, slots, pairs and debug values at a point of a path
pub record Tokens : Type 0 where
  pub regs : ℕ → Option Token
  pub slots : ℕ → Option Token
  pub pairs : ℕ → ℕ → Option Token
  -- the newest first
  pub marks : List (VarId × Option Token)

-- the token of a register's content. x0 holds 0
abbrev pub register_token : (ℕ → Option Token) → ℕ → Option Token
register_token regs zero = Some (Fixed 0)
register_token regs (suc r) = regs (suc r)

-- a register's token set. x0 drops writes, and x2 has no token
abbrev pub put_token : ℕ → Option Token → (ℕ → Option Token) → ℕ → Option Token
put_token zero t regs = regs
put_token (suc r) t regs = updated (suc r) (cond (nat_eq r 1) None t) regs

-- each of the registers gets a new token, by this index
abbrev pub make_all : (index : ℕ) → List ℕ → (ℕ → Option Token) → ℕ → Option Token
make_all n [] regs = regs
make_all n (r ∷ rs) regs = make_all n rs (put_token r (Some (Made n r)) regs)

-- the token of a value that register rd is set to at an index of the path: a result's is new
abbrev pub value_token : (index rd : ℕ) → Value → Tokens → Option Token
value_token n rd (Literal c) t = Some (Fixed c)
value_token n rd (OfRegister rs) t = register_token t.regs rs
value_token n rd (OfSlot k) t = t.slots k
value_token n rd Computed t = Some (Made n rd)

-- the tokens after this is set at an index of the path
abbrev pub written_tokens : (index : ℕ) → Write → Tokens → Tokens
written_tokens n SetsNothing t = t
written_tokens n (SetsRegister rd value) t = record t { regs = put_token rd (value_token n rd value t) t.regs }
written_tokens n (SetsSlot k rs) t = record t { slots = updated k (register_token t.regs rs) t.slots }
written_tokens n (Clobbers outgoing) t = record t { regs = make_all n caller_saved t.regs; slots = without outgoing t.slots }

-- the transfer function of an instruction at an index of the path, on registers and slots: a constant definition sets
-- the token of its number, copies, slot loads and slot stores pass tokens on, and every other definition creates one
unfoldable pub moved_tokens : (index : ℕ) → Row → Tokens → Tokens
moved_tokens n row t = written_tokens n (write_of row) t

-- whether the row sets x2: then each slot loses its token, since slots are addressed from x2
abbrev pub sets_pointer : Row → Bool
sets_pointer r = list_any (λ rd. nat_eq rd 2) (sets r)

-- the tokens after an instruction at an index of the path, before its pairs are set
abbrev pub code_tokens : (index : ℕ) → Row → Tokens → Tokens
code_tokens n r t = cond (sets_pointer r) (record (moved_tokens n r t) { slots = λ k. None }) (moved_tokens n r t)

-- a pair's token after code with its number: that of the register that its operand defines, or the old one
abbrev pub given_token : Option ℕ → Option Token → Tokens → Option Token
given_token None old t = old
given_token (Some r) old t = register_token t.regs r

-- the tokens with the pairs set of an instruction's debug instruction number, if it has one
abbrev pub numbered_tokens : (call : Bool) → Option ℕ → List Operand → Tokens → Tokens
numbered_tokens call None operands t = t
numbered_tokens call (Some k) operands t = record t { pairs = updated k (λ o. given_token (defined call (slice_get operands o)) (t.pairs k o) t) t.pairs }

-- the token of a location's content: a constant's is that of its number, and no location has none
abbrev pub place_token : Option Place → Tokens → Option Token
place_token None t = None
place_token (Some (Register r)) t = register_token t.regs r
place_token (Some (Slot n)) t = t.slots n
place_token (Some (Const c)) t = Some (Fixed (word c))

-- the token of the pair that a pair resolves to, or none if it doesn't resolve
abbrev pub pair_token : Option OperandPair → Tokens → Option Token
pair_token None t = None
pair_token (Some q) t = t.pairs q.number q.operand

-- the token of a debug value's operand
abbrev pub mark_token : (OperandPair → Option OperandPair) → MarkValue → Tokens → Option Token
mark_token resolve Nothing t = None
mark_token resolve (Constant c) t = Some (Fixed (word c))
mark_token resolve (At r) t = register_token t.regs r
mark_token resolve (Pair q) t = pair_token (resolve q) t

-- the tokens after the item at an index of the path
abbrev pub after_item : (OperandPair → Option OperandPair) → (index : ℕ) → ItemKind → Tokens → Tokens
after_item resolve n (Code i k) t = numbered_tokens (is_call (row_of i)) k i.operands (code_tokens n (row_of i) t)
after_item resolve n (Mark v m) t = record t { marks = (v, mark_token resolve m t) ∷ t.marks }
after_item resolve n (Phi p k) t = record t { pairs = updated k (updated 0 (place_token p t) (t.pairs k)) t.pairs }

-- the tokens after what is at an index of the path. A block's end leaves them as they are
abbrev pub after_fetch : (OperandPair → Option OperandPair) → (index : ℕ) → Fetch → Tokens → Tokens
after_fetch resolve n (Here i) t = after_item resolve n i.kind t
after_fetch resolve n (EndOfBlock k m) t = t
after_fetch resolve n Outside t = t

-- at entry each physical register but x2 has a token of its own, and nothing else has one
abbrev pub entry_tokens : Tokens
entry_tokens = record { regs = λ r. cond (nat_lt r 32 && not (nat_eq r 2)) (Some (Entry r)) None; slots = λ k. None; pairs = λ k o. None; marks = [] }

-- a path from the start of so many edges to a position, with these tokens before what is there
pub data Path (g : Program) (start : Pos) : ℕ → Pos → Tokens → Type 0 where
  begin : Path g start 0 start entry_tokens
  onward : {n : ℕ} {p q : Pos} {t : Tokens} → Path g start n p t → Edge g p q → Path g start (suc n) q (after_fetch g.resolve n (g.fetch p) t)

-- the position is reachable, and on every path to it both have a token, the same one
pub record Sits (g : Program) (start : Pos) (x y : Tokens → Option Token) (p : Pos) : Type 0 where
  pub reached : (n : ℕ) × (t : Tokens) × Path g start n p t
  pub same : (n : ℕ) (t : Tokens) → Path g start n p t → (k : Token) × (x t ≡ Some k) × (y t ≡ Some k)

-- the token of a part of a variable by its newest debug value; none if a part that overlaps it was assigned later
abbrev pub variable_token : VarId → Tokens → Option Token
variable_token v t = assigned v t.marks
