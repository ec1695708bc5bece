-- The instruction encodings at the lines of an output.
use Rattle.std.specs.Prelude.{◌≡◌, ℕ, ℤ, pos, ◌+ℤ◌, Bool, true, false, cond, nat_eq, List, [], ◌∷◌, take, drop, Option, Some, None, slice_get, All}
use Rattle.std.specs.Int.{w32, to_le_bytes}
use Rattle.std.specs.List.{flat_map}
use Rattle.rv64_instr.specs.Instruction.{Instruction}
use Rattle.rv64_instr.specs.Row.{row_of, Row}
use Rattle.rv64_instr.specs.LocationEffects.{has_site}
use Rattle.rv64_word.specs.declared.machine_op.MachineOp.{MachineOp}
use Rattle.rv64_word.specs.MachineOp.{word_of}
use Rattle.rv64_word.specs.declared.word_op.WordOp.TheVariants.{Branch}
use Rattle.rv64_word.specs.Lowering.{lowered, in_range, machine_op}
use Rattle.mir_func.specs.declared.exit.Exit.{Exit}
use Rattle.mir_func.specs.declared.exit.Exit.TheVariants.{Onward, Perhaps, Always, Final}
use Rattle.mir_func.specs.declared.item.ItemKind.TheVariants.{Code}
use Rattle.mir_func.specs.Exits.{row_exit}
use Rattle.listing_text.specs.declared.output.ItemLine.{ItemLine}
use Rattle.listing_text.specs.declared.output.SkipLine.{SkipLine}
use Rattle.listing_text.specs.declared.output.Line.{Line}
use Rattle.listing_text.specs.declared.output.Line.TheVariants.{Item, Skip}
use Rattle.listing_text.specs.declared.output.ListedBlock.{ListedBlock}
use Rattle.listing_text.specs.declared.output.ListedFunction.{ListedFunction}
use Rattle.listing_text.specs.declared.output.Output.{Output}
use Rattle.listing_meaning.specs.Program.{lines_of, past_line}
use Rattle.emit_code.specs.Rule.{site_words}

-- the address after the last of these lines, if the first begins at an address
abbrev pub past_lines : ℕ → List Line → ℕ
past_lines a [] = a
past_lines a (l ∷ ls) = past_lines (past_line a l) ls

-- the start address of the block with this number, if the blocks begin at an address
abbrev pub block_address : ℕ → List ListedBlock → (id : ℕ) → Option ℕ
block_address a [] n = None
block_address a (b ∷ bs) n = cond (nat_eq b.id n) (Some a) (block_address (past_lines a b.lines) bs n)

-- the block that an instruction may jump to: the target of a branch or jump
abbrev pub target_of : Exit → Option ℕ
target_of Onward = None
target_of (Perhaps n) = Some n
target_of (Always n) = Some n
target_of Final = None

-- The offset from an address to the start of the target block. It is 0 if there is no target.
abbrev pub IsOffset : ListedFunction → (target : Option ℕ) → (address : ℕ) → ℤ → Type 0
IsOffset f None a offset = offset ≡ pos 0
IsOffset f (Some n) a offset =
    (t : ℕ) × (block_address (past_lines f.low f.prologue) f.blocks n ≡ Some t) × (pos a +ℤ offset ≡ pos t)

-- `count` bytes of `.text` from an address on
abbrev pub bytes_at : (text : List ℕ) → (count address : ℕ) → List ℕ
bytes_at text n a = take n (drop a text)

-- At an address is the encoding of an instruction, lowered to a machine operation with this jump offset. Listed instructions name no stack object, so
-- the object offset is 0.
pub record HasWord (text : List ℕ) (a : ℕ) (offset : ℤ) (i : Instruction) : Type 0 where
  pub operation : MachineOp
  pub lowered : lowered offset 0 i ≡ Some operation
  pub stands : bytes_at text 4 a ≡ to_le_bytes w32 (word_of operation)

-- the two words by which control goes to the function that an instruction names
abbrev pub site_bytes : Row → List ℕ
site_bytes row = flat_map (to_le_bytes w32) (site_words row)

-- At an address are the bytes of an instruction: both words where it names a callee, or one word, whose jump offset is that to its target block.
abbrev pub HasBytes : (site : Bool) → (text : List ℕ) → ListedFunction → (address : ℕ) → Instruction → Type 0
HasBytes true text f a i = bytes_at text 8 a ≡ site_bytes (row_of i)
HasBytes false text f a i = (offset : ℤ) × IsOffset f (target_of (row_exit (row_of i))) a offset × HasWord text a offset i

-- the operation of a skip line: the inverted branch of a long branch, over the next word
abbrev pub skip_operation : SkipLine → MachineOp
skip_operation s = machine_op (Branch s.op) 0 s.first s.second (pos 8)

-- At the line's address is the encoding of its operation, whose offset is in range.
abbrev pub HasSkip : (text : List ℕ) → SkipLine → Type 0
HasSkip text s = (in_range (skip_operation s) ≡ Some (skip_operation s)) × (bytes_at text 4 s.address ≡ to_le_bytes w32 (word_of (skip_operation s)))

-- At each line of a function with an address are the bytes of its instruction.
pub record HaveWordsOf (o : Output) (f : ListedFunction) : Type 0 where
  pub items : (n : ℕ) (l : ItemLine) (a : ℕ) (i : Instruction) (k : Option ℕ) → slice_get (lines_of f) n ≡ Some (Item l) → l.address ≡ Some a →
      l.item.kind ≡ Code i k → HasBytes (has_site (row_of i)) o.text f a i
  pub skips : (n : ℕ) (s : SkipLine) → slice_get (lines_of f) n ≡ Some (Skip s) → HasSkip o.text s

-- each listed function has them
abbrev pub HaveWords : Output → Type 0
HaveWords o = All (HaveWordsOf o) o.functions
