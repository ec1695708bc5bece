-- Images of machine code.
use Rattle.std.specs.Prelude.{◌≡◌, ℕ, suc, List, [], ◌∷◌, ◌++◌, drop, Option, Some, None, cond, nat_eq}
use Rattle.std.specs.List.{flat_map}
use Rattle.std.specs.Int.{w32, to_le_bytes}
use Rattle.rv64_instr.specs.declared.symbol.Symbol.{Symbol}
use Rattle.rv64_instr.specs.Row.{Row, Unfit, row_of, CallSite, Callee, Ending}
use Rattle.rv64_word.specs.Linked.{linked_word}
use Rattle.mir_func.specs.declared.item.ItemKind.{ItemKind}
use Rattle.mir_func.specs.declared.item.ItemKind.TheVariants.{Code, Mark, Phi}
use Rattle.mir_func.specs.Function.{FramedFunction}
use Rattle.mir_func.specs.Graph.{Fetch, Here, EndOfBlock, Outside, fetch_in}
use Rattle.mir_func.specs.Objects.{area_of}
use Rattle.sem_machine.specs.Image.{CodeLine, Image}
use Rattle.sem_machine.specs.MachineStep.{call_of, left_by}
use Rattle.emit_code.specs.declared.code.EncodedInstruction.{EncodedInstruction}
use Rattle.emit_code.specs.Laid.{LaidCode}

-- the call of an item, if it is one
abbrev pub kind_call : ItemKind → Option CallSite
kind_call (Code i k) = call_of (row_of i)
kind_call (Mark v m) = None
kind_call (Phi p k) = None

-- the call of the item at a point; none at the end of a block or outside
abbrev pub fetch_call : Fetch → Option CallSite
fetch_call (Here i) = kind_call i.kind
fetch_call (EndOfBlock k n) = None
fetch_call Outside = None

-- the call of an entry's item, if it is one
abbrev pub entry_call : FramedFunction → EncodedInstruction → Option CallSite
entry_call f e = fetch_call (fetch_in (drop e.point.block f.blocks) e.point.item)

-- how control leaves the function for a callee at an item, if it does
abbrev pub kind_left : ItemKind → Option (Ending Callee)
kind_left (Code i k) = left_by (row_of i)
kind_left (Mark v m) = None
kind_left (Phi p k) = None

-- the same of the item at a point
abbrev pub fetch_left : Fetch → Option (Ending Callee)
fetch_left (Here i) = kind_left i.kind
fetch_left (EndOfBlock k n) = None
fetch_left Outside = None

-- the same of an entry's item
abbrev pub entry_left : FramedFunction → EncodedInstruction → Option (Ending Callee)
entry_left f e = fetch_left (fetch_in (drop e.point.block f.blocks) e.point.item)

-- the row of an item's code; that of an invalid instruction for a debug item
abbrev pub kind_row : ItemKind → Row
kind_row (Code i k) = row_of i
kind_row (Mark v m) = Unfit
kind_row (Phi p k) = Unfit

-- the row of the item at a point
abbrev pub fetch_row : Fetch → Row
fetch_row (Here i) = kind_row i.kind
fetch_row (EndOfBlock k n) = Unfit
fetch_row Outside = Unfit

-- the row of an entry's item
abbrev pub entry_row : FramedFunction → EncodedInstruction → Row
entry_row f e = fetch_row (fetch_in (drop e.point.block f.blocks) e.point.item)

-- A code line is that of an entry: the same address and origin, the same call if the entry's item is one, or else none, and the same of leaving for a
-- callee. Linking changes its word as it does by the entry's item.
pub record IsLineOf (f : FramedFunction) (e : EncodedInstruction) (l : CodeLine) : Type 0 where
  pub address : l.address ≡ e.address
  pub origin : l.origin ≡ e.origin
  pub call : call_of (row_of l.instruction) ≡ entry_call f e
  pub left : left_by (row_of l.instruction) ≡ entry_left f e
  pub links : (symbols : Symbol → ℕ) (word : ℕ) → linked_word symbols (row_of l.instruction) word ≡ linked_word symbols (entry_row f e) word

-- the code lines are those of the entries, one for each
abbrev pub AreLinesOf : FramedFunction → List EncodedInstruction → List CodeLine → Type 0
AreLinesOf f [] [] = Unit {0}
AreLinesOf f [] (l ∷ ls) = ⊥
AreLinesOf f (e ∷ es) [] = ⊥
AreLinesOf f (e ∷ es) (l ∷ ls) = IsLineOf f e l × AreLinesOf f es ls

-- The image is one of the code: its text has the code's words from the code's first address on, and it has the code lines of the code's entries.
pub record ShowsCode (c : LaidCode) (image : Image) : Type 0 where
  pub low : image.low ≡ c.base
  pub area : image.area ≡ area_of c.framed.objects
  pub more : List ℕ
  pub text : drop c.base image.text ≡ flat_map (to_le_bytes w32) c.words ++ more
  pub lines : AreLinesOf c.framed c.entries image.lines

-- the first entry that begins at an address
abbrev pub entry_at : List EncodedInstruction → (address : ℕ) → Option EncodedInstruction
entry_at [] a = None
entry_at (e ∷ es) a = cond (nat_eq e.address a) (Some e) (entry_at es a)

-- the index of an entry, once for each of its words: a call has two
abbrev pub word_place : (index : ℕ) → EncodedInstruction → List ℕ
word_place i e = cond e.call (i ∷ i ∷ []) (i ∷ [])

-- the index of the entry of each word. The first of the entries has this index
abbrev pub word_places : (index : ℕ) → List EncodedInstruction → List ℕ
word_places i [] = []
word_places i (e ∷ es) = word_place i e ++ word_places (suc i) es
