-- The machine code of a function as contracts see it, and its invariant.
use Rattle.std.specs.Prelude.{◌≡◌, ℕ, ◌+◌, ◌*◌, ◌%◌, ◌^◌, ◌<◌, Bool, false, cond, List, [], ◌∷◌, drop, length, Option, IsSome, All}
use Rattle.rv64_instr.specs.Instruction.{Instruction}
use Rattle.rv64_instr.specs.Row.{Unfit, row_of}
use Rattle.rv64_instr.specs.LocationEffects.{has_site}
use Rattle.mir_func.specs.declared.item.Item.{Item}
use Rattle.mir_func.specs.declared.item.ItemKind.{ItemKind}
use Rattle.mir_func.specs.declared.item.ItemKind.TheVariants.{Code, Mark, Phi}
use Rattle.mir_func.specs.declared.position.Pos.{Pos}
use Rattle.mir_func.specs.Function.{FramedFunction}
use Rattle.mir_func.specs.Graph.{Here, fetch_in}
use Rattle.emit_code.specs.declared.code.EncodedInstruction.{EncodedInstruction}
use Rattle.emit_code.specs.Counts.{MAX_WORDS, MAX_BASE}
use Rattle.emit_code.specs.Rule.{Layout, Form, Nothing, OneWord, CallSite, LongBranch, row_form, address_in, operation_at, skip_operation, jump_operation}
use Rattle.emit_code.specs.Rule.{entries_of, words_of}
use Rattle.emit_code.specs.BranchRelaxation.{IsSettled}

-- machine code: first address, words, entries, and the function with its frame
pub record LaidCode : Type 0 where
  pub base : ℕ
  pub words : List ℕ
  pub entries : List EncodedInstruction
  pub framed : FramedFunction

-- the entries are contiguous from an address to an end. That of a callee of a name has 8 bytes, any other entry 4
abbrev pub StandFrom : (address : ℕ) → List EncodedInstruction → (end : ℕ) → Type 0
StandFrom a [] end = a ≡ end
StandFrom a (e ∷ es) end = (e.address ≡ a) × (e.size ≡ cond e.call 8 4) × StandFrom (a + e.size) es end

-- the item calls a function of a name, or leaves for one
abbrev pub is_site_kind : ItemKind → Bool
is_site_kind (Code i k) = has_site (row_of i)
is_site_kind (Mark v m) = false
is_site_kind (Phi p k) = false

-- the function has an item at the entry's point, and the entry is a site if and only if the item is one
pub record IsOfItem (f : FramedFunction) (e : EncodedInstruction) : Type 0 where
  pub item : Item
  pub stands : fetch_in (drop e.point.block f.blocks) e.point.item ≡ Here item
  pub call : e.call ≡ is_site_kind item.kind

-- the invariant of all machine code
pub record IsCode (c : LaidCode) : Type 0 where
  pub aligned : c.base % 4 ≡ 0
  pub low : c.base < MAX_BASE
  pub few : length c.words < MAX_WORDS
  pub stand : StandFrom c.base c.entries (c.base + 4 * length c.words)
  pub items : All (IsOfItem c.framed) c.entries

-- each word of a form is that of an encodable operation (those of a site always are)
abbrev pub FormWorded : Layout → (address : ℕ) → Instruction → Form → Type 0
FormWorded l a i Nothing = Unit {0}
FormWorded l a i OneWord = IsSome (operation_at l a i)
FormWorded l a i CallSite = Unit {0}
FormWorded l a i (LongBranch n) = IsSome (skip_operation i) × IsSome (jump_operation l a n)

-- all instructions of the layout are encodable: registers and numbers are in range, and each branch and jump reaches its target
abbrev pub IsWorded : Layout → Type 0
IsWorded l = (p : Pos) (i : Item) (c : Instruction) (k : Option ℕ) → fetch_in (drop p.block l.framed.blocks) p.item ≡ Here i → i.kind ≡ Code c k →
    FormWorded l (address_in l p) c (row_form (l.long p) (row_of c))

-- each instruction of the layout has the operands of its opcode
abbrev pub IsFit : Layout → Type 0
IsFit l = (p : Pos) (i : Item) (c : Instruction) (k : Option ℕ) → fetch_in (drop p.block l.framed.blocks) p.item ≡ Here i → i.kind ≡ Code c k →
    row_of c ≡ Unfit → ⊥

-- the machine code of a function at a first address: the layout with the least set of long branches
pub record IsCodeOf (f : FramedFunction) (base : ℕ) (c : LaidCode) : Type 0 where
  pub layout : Layout
  pub of : layout.framed ≡ f
  pub from : layout.base ≡ base
  pub settled : IsSettled layout
  pub worded : IsWorded layout
  pub fit : IsFit layout
  pub small : (p : Pos) → address_in layout p + 8 < 2 ^ 64
  pub entries : c.entries ≡ entries_of layout
  pub words : c.words ≡ words_of layout
  pub framed : c.framed ≡ f
  pub base_kept : c.base ≡ base
