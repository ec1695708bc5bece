-- Parsing of printed lines.
use Rattle.std.specs.Prelude.{◌≡◌, false, ℕ, ◌<◌, ◌≤◌, ◌++◌, All, codes, Some, Ok}
use Rattle.std.specs.Fmt.{decimal}
use Rattle.rv64_instr.specs.declared.operand.Operand.{Operand}
use Rattle.rv64_instr.specs.declared.operand.Operand.TheVariants.{Def, Use, ImplicitDef, ImplicitUse, Imm, Slot, Object, Part, Outgoing, Block, Symbol, Mask}
use Rattle.rv64_instr.specs.declared.operand.Operand.TheVariants.{GlobalRegisters}
use Rattle.mir_func.specs.declared.item.Item.{Item}
use Rattle.mir_func.specs.declared.item.ItemKind.{ItemKind}
use Rattle.mir_func.specs.declared.item.ItemKind.TheVariants.{Code, Mark, Phi}
use Rattle.base_ids.specs.Limits.{MAX_NUMBER}
use Rattle.read_line.specs.declared.form.BodyLine.TheVariants.{Label, Item as OfItem}
use Rattle.read_line.specs.Body.{body_line_of}
use Rattle.read_program.specs.Limited.{KindIsLimited, LocIsLimited, IsOfLanguage}
use Rattle.mir_printer.specs.Spelling.{item_text}
use Rattle.readback_items.specs.Forms.{form_of}

-- the name of a symbol consists of bytes
abbrev pub NameIsBytes : Operand → Type 0
NameIsBytes (Symbol name) = All (λ b. b < 256) name
NameIsBytes (Def r) = Unit {0}
NameIsBytes (Use r) = Unit {0}
NameIsBytes (ImplicitDef r) = Unit {0}
NameIsBytes (ImplicitUse r) = Unit {0}
NameIsBytes (Imm i) = Unit {0}
NameIsBytes (Slot n) = Unit {0}
NameIsBytes (Object n) = Unit {0}
NameIsBytes (Part half y) = Unit {0}
NameIsBytes (Outgoing n) = Unit {0}
NameIsBytes GlobalRegisters = Unit {0}
NameIsBytes (Block n) = Unit {0}
NameIsBytes Mask = Unit {0}

-- the symbols that an item names consist of bytes; debug values and DBG_PHIs name none
abbrev pub HasByteNames : ItemKind → Type 0
HasByteNames (Code i number) = All NameIsBytes i.operands
HasByteNames (Mark v m) = Unit {0}
HasByteNames (Phi p k) = Unit {0}

-- the conditions under which the line of an item is parsed back: its numbers are within their limits, it isn't of the linked language, and its names consist
-- of bytes
pub record IsWritable (i : Item) : Type 0 where
  pub kind : KindIsLimited i.kind
  pub language : IsOfLanguage false i.kind
  pub loc : LocIsLimited i.loc
  pub names : HasByteNames i.kind

-- The printed line of an item is parsed as the item's form.
abbrev pub LinesSayForms : Type 0
LinesSayForms = (i : Item) → IsWritable i → body_line_of false (codes "    " ++ item_text i) ≡ Ok (OfItem (form_of i))

-- The printed line of a label is parsed as the label of the block.
abbrev pub LabelsReadBack : Type 0
LabelsReadBack = (n : ℕ) → n ≤ MAX_NUMBER → body_line_of false (codes "  bb." ++ decimal n ++ codes ":") ≡ Ok (Label (Some n))
