-- Debug values and DBG_PHIs: their printed lines are read back unchanged.
use Rattle.std.specs.Prelude.{◌≡◌, false, ℕ, ◌++◌, codes, List, Option, Some, None, Ok}
use Rattle.rv64_instr.specs.declared.place.Place.{Place}
use Rattle.rv64_instr.specs.declared.place.Place.TheVariants.{Register, Slot, Const}
use Rattle.read_metadata.specs.Maps.{Maps}
use Rattle.mir_func.specs.declared.item.Item.{Item}
use Rattle.mir_func.specs.declared.item.ItemKind.{ItemKind}
use Rattle.mir_func.specs.declared.item.ItemKind.TheVariants.{Code, Mark, Phi}
use Rattle.mir_func.specs.declared.location.Loc.{Loc}
use Rattle.mir_func.specs.declared.variable.MarkValue.{MarkValue}
use Rattle.mir_func.specs.declared.variable.MarkValue.TheVariants.{Nothing, Constant, At, Pair}
use Rattle.read_item.specs.declared.judged.Judged.TheVariants as judged_as
use Rattle.read_item.specs.Debug.{inlined_at}
use Rattle.read_item.specs.Judge.{entries_of, judged}
use Rattle.read_line.specs.declared.form.BodyLine.TheVariants.{Item as OfItem}
use Rattle.read_line.specs.declared.form.ItemForm.{ItemForm}
use Rattle.read_line.specs.Body.{body_line_of}
use Rattle.mir_printer.specs.Spelling.{item_text}
use Rattle.readback_items.specs.Laws.{IsWritable}

-- a register that is read back as itself: not x0, which is read as the constant 0, nor the stack pointer x2, which is read as undef
abbrev pub IsKept : ℕ → Type 0
IsKept r = (r ≡ 0 → ⊥) × (r ≡ 2 → ⊥)

-- the value of a debug value is read back as it is: its register isn't x0 or x2
abbrev pub ValueIsKept : MarkValue → Type 0
ValueIsKept Nothing = Unit {0}
ValueIsKept (Constant c) = Unit {0}
ValueIsKept (At r) = IsKept r
ValueIsKept (Pair q) = Unit {0}

-- the location of a DBG_PHI is read back as it is: its register isn't x0 or x2
abbrev pub PlaceIsKept : Option Place → Type 0
PlaceIsKept None = Unit {0}
PlaceIsKept (Some (Register r)) = IsKept r
PlaceIsKept (Some (Slot n)) = Unit {0}
PlaceIsKept (Some (Const c)) = Unit {0}

-- the conditions on a debug value or DBG_PHI: the variable's `inlinedAt` is that of the debug location, and no register is x0 or x2
abbrev pub IsDebug : Maps → Loc → ItemKind → Type 0
IsDebug meta loc (Code i number) = ⊥
IsDebug meta loc (Mark v m) = (v.inlined_at ≡ inlined_at meta loc) × ValueIsKept m
IsDebug meta loc (Phi p k) = PlaceIsKept p

-- a line is read as an item of this kind, with this debug location
pub record ReadsAs (meta : Maps) (line : List ℕ) (kind : ItemKind) (loc : Loc) : Type 0 where
  pub form : ItemForm
  pub says : body_line_of false line ≡ Ok (OfItem form)
  pub means : judged false meta form ≡ Ok (judged_as.Item (record { kind = kind; loc = loc; entries = entries_of form.operands }))

-- The printed line of a debug value or DBG_PHI is read back as it, given the same metadata.
abbrev pub DebugLinesReadBack : Type 0
DebugLinesReadBack = (meta : Maps) (i : Item) → IsWritable i → IsDebug meta i.loc i.kind → ReadsAs meta (codes "    " ++ item_text i) i.kind i.loc
