-- Conditions under which the listing of a function with its frame is printable.
use Rattle.std.specs.Prelude.{ℕ, ℤ, ◌≤◌, Option, Some, None, IfSome, All}
use Rattle.base_ids.specs.Limits.{FIXED}
use Rattle.mir_func.specs.declared.block.Block.{Block}
use Rattle.mir_func.specs.declared.item.Item.{Item}
use Rattle.mir_func.specs.declared.item.ItemKind.{ItemKind}
use Rattle.mir_func.specs.declared.item.ItemKind.TheVariants.{Code, Mark, Phi}
use Rattle.mir_func.specs.declared.location.Loc.{Loc}
use Rattle.mir_func.specs.Function.{FramedFunction}
use Rattle.emit_code.specs.steps.Emitted.{IsFormed}
use Rattle.mir_printer.specs.Printable.{IsNumber, HasNumbers, IsPrintablePlace, IsPrintableValue, IsPrintableLoc, IsPrintableVariable}
use Rattle.listing_text.specs.Shown.{IsPrintableOrigin, declared_by}

-- Its numbers have 32 bits, and the variable of a debug value is inlined at the same node as the debug value's location.
abbrev pub IsPrintableFramedKind : (inlined : ℕ → Option ℕ) → Loc → ItemKind → Type 0
IsPrintableFramedKind inlined loc (Code i k) = All HasNumbers i.operands × IfSome k IsNumber
IsPrintableFramedKind inlined loc (Mark v m) = IsPrintableVariable (declared_by inlined) loc v × IsPrintableValue m
IsPrintableFramedKind inlined loc (Phi p k) = IsPrintablePlace p × IsNumber k

-- The item can be printed and parsed back: its code, its origin and its debug location.
pub record IsPrintableFramedItem (inlined : ℕ → Option ℕ) (i : Item) : Type 0 where
  pub form : IsFormed i
  pub kind : IsPrintableFramedKind inlined i.loc i.kind
  pub origin : IsPrintableOrigin i.origin
  pub loc : IsPrintableLoc i.loc

-- a basic block that can be printed and parsed back
pub record IsPrintableFramedBlock (inlined : ℕ → Option ℕ) (b : Block) : Type 0 where
  pub id : IsNumber b.id
  pub items : All (IsPrintableFramedItem inlined) b.items

-- an object has a number of 32 bits, a fixed one that of a fixed one
abbrev pub IsPrintableNumber : (id : ℕ) → (fixed : Option ℤ) → Type 0
IsPrintableNumber id None = IsNumber id
IsPrintableNumber id (Some d) = IsNumber id × (FIXED ≤ id)

-- Code has the form of its opcode, and numbers have 32 bits. `inlined` maps the node of a DILocation to the node of its `inlinedAt`.
pub record IsPrintableFramed (inlined : ℕ → Option ℕ) (f : FramedFunction) : Type 0 where
  pub objects : All (λ o. IsPrintableNumber o.id o.fixed_offset) f.objects
  pub blocks : All (IsPrintableFramedBlock inlined) f.blocks
