-- A function that was read has printable items, and a function with printable items is printable with its frame.
use Rattle.std.specs.Prelude.{ℕ, Option, All}
use Rattle.read_metadata.specs.Maps.{Maps}
use Rattle.read_metadata.specs.Metadata.{location_at}
use Rattle.mir_func.specs.declared.block.Block.{Block}
use Rattle.mir_func.specs.Function.{Function}
use Rattle.mir_func.specs.Sound.{AllItems, IsSound, HasForm}
use Rattle.mir_func.specs.SoundFrame.{IsFramed}
use Rattle.read_proof.specs.read_item.Debug.{inlined_at_node}
use Rattle.mir_printer.specs.Printable.{IsNumber, IsPrintableLoc}
use Rattle.frame_rule.specs.Rule.{framed_of}
use Rattle.read_proof.specs.Read.{IsReadFunction}
use Rattle.listing_function.specs.Printable.{IsPrintableNumber, IsPrintableFramedKind, IsPrintableFramed}

-- the node at which the DILocation of a node is inlined, by the metadata
abbrev pub inlined_in : Maps → ℕ → Option ℕ
inlined_in meta n = inlined_at_node (location_at meta n)

-- The numbers of a block and of its items have 32 bits, and the variable of a debug value is inlined at the same node as the debug value's location,
-- by `inlined`.
pub record IsPrintableBlock (inlined : ℕ → Option ℕ) (b : Block) : Type 0 where
  pub id : IsNumber b.id
  pub source_end : IsNumber b.source_end
  pub kinds : All (λ i. IsPrintableFramedKind inlined i.loc i.kind) b.items
  pub locs : All (λ i. IsPrintableLoc i.loc) b.items

-- Each block is printable, and the numbers of stack objects have 32 bits.
pub record IsPrintableBody (inlined : ℕ → Option ℕ) (f : Function) : Type 0 where
  pub objects : All (λ o. IsPrintableNumber o.id o.fixed_offset) f.objects
  pub blocks : All (IsPrintableBlock inlined) f.blocks

-- A function that was read has a printable body.
abbrev pub ReadFunctionsHavePrintableBodies : Type 0
ReadFunctionsHavePrintableBodies = (meta : Maps) (f : Function) → IsReadFunction meta f → IsPrintableBody (inlined_in meta) f

-- A sound function with a printable body, whose code has the form of its opcode, is printable with its frame.
abbrev pub BodiesArePrintable : Type 0
BodiesArePrintable = (inlined : ℕ → Option ℕ) (f : Function) → IsPrintableBody inlined f → IsSound f → AllItems (λ i. HasForm i.kind) f.blocks →
    IsFramed (framed_of f) → IsPrintableFramed inlined (framed_of f)

-- A function that was read is printable with its frame.
abbrev pub ReadFunctionsArePrintable : Type 0
ReadFunctionsArePrintable = (meta : Maps) (f : Function) → IsReadFunction meta f → IsFramed (framed_of f) →
    IsPrintableFramed (inlined_in meta) (framed_of f)
