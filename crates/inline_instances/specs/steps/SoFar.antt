-- What is known while the instructions of a function are walked.
use Rattle.std.specs.Prelude.{◌≡◌, ℕ, List, [], length, Option, Some, slice_get, get_or, nat_eq}
use Rattle.std.specs.List.{AllZip, list_any}
use Rattle.read_metadata.specs.Maps.{Maps}
use Rattle.mir_func.specs.declared.block.Block.{Block}
use Rattle.dwarf_line_table.specs.emit_code.declared.code.EncodedInstruction.{EncodedInstruction}
use Rattle.inline_instances.specs.declared.instance.Instance.{Instance}
use Rattle.inline_instances.specs.declared.table.InstanceTable.{InstanceTable}
use Rattle.inline_instances.specs.declared.ranges.OpenRanges.{OpenRanges}
use Rattle.inline_instances.specs.Calls.{AreCallsFrom}
use Rattle.inline_instances.specs.Words.{InlinedWord, IsInlined, calls_of}
use Rattle.inline_instances.specs.Instances.{IsIndexOf, inlined_scope}
use Rattle.inline_instances.specs.steps.Table.{IsTable, calls_in}
use Rattle.inline_instances.specs.steps.Open.{HasRanges}

-- The instances of the instructions up to an address, of which the last one is in the code of the instance with this index.
pub record IsSoFar (meta : Maps) (blocks : List Block) (front : List EncodedInstruction) (end : ℕ) (t : InstanceTable) (o : OpenRanges) (inside : Option ℕ)
    : Type 0 where
  pub words : List InlinedWord
  pub instructions : AllZip (IsInlined meta blocks) front words
  pub table : IsTable meta [] t
  pub calls : calls_in t.instances.items ≡ calls_of words
  pub scopes : (k : ℕ) (i : Instance) → slice_get t.instances.items k ≡ Some i → i.scope ≡ inlined_scope meta i.call words
  pub from : Option ℕ
  pub last : List ℕ
  pub way : AreCallsFrom meta from last
  pub index : IsIndexOf (calls_in t.instances.items) inside from
  pub ranges : length o.ranges.items ≡ length t.instances.items
  pub starts : length o.starts.items ≡ length t.instances.items
  pub has : (k n : ℕ) → slice_get (calls_in t.instances.items) k ≡ Some n →
      HasRanges words end (list_any (nat_eq n) last) (get_or o.starts.items k 0) (get_or o.ranges.items k []) n
