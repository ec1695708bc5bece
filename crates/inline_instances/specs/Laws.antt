-- Laws of the inlined subroutines of a function.
use Rattle.std.specs.Prelude.{◌≡◌, ◌↔◌, ℕ, ◌+◌, ◌<◌, ◌≤◌, List, All, Contains, Some, slice_get}
use Rattle.read_metadata.specs.Maps.{Maps}
use Rattle.read_item.specs.Debug.{inlined_at}
use Rattle.mir_func.specs.Positions.{position_of}
use Rattle.dwarf_line_table.specs.emit_code.declared.code.EncodedInstruction.{EncodedInstruction}
use Rattle.dwarf_line_table.specs.emit_code.Laid.{StandFrom}
use Rattle.dwarf_line_table.specs.declared.source_and_code.SourceAndCode.{SourceAndCode}
use Rattle.dwarf_line_table.specs.Program.{function_end}
use Rattle.dwarf_line_table.specs.SourcePosition.{loc_of}
use Rattle.dwarf_rnglists.specs.declared.range.AddressRange.{AddressRange}
use Rattle.dwarf_rnglists.specs.Ranges.{Ascend, Cover}
use Rattle.inline_instances.specs.declared.instance.Instance.{Instance}
use Rattle.inline_instances.specs.declared.instance.InlinedCode.{InlinedCode}
use Rattle.inline_instances.specs.Calls.{AreCallsFrom, call_at}
use Rattle.inline_instances.specs.Instances.{AreInstances}

-- the calls of an instruction's debug location, as numbers of nodes: a call is among them
pub record IsInlinedThrough (meta : Maps) (f : SourceAndCode) (e : EncodedInstruction) (n : ℕ) : Type 0 where
  pub calls : List ℕ
  pub are : AreCallsFrom meta (call_at meta (inlined_at meta (loc_of f.source.now.blocks (position_of e.origin)))) calls
  pub among : Contains calls n

-- An address of an instruction is in the ranges of an instance exactly if the first code at or after the instruction's origin was inlined through the
-- instance's call.
abbrev pub RangesAreOfInlinedCode : Type 0
RangesAreOfInlinedCode = (meta : Maps) (f : SourceAndCode) (inlined : InlinedCode) → AreInstances meta f inlined →
    StandFrom f.code.now.base f.code.now.entries (function_end f) → (e : EncodedInstruction) (address : ℕ) → Contains f.code.now.entries e →
    e.address ≤ address → address < e.address + e.size → (k : ℕ) (i : Instance) (ranges : List AddressRange) → slice_get inlined.instances k ≡ Some i →
    slice_get inlined.ranges k ≡ Some ranges → Cover ranges address ↔ IsInlinedThrough meta f e i.call

-- The ranges of an instance are maximal: each is nonempty, they ascend, and no two touch.
abbrev pub RangesAscend : Type 0
RangesAscend = (meta : Maps) (f : SourceAndCode) (inlined : InlinedCode) → AreInstances meta f inlined →
    StandFrom f.code.now.base f.code.now.entries (function_end f) → All Ascend inlined.ranges

-- Each call through which an instruction was inlined has an instance.
abbrev pub EachCallHasAnInstance : Type 0
EachCallHasAnInstance = (meta : Maps) (f : SourceAndCode) (inlined : InlinedCode) → AreInstances meta f inlined →
    (e : EncodedInstruction) (n : ℕ) → Contains f.code.now.entries e → IsInlinedThrough meta f e n →
    (k : ℕ) × (i : Instance) × (slice_get inlined.instances k ≡ Some i) × (i.call ≡ n)
