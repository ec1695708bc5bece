-- The instructions of a function with the calls through which they were inlined.
use Rattle.std.specs.Prelude.{◌≡◌, ℕ, ◌+◌, Bool, List, [], ◌∷◌, Option, cond, nat_eq, reverse}
use Rattle.std.specs.List.{AllZip, flat_map, list_any}
use Rattle.read_metadata.specs.Maps.{Maps}
use Rattle.read_item.specs.Debug.{inlined_at}
use Rattle.mir_func.specs.declared.block.Block.{Block}
use Rattle.mir_func.specs.Positions.{position_of}
use Rattle.dwarf_line_table.specs.emit_code.declared.code.EncodedInstruction.{EncodedInstruction}
use Rattle.dwarf_line_table.specs.Files.{first_uses}
use Rattle.dwarf_line_table.specs.SourcePosition.{loc_of, scope_line}
use Rattle.dwarf_line_table.specs.declared.source_and_code.SourceAndCode.{SourceAndCode}
use Rattle.dwarf_rnglists.specs.declared.range.AddressRange.{AddressRange}
use Rattle.inline_instances.specs.Calls.{AreCalls}

-- an instruction: its addresses, the scope of its debug location, and the calls through which it was inlined, inner ones first
pub record InlinedWord : Type 0 where
  pub lo : ℕ
  pub hi : ℕ
  pub scope : Option ℕ
  pub calls : List ℕ

-- the instruction's debug location is that of the first code at or after its origin, in the blocks of the function as it was read. So that of the prologue is
-- the one of the function's first code
pub record IsInlined (meta : Maps) (blocks : List Block) (e : EncodedInstruction) (w : InlinedWord) : Type 0 where
  pub lo : w.lo ≡ e.address
  pub hi : w.hi ≡ e.address + e.size
  pub scope : w.scope ≡ (scope_line meta (loc_of blocks (position_of e.origin))).scope
  pub calls : AreCalls meta (inlined_at meta (loc_of blocks (position_of e.origin))) w.calls

-- the instructions of a function
abbrev pub AreInlined : Maps → SourceAndCode → List InlinedWord → Type 0
AreInlined meta f words = AllZip (IsInlined meta f.source.now.blocks) f.code.now.entries words

-- the instruction was inlined through a call
abbrev pub has_call : ℕ → InlinedWord → Bool
has_call n w = list_any (nat_eq n) w.calls

-- the calls of instructions: by their first instruction, outer ones first
abbrev pub calls_of : List InlinedWord → List ℕ
calls_of words = first_uses nat_eq [] (flat_map (λ w. reverse w.calls) words)

-- ranges with an instruction before them, which joins the first one if that begins where it ends
abbrev pub extended : (lo hi : ℕ) → List AddressRange → List AddressRange
extended lo hi [] = record { lo = lo; hi = hi } ∷ []
extended lo hi (r ∷ rs) = cond (nat_eq hi r.lo) (record { lo = lo; hi = r.hi } ∷ rs) (record { lo = lo; hi = hi } ∷ r ∷ rs)

-- the addresses of the instructions that were inlined through a call, in maximal ranges
abbrev pub ranges_of : ℕ → List InlinedWord → List AddressRange
ranges_of n [] = []
ranges_of n (w ∷ ws) = cond (has_call n w) (extended w.lo w.hi (ranges_of n ws)) (ranges_of n ws)
