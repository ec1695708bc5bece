use Rattle.std.specs.List.{flat_map}
use Rattle.std.proofs.Common.{length, arith, ap}
use Rattle.dwarf_info.specs.Entries.{type_offset}
use Rattle.dwarf_info.specs.steps.Parts.{type_bytes, function_bytes}
use Rattle.dwarf_info.proofs.TreeLemmas.{length-spelling}
use Rattle.dwarf_info.proofs.size.section_len.Goals as goal

pub returns : goal.returns
returns c =
    let u = c.args.u.now in
    omega (
      arith,
      length-spelling u,
      ap (λ ts. length (flat_map type_bytes ts)) c.as_slice.ensures,
      ap (λ fs. length (flat_map (function_bytes (type_offset u)) fs)) c.as_slice-2.ensures,
      c.compile_unit_len.ensures,
      c.types_len.ensures,
      c.functions_len.ensures (type_offset u),
      c.saturating_add.ensures,
      c.saturating_add-2.ensures,
      c.saturating_add-3.ensures,
    )
