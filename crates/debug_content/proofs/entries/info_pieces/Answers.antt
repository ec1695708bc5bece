use Rattle.std.specs.List.{flat_map}
use Rattle.std.proofs.Common.{List, ℕ, length, arith, ap, sym, ◌∙◌, length-append}
use Rattle.dwarf_info.specs.steps.Parts.{type_bytes}
use Rattle.dwarf_info.proofs.TreeLemmas.{length-spelling, front_length, offsets_at}
use Rattle.debug_content.proofs.Unit.{parts_same, info_made, after_is}
use Rattle.debug_content.proofs.entries.info_pieces.Goals as goal

pub overflow_sub-after : goal.overflow_sub-after
overflow_sub-after c = omega (arith, length-spelling c.args.u.now, c.requires.size, c.section_len-size.ensures)

pub push_types-requires-clause-room : goal.push_types-requires-clause-room
push_types-requires-clause-room c =
    omega (
      arith,
      length-spelling c.args.u.now,
      c.requires.size,
      ap (λ ts. length (flat_map type_bytes ts)) c.as_slice.ensures,
      front_length c.args.u.now _ _ _ _ c.new-front.ensures.items c.in_ok-push_header.ensures c.in_ok-push_compile_unit.ensures,
    )

pub fixed_rest-requires : goal.fixed_rest-requires
fixed_rest-requires c =
    let long = ap (λ (bs : List ℕ). length bs) (c.as_slice-3.ensures.value ∙ c.in_ok-push_types.ensures.bytes) in
    omega (arith, long, c.len-types.ensures, length-append c.push_compile_unit.new.out.items (flat_map type_bytes c.as_slice.result.now))

pub returns : goal.returns
returns c =
    let u = c.args.u.now in
    let first = front_length u _ _ _ _ c.new-front.ensures.items c.in_ok-push_header.ensures c.in_ok-push_compile_unit.ensures in
    let at = offsets_at _ _ _ _ _ c.as_slice.ensures (sym c.deref.ensures.value) c.in_ok-push_types.ensures.offsets in
    info_made c.args.s.now u _ _ _ _ _ _ _ _ _ _ _ _ _ _ _ _
    c.new-pieces.ensures c.in_ok-push_front.ensures c.in_ok-push.ensures.ok c.in_ok-push_functions.ensures c.in_ok-push-2.ensures.ok
    (after_is u c.section_len-size.result c.section_len-size.ensures c.requires.size) c.as_slice-name.ensures c.as_slice-2.ensures
    c.in_ok-fixed_rest.ensures (c.as_slice-3.ensures.value ∙ c.in_ok-push_types.ensures.bytes)
    (c.len-types.ensures ∙ c.push_compile_unit.new.out.ok.0) c.as_slice.ensures c.as_slice-4.ensures
    (parts_same u c.deref.result.now _ first at c.requires.types) c.in_ok-fixed.ensures
