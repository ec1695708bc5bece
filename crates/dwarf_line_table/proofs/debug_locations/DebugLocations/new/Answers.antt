use Rattle.std.proofs.Common.{◌≡◌, suc, ◌-◌, arith, sym, ap, ◌∙◌, drop}
use Rattle.std.proofs.lemmas.List.{get_or_default}
use Rattle.mir_func.specs.declared.block.Block.{Block}
use Rattle.mir_func.specs.declared.position.Pos.{Pos}
use Rattle.dwarf_line_table.specs.SourcePosition.{loc_of}
use Rattle.dwarf_line_table.proofs.Locs.{places_more, places_none}
use Rattle.dwarf_line_table.proofs.debug_locations.DebugLocations.new.Goals as goal

pub loop-index-init : goal.loop-index-init
loop-index-init c = record {
  within = omega arith;
  found = places_none c.args.blocks.now c.new-places.result _ c.new-places.ensures.empty (omega arith);
}

pub loop-index-preserved : goal.loop-index-preserved
loop-index-preserved c =
    let index = c.loop-index.index in
    let next : index ≡ suc (index - 1) = omega (arith, c.loop-index-test.true) in
    let here = c.index-blocks-index.is in
    record {
      within = omega (arith, c.loop-index.invariant.within);
      found =
          places_more c.args.blocks.now c.loop-index.places c.insert.new.self (index - 1) c.index-blocks-index.result _ c.in_ok-locs.locs _
          (omega (arith, c.loop-index-test.true, c.loop-index.invariant.within)) here
          (c.number.ensures ∙ ap (λ (b : Block). b.id) (get_or_default c.args.blocks.now (index - 1) _ _
          (omega (arith, c.loop-index-test.true, c.loop-index.invariant.within)) ∙ sym here))
          (c.as_slice.ensures ∙ ap (λ (b : Block). b.items) (sym here)) c.in_ok-locs.ensures c.in_ok-insert.ensures.updates.0
          (λ (p : Pos). c.loop-index.invariant.found p ∙ ap (λ n. loc_of (drop n c.args.blocks.now) p) next);
    }
