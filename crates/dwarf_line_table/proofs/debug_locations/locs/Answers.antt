use Rattle.std.proofs.Common.{◌+◌, ◌-◌, arith, refl, ◌∙◌}
use Rattle.std.proofs.lemmas.List.{length-set}
use Rattle.dwarf_line_table.proofs.Locs.{all_absent, found_next, first_at, next_loc}
use Rattle.dwarf_line_table.proofs.debug_locations.locs.Goals as goal

pub loop-index-init : goal.loop-index-init
loop-index-init c = record {
  long = omega (arith, c.in_ok-locs.ensures.len);
  within = omega arith;
  found = all_absent _ _ _ (c.in_ok-locs.ensures.items_if_clones_equal (λ y e. e)) refl;
}

pub loop-index-preserved : goal.loop-index-preserved
loop-index-preserved c = record {
  long = length-set _ _ _ ∙ c.loop-index.invariant.long;
  within = omega (arith, c.loop-index.invariant.within);
  found =
      let index = c.loop-index.index in
      let behind = next_loc c.loop-index.locs.items (index - 1 + 1) _ _ c.index.ensures
      (omega (arith, c.loop-index.invariant.within, c.loop-index.invariant.long)) in
      let here = first_at c.args.items.now (index - 1) _ _ (omega (arith, c.loop-index.invariant.within)) c.index-items-index.is
      (behind ∙ c.loop-index.invariant.found (index - 1 + 1) (omega arith)) in
      found_next c.args.items.now c.loop-index.locs.items index _ c.loop-index-test.true c.loop-index.invariant.within c.loop-index.invariant.long
      (c.loc_if_code.ensures ∙ here) c.loop-index.invariant.found;
}
