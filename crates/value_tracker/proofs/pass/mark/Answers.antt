use Rattle.std.proofs.Common.{◌≡◌, ◌-◌, ◌<◌, ℕ, List, length, arith, refl, sym, ap, ◌∙◌}
use Rattle.std.specs.Prelude.{Some, slice_get, slice_index}
use Rattle.std.proofs.lemmas.Option.{slice_get_read}
use Rattle.mir_func.specs.declared.variable.VarId.{VarId}
use Rattle.value_tracker.specs.LocationTracker.{part_past}
use Rattle.value_tracker.proofs.Chaining.{past_start, past_step}
use Rattle.value_tracker.proofs.pass.mark.Goals as goal

pub loop-end-init : goal.loop-end-init
loop-end-init c = record {
  count = c.requires;
  within = c.end-end.ensures.within;
  last = c.end-end.ensures.last;
  past = past_start c.args.variables.now c.args.variable.now c.args.class c.args.parts.now.items c.end-end.result (length c.args.variables.now) refl
      c.end-end.ensures;
}

pub loop-end-preserved : goal.loop-end-preserved
loop-end-preserved c =
    let l = c.loop-end in
    let inv = l.invariant in
    let some = c.loop-end-test.true in
    let variables = c.args.variables.now in
    let all = c.as_slice-all.result.now in
    let here = c.index-all-j.result in
    let is = inv.last some in
    let chain = c.end_before-end.ensures in
    let ends = chain is.0 is.1 in
    let count : length all ≡ length variables = ap (λ (ps : List VarId). length ps) c.as_slice-all.ensures in
    let lt : l.end - 1 < length all = let within = inv.within in omega (arith, some, within, count) in
    let at : slice_get all (l.end - 1) ≡ Some here = slice_get_read all (length all) (l.end - 1) here refl lt c.index-all-j.is in
    record {
      count = c.mark_part.ensures.count ∙ inv.count;
      within = let a = ends.within in let b = inv.within in omega (arith, a, b, some);
      last = λ more. let e = ends.last more in (e.0, e.1, e.2 ∙ is.2);
      past = past_step variables c.args.variable.now c.args.class c.args.parts.now.items l.end c.end_before-end.result l.parts.items
          c.mark_part.new.parts.items some is chain
          (λ w e.
          let both : Some here ≡ Some w = sym at ∙ (ap (λ (ps : List VarId). slice_get ps (l.end - 1)) c.as_slice-all.ensures ∙ e) in
          let same : here ≡ w = cc in
          c.mark_part.ensures.here
          ∙ ap (λ (x : VarId). part_past c.args.variable.now c.args.class x (slice_index l.parts.items (l.end - 1))) same)
          c.mark_part.ensures.others inv.past;
    }
