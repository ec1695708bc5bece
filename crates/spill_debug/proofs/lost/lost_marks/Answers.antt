use Rattle.std.proofs.Common.{◌≡◌, List, map, ◌∙◌, ap, sym, subst}
use Rattle.std.specs.List.{dedup}
use Rattle.std.proofs.lemmas.List.{take_all}
use Rattle.std.proofs.lemmas.List.Filters.{dedup_is}
use Rattle.mir_func.specs.declared.position.Pos.{Pos}
use Rattle.pass_trait.specs.Order.{IsInOrder}
use Rattle.spill_debug.specs.Lost.{AreMarksLost, mark_from}
use Rattle.spill_debug.proofs.LostMarks.{pos_eq, sorted_in_order, each_lost}
use Rattle.spill_debug.proofs.lost.lost_marks.Goals as goal

made : (c : goal.After-drop-marks-2) → c.loop-p.losses ≡ map (λ p. mark_from p c.args.why) (dedup pos_eq c.sort_unstable.new.self.items)
made c =
    let ps : List Pos = c.deref-p-items.result.now in
    let e : ps ≡ dedup pos_eq c.sort_unstable.new.self.items = c.deref-p-items.ensures.value ∙
    dedup_is pos_eq c.sort_unstable.new.self.items c.dedup.new.self.items c.dedup.ensures.filtered in
    c.loop-p.invariant ∙ ap (λ (qs : List Pos). map (λ p. mark_from p c.args.why) qs) (take_all c.loop-p.p-index ps c.loop-p-test.false ∙ e)

pub returns-clause-ordered : goal.returns-clause-ordered
returns-clause-ordered c = subst IsInOrder (sym (made c)) (sorted_in_order c.args.why c.sort_unstable.new.self.items c.sort_unstable.ensures.sorted)

pub returns-clause-each : goal.returns-clause-each
returns-clause-each c = subst (AreMarksLost c.args.marks.items c.args.why) (sym (made c))
    (each_lost c.args.why c.args.marks.items c.sort_unstable.new.self.items c.sort_unstable.ensures.permutation)
