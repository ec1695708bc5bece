use Rattle.std.proofs.Common.{◌≡◌, Some, ap, ◌∙◌, sym, arith}
use Rattle.dwarf_loclists.specs.Ranges.{nth_piece}
use Rattle.dwarf_loclists.proofs.SplitLemmas.{left_on, left_none}
use Rattle.dwarf_loclists.proofs.split.nth.Goals as goal

pub returns-in-None : goal.returns-in-None
returns-in-None c = λ l s. sym (left_none l c.loop.counter c.args.n c.loop.from c.loop.rest.now (c.loop.invariant l s) (omega arith) c.in-None.ensures.none)

pub loop-preserved : goal.loop-preserved
loop-preserved c = λ l s.
    (left_on l c.loop.counter c.loop.from c.loop.rest.now c.in-Some.part c.in-Some.after.now (c.loop.invariant l s) c.in-Some.ensures.some
    c.in-Some.ensures.is).0

pub returns-in-Some-split_piece : goal.returns-in-Some-split_piece
returns-in-Some-split_piece c = λ l s.
    let at : c.loop.counter ≡ c.args.n = omega arith in
    sym (left_on l c.loop.counter c.loop.from c.loop.rest.now c.in-Some-split_piece.part c.in-Some-split_piece.field-0-1.now (c.loop.invariant l s)
    c.in-Some-split_piece.ensures.some c.in-Some-split_piece.ensures.is).1
    ∙ ap (nth_piece (Some l)) at

pub returns-in-None-split_piece : goal.returns-in-None-split_piece
returns-in-None-split_piece c = λ l s.
    sym (left_none l c.loop.counter c.args.n c.loop.from c.loop.rest.now (c.loop.invariant l s) (omega arith) c.in-None-split_piece.ensures.none)
