use Rattle.std.proofs.Common.{refl, ap, length}
use Rattle.dwarf_loclists.proofs.SplitLemmas.{pieces_on, pieces_back, no_pieces, pieces_end, piece_shorter, not_empty, is_empty}
use Rattle.dwarf_loclists.proofs.split.are_pieces.Goals as goal

pub returns-in-None : goal.returns-in-None
returns-in-None c = (
  (λ h. absurd cc),
  λ s. absurd (not_empty c.loop-rest.rest.now _ c.is_empty.ensures c.loop-rest-test.true
      (no_pieces c.loop-rest.from c.loop-rest.rest.now c.in-None.ensures.none (c.loop-rest.invariant.back s))),
)

pub loop-rest-preserved : goal.loop-rest-preserved
loop-rest-preserved c = record {
  on = λ s. c.loop-rest.invariant.on (pieces_on c.loop-rest.from c.in-Some.part _ _ c.in-Some.ensures.some c.in-Some.ensures.is c.in-Some.ensures.wide s);
  back = λ s. pieces_back c.loop-rest.from c.in-Some.part _ _ c.in-Some.ensures.some c.in-Some.ensures.is (c.loop-rest.invariant.back s);
}

pub loop-rest-smaller : goal.loop-rest-smaller
loop-rest-smaller c = piece_shorter c.loop-rest.from c.in-Some.part c.loop-rest.rest.now c.in-Some.after.now c.in-Some.ensures.some

pub returns : goal.returns
returns c = (
  (λ h. c.loop-rest.invariant.on (pieces_end c.loop-rest.from c.loop-rest.rest.now (ap length (is_empty c.loop-rest.rest.now _ c.is_empty.ensures
      c.loop-rest-test.false)))),
  λ s. refl,
)
