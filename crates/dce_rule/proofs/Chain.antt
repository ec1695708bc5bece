-- Rounds one after another.
use Rattle.mir_func.specs.Function.{Function}
use Rattle.dce_rule.specs.Dead.{IsRound, IsThinnedOut, over, again}
use Rattle.dce_rule.specs.Rounds.{AreRounds, no_round, one_more_round, LooseLaws}
use Rattle.dce_rule.proofs.Settled.{settled_follows}
use Rattle.pass_edits.proofs.Loose.{loosely}

-- rounds, and then those that end
rounds_then : {f g h : Function} → AreRounds f g → IsThinnedOut g h → IsThinnedOut f h
rounds_then no_round more = more
rounds_then (one_more_round {h = h} g so_far r) more = rounds_then so_far (again h r more)

pub rounds_end : (f g : Function) → AreRounds f g → IsRound g g → IsThinnedOut f g
rounds_end f g so_far last = rounds_then so_far (over last)

pub loose_laws : LooseLaws
loose_laws = record {
  itself = λ f subs. record { follows = λ src fol. fol; ends = λ src fol whole. whole };
  then = λ f g h a b c one two. record {
    follows = λ src fol. two.follows src (one.follows src fol);
    ends = λ src fol whole. two.ends src (one.follows src fol) (one.ends src fol whole);
  };
  settles = λ f g subs more keeps sound last. record {
    follows = λ src fol ends. settled_follows g more sound last src (keeps.follows src (loosely f subs src fol));
    ends = λ k src fol whole. keeps.ends src (loosely f subs src fol) whole;
  };
}
