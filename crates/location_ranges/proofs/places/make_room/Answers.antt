use Rattle.std.proofs.Common.{◌<◌, ℕ, length, arith, sym, subst, inl, inr}
use Rattle.std.proofs.lemmas.Bool.{cases_lt}
use Rattle.location_ranges.proofs.places.make_room.Goals as goal

pub returns-clause-room : goal.returns-clause-room
returns-clause-room c = λ i lt. elim (cases_lt i c.args.end) [
  | inl below ↦ c.loop-i.invariant.room i (let stop = c.loop-i-test.false in omega (arith, below, stop))
  | inr le ↦ subst (λ (n : ℕ). n < length c.loop-i.firsts.items) (sym (c.requires.rest i le)) c.loop-i.invariant.some
]
