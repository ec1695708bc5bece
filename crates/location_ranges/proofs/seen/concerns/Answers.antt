use Rattle.std.proofs.Common.{sym, ◌∙◌, inr}
use Rattle.location_ranges.proofs.seen.concerns.Goals as goal

pub returns : goal.returns
returns c = λ off. inr (sym c.is_used.ensures ∙ c.if-is_used.false, sym c.is_used-2.ensures ∙ off)
