use Rattle.std.proofs.Common.{inl, inr, refl, sym, ◌∙◌, arith}
use Rattle.value_solver.proofs.renumber.Numbers.number.Goals as goal

pub returns-in-Some : goal.returns-in-Some
returns-in-Some c = inl (sym c.find.ensures ∙ c.in-Some.is, λ w. refl, refl)

pub returns-in_ok-put-in-None : goal.returns-in_ok-put-in-None
returns-in_ok-put-in-None c = inr (sym c.find.ensures ∙ c.in-None.is, c.in_ok-put-in-None.ensures, omega arith, refl)
