use Rattle.std.proofs.Common.{◌∙◌, sym, arith}
use Rattle.dwarf_line.proofs.Numbers.{uleb_again, uleb_fault, uleb_one}
use Rattle.dwarf_frame.proofs.read.uleb_below.Goals as goal

pub returns-then-n-limit-clause-gives : goal.returns-then-n-limit-clause-gives
returns-then-n-limit-clause-gives c = rw c.in-Some.ensures.some (uleb_again _ _ _ (omega arith))

pub returns-else-n-limit-clause-gives : goal.returns-else-n-limit-clause-gives
returns-else-n-limit-clause-gives c =
    uleb_fault _ _ (λ n rest fits e. let same = uleb_one _ _ _ _ (sym c.in-Some.ensures.some ∙ e) in absurd (omega (arith, same)))

pub returns-in-None-clause-gives : goal.returns-in-None-clause-gives
returns-in-None-clause-gives c = uleb_fault _ _ (λ n rest fits e. c.in-None.ensures.none n rest (omega arith) e)
