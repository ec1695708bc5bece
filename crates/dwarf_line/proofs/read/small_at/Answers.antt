use Rattle.std.proofs.Common.{◌∙◌, sym, arith}
use Rattle.dwarf_line.proofs.Numbers.{uleb_again, uleb_fault, uleb_one}
use Rattle.dwarf_line.proofs.read.small_at.Goals as goal

pub returns-then-n : goal.returns-then-n
returns-then-n c = rw c.in-Some.ensures.some (uleb_again _ _ _ (omega arith))

pub returns-else-n : goal.returns-else-n
returns-else-n c = uleb_fault _ _ (λ n rest fits e. let same = uleb_one _ _ _ _ (sym c.in-Some.ensures.some ∙ e) in absurd (omega (arith, same)))

pub returns-in-None : goal.returns-in-None
returns-in-None c = uleb_fault _ _ (λ n rest fits e. c.in-None.ensures.none n rest (omega arith) e)
