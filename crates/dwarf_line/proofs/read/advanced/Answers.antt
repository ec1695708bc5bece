use Rattle.std.proofs.Common.{◌-◌, ◌∙◌, sym, arith}
use Rattle.dwarf_line.proofs.Numbers.{advanced_by, advanced_fault, uleb_one}
use Rattle.dwarf_line.proofs.read.advanced.Goals as goal

pub returns-then-by-from : goal.returns-then-by-from
returns-then-by-from c = advanced_by _ _ _ _ c.in-Some.ensures.some (omega arith)

pub returns-else-by-from : goal.returns-else-by-from
returns-else-by-from c = advanced_fault _ _ (λ to rest above fits e. let same = uleb_one _ _ _ _ (sym c.in-Some.ensures.some ∙ e) in absurd
    (omega (arith, same)))

pub returns-in-None : goal.returns-in-None
returns-in-None c = advanced_fault _ _ (λ to rest above fits e. c.in-None.ensures.none (to - c.args.from) rest (omega arith) e)
