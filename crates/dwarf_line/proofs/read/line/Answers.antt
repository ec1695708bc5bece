use Rattle.std.specs.Prelude.{pos, ◌-ℤ◌}
use Rattle.std.proofs.Common.{◌∙◌, sym, arith}
use Rattle.std.proofs.lemmas.Int.{ints}
use Rattle.dwarf_line.proofs.Numbers.{line_by, line_fault, sleb_one}
use Rattle.dwarf_line.proofs.read.line.Goals as goal

pub returns-then-by-from : goal.returns-then-by-from
returns-then-by-from c = line_by _ _ _ _ _ c.in-Some.ensures.some (omega (arith, ints)) (omega (arith, ints))

pub returns-else-from-by : goal.returns-else-from-by
returns-else-from-by c = line_fault _ _ (λ to rest fits e. let same = sleb_one _ _ _ _ (sym c.in-Some.ensures.some ∙ e) in absurd (omega (arith, ints, same)))

pub returns-in-None : goal.returns-in-None
returns-in-None c = line_fault _ _ (λ to rest fits e. c.in-None.ensures.none (pos to -ℤ pos c.args.from) rest (omega (arith, ints)) e)
