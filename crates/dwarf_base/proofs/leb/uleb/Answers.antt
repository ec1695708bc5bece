use Rattle.std.proofs.Common.{arith, ◌∙◌, sym}
use Rattle.dwarf_base.proofs.LebLaws.{uleb_of-groups, uleb_law, uleb_shortest}
use Rattle.dwarf_base.proofs.leb.uleb.Goals as goal

pub returns-clause-bytes : goal.returns-clause-bytes
returns-clause-bytes c = c.spelled.ensures ∙ sym (uleb_of-groups c.args.v (omega arith))

pub returns-clause-spells : goal.returns-clause-spells
returns-clause-spells c = rw (c.spelled.ensures, ← uleb_of-groups c.args.v (omega arith)) (uleb_law c.args.v)

pub returns-clause-shortest : goal.returns-clause-shortest
returns-clause-shortest c = λ bytes is e. rw (c.spelled.ensures, ← uleb_of-groups c.args.v (omega arith)) (uleb_shortest c.args.v bytes is e)
