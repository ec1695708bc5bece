use Rattle.std.proofs.Common.{◌∙◌, sym}
use Rattle.dwarf_base.proofs.LebLaws.{negative_bits, other_bits, sleb_of-groups, sleb_law, sleb_shortest}
use Rattle.dwarf_base.proofs.leb.sleb.Goals as goal

pub returns-then-v-lt0-clause-bytes : goal.returns-then-v-lt0-clause-bytes
returns-then-v-lt0-clause-bytes c = c.spelled.ensures ∙ sym (sleb_of-groups _ _ _ (negative_bits _ c.ranges.v c.if-v-lt0.true))

pub returns-then-v-lt0-clause-spells : goal.returns-then-v-lt0-clause-spells
returns-then-v-lt0-clause-spells c = rw (c.spelled.ensures, ← sleb_of-groups _ _ _ (negative_bits _ c.ranges.v c.if-v-lt0.true)) (sleb_law c.args.v)

pub returns-then-v-lt0-clause-shortest : goal.returns-then-v-lt0-clause-shortest
returns-then-v-lt0-clause-shortest c = λ bytes is e. rw (c.spelled.ensures, ← sleb_of-groups _ _ _ (negative_bits _ c.ranges.v c.if-v-lt0.true))
    (sleb_shortest c.args.v bytes is e)

pub returns-else-v-lt0-clause-bytes : goal.returns-else-v-lt0-clause-bytes
returns-else-v-lt0-clause-bytes c = c.spelled-else-v-lt0.ensures ∙ sym (sleb_of-groups _ _ _ (other_bits _ c.ranges.v c.if-v-lt0.false))

pub returns-else-v-lt0-clause-spells : goal.returns-else-v-lt0-clause-spells
returns-else-v-lt0-clause-spells c = rw (c.spelled-else-v-lt0.ensures, ← sleb_of-groups _ _ _ (other_bits _ c.ranges.v c.if-v-lt0.false)) (sleb_law c.args.v)

pub returns-else-v-lt0-clause-shortest : goal.returns-else-v-lt0-clause-shortest
returns-else-v-lt0-clause-shortest c = λ bytes is e. rw (c.spelled-else-v-lt0.ensures, ← sleb_of-groups _ _ _ (other_bits _ c.ranges.v c.if-v-lt0.false))
    (sleb_shortest c.args.v bytes is e)
