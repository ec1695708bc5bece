use Rattle.std.proofs.Common.{sym}
use Rattle.dwarf_loclists.proofs.SplitLemmas.{whole_front, no_front, not_empty, is_empty}
use Rattle.dwarf_loclists.proofs.split.whole.Goals as goal

pub returns-then-is_empty-clause-place : goal.returns-then-is_empty-clause-place
returns-then-is_empty-clause-place c = λ l s.
    sym ((whole_front c.args.bytes.now l c.in-Some.place c.in-Some.rest.now s c.in-Some.ensures.some c.in-Some.ensures.listed).0
    (is_empty c.in-Some.rest.now _ c.is_empty.ensures c.if-is_empty.true))

pub returns-else-is_empty-clause-place : goal.returns-else-is_empty-clause-place
returns-else-is_empty-clause-place c = λ l s.
    sym ((whole_front c.args.bytes.now l c.in-Some.place c.in-Some.rest.now s c.in-Some.ensures.some c.in-Some.ensures.listed).1
    (not_empty c.in-Some.rest.now _ c.is_empty.ensures c.if-is_empty.false))

pub returns-in-None-clause-place : goal.returns-in-None-clause-place
returns-in-None-clause-place c = λ l s. sym (no_front c.args.bytes.now l s c.in-None.ensures.none)
