use Rattle.std.proofs.Common.{arith, eq-eqb}
use Rattle.dwarf_info.proofs.EntryLemmas.{named_front, named_whole}
use Rattle.dwarf_info.proofs.entry.text_of.Goals as goal

pub returns-then-byte-eq0 : goal.returns-then-byte-eq0
returns-then-byte-eq0 c = named_front _ _ c.loop-i-test.true c.loop-i.invariant (eq-eqb _ _ c.if-byte-eq0.true)

pub returns : goal.returns
returns c = named_whole _ c.loop-i.i c.loop-i-test.false (omega arith) c.loop-i.invariant
