use Rattle.std.proofs.Common.{map}
use Rattle.std.specs.Prelude.{IsTrue}
use Rattle.mir_func.specs.declared.item.Item.{Item}
use Rattle.mir_func.specs.Resolve.{resolve}
use Rattle.value_solver.specs.Entry.{thing}
use Rattle.value_live_ins.specs.Above.{AreAbove}
use Rattle.value_live_ins.specs.Gathering.{IsGathered, Grows, AppendsOnly, KnowsPassed}
use Rattle.value_live_ins.specs.Used.{IsNamedIn}
use Rattle.value_live_ins.proofs.Each.{EachBelow}
use Rattle.value_live_ins.proofs.Gathering.{PassedBelow}
use Rattle.value_live_ins.proofs.things.note_items.Given as goal

abbrev pub invariant-loop-i : goal.invariant-loop-i
invariant-loop-i l = record {
  gathered : IsGathered l.gathered;
  grows : Grows l.initial.gathered.things l.gathered.things;
  above : AreAbove l.i l.above;
  knows : PassedBelow (map thing l.gathered.things) (resolve l.subs) l.items l.i;
  whole : IsTrue l.whole → EachBelow (λ (item : Item). KnowsPassed (map thing l.gathered.things) (resolve l.subs) item.kind) l.i l.items;
  only : AppendsOnly (IsNamedIn (resolve l.subs) l.items) l.initial.gathered.things l.gathered.things;
}
