use Rattle.std.proofs.Common.{◌≡◌, map, sym, take, ◌∙◌}
use Rattle.std.specs.Prelude.{true, false}
use Rattle.std.proofs.lemmas.Result.{on_ok_weaker}
use Rattle.mir_func.specs.Resolve.{resolve}
use Rattle.value_solver.specs.Entry.{thing}
use Rattle.value_live_ins.proofs.Gathering.{passed_past}
use Rattle.value_live_ins.proofs.things.note_item.Goals as goal

pub returns-then-is_left_out-clause-knows : goal.returns-then-is_left_out-clause-knows
returns-then-is_left_out-clause-knows c = λ k above.
    c.is_left_out.ensures.knows c.if-is_left_out.true k (map thing c.args.gathered.now.things) above

pub returns-then-is_left_out-clause-whole : goal.returns-then-is_left_out-clause-whole
returns-then-is_left_out-clause-whole c = λ on.
    let both : true ≡ false = sym on ∙ c.is_left_out.ensures.whole c.if-is_left_out.true in
    cc

pub returns-clause-knows : goal.returns-clause-knows
returns-clause-knows c =
    on_ok_weaker c.note.result
    (λ knows k above. passed_past (map thing c.note.new.self.things) (take k c.args.items.now) (resolve c.args.subs.now) c.args.kind.now knows)
    c.note.ensures.knows

pub returns-clause-whole : goal.returns-clause-whole
returns-clause-whole c = on_ok_weaker c.note.result (λ knows on. knows) c.note.ensures.knows
