use Rattle.std.proofs.Common.{nat_eq, sym, ◌∙◌}
use Rattle.std.specs.HashMap.{get}
use Rattle.pass_salvage.proofs.Indexed.{moved_later, moved_off}
use Rattle.pass_salvage.proofs.above.move_questions.Goals as goal

pub returns-in_ok-put_later : goal.returns-in_ok-put_later
returns-in_ok-put_later c =
    moved_later (get nat_eq c.args.table.now) (get nat_eq c.take.new.table) (get nat_eq c.put_later.new.table) c.args.number c.args.standing c.args.operand
    c.in-Some.at c.take.ensures.others (sym c.take.ensures.value ∙ c.in-Some.is) c.in_ok-put_later.ensures (sym c.is_zero.ensures ∙ c.if-is_zero.true)
    c.requires

pub returns-else-is_zero : goal.returns-else-is_zero
returns-else-is_zero c =
    moved_off (get nat_eq c.args.table.now) (get nat_eq c.take.new.table) c.args.number c.args.standing c.args.operand c.take.ensures.others
    (sym c.is_zero.ensures ∙ c.if-is_zero.false)
