use Rattle.std.proofs.Common.{refl}
use Rattle.pass_salvage.proofs.Indexed.{index_added}
use Rattle.pass_salvage.proofs.above.substitute.Goals as goal

pub returns-in_ok-move_questions-clause-index : goal.returns-in_ok-move_questions-clause-index
returns-in_ok-move_questions-clause-index c =
    index_added c.args.index.now (record { definitions = c.args.index.now.definitions; questions = c.move_questions.new.table }) c.args.subs.now c.add.new.self
    c.entry_for.result c.args.number c.args.standing c.args.operand c.meets-met.result c.args.above.now c.requires c.meets-met.ensures c.if-met.false
    c.entry_for.ensures c.in_ok-add.ensures.ok refl c.in_ok-move_questions.ensures
