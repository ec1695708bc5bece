use Rattle.std.proofs.Common.{◌≡◌, ℕ, Option, ◌++◌, subst}
use Rattle.std.specs.Prelude.{OnOk}
use Rattle.mir_printer.specs.Spelling.{callee_by, operand_text}
use Rattle.mir_printer.proofs.instruction.push_callee.Goals as goal

pub returns-in-Some-clause-ok : goal.returns-in-Some-clause-ok
returns-in-Some-clause-ok c =
    subst (λ (r : Option ℕ). OnOk c.push_register.result (c.push_register.new.text ≡ c.args.text.now ++ operand_text (callee_by r c.args.callee.now)))
    c.in-Some.ensures c.push_register.ensures.ok

pub returns-in-None-clause-ok : goal.returns-in-None-clause-ok
returns-in-None-clause-ok c =
    subst (λ (r : Option ℕ). OnOk c.push_operand.result (c.push_operand.new.text ≡ c.args.text.now ++ operand_text (callee_by r c.args.callee.now)))
    c.in-None.ensures c.push_operand.ensures.ok
