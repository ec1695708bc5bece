use Rattle.std.proofs.Common.{◌≡◌, List, ◌++◌, subst}
use Rattle.std.specs.Prelude.{OnOk}
use Rattle.rv64_instr.specs.declared.operand.Operand.{Operand}
use Rattle.mir_printer.specs.Spelling.{held_uses, uses_text}
use Rattle.mir_printer.proofs.ListedLemmas.{first_and_rest, held_uses-none}
use Rattle.mir_printer.proofs.instruction.push_held.Goals as goal

pub returns-in-empty-clause-ok : goal.returns-in-empty-clause-ok
returns-in-empty-clause-ok c = held_uses-none c.args.text.now c.args.operands.now c.in-empty.len_below

pub returns-in-len1-up-clause-ok : goal.returns-in-len1-up-clause-ok
returns-in-len1-up-clause-ok c =
    let whole = first_and_rest c.args.operands.now c.callee-item.result c.in-len1-up.len_at_least c.callee-item.is in
    subst (λ (os : List Operand). OnOk c.push_callee_and_uses.result (c.push_callee_and_uses.new.text ≡ c.args.text.now ++ uses_text (held_uses os))) whole
    c.push_callee_and_uses.ensures.ok
