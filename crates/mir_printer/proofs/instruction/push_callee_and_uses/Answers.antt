use Rattle.std.proofs.Common.{List, ℕ, ◌++◌, ◌∙◌, ap, sym, append_assoc, codes, false}
use Rattle.std.specs.Prelude.{filter, not}
use Rattle.mir_printer.specs.Spelling.{as_callee, is_definition, operand_text}
use Rattle.mir_printer.specs.steps.Listed.{selected_texts, listed_text}
use Rattle.mir_printer.proofs.Appends.{joined}
use Rattle.mir_printer.proofs.ListedLemmas.{uses_text-first}
use Rattle.mir_printer.proofs.instruction.push_callee_and_uses.Goals as goal

pub returns-clause-ok : goal.returns-clause-ok
returns-clause-ok c =
    let old = c.args.text.now in
    let callee = operand_text (as_callee c.args.callee.now) in
    let rest = listed_text (codes ", ") (selected_texts false c.args.rest.now) in
    joined old c.push_callee.new.text c.push_operands.new.text (codes " " ++ callee) rest
    (joined old c.push_str.new.text c.push_callee.new.text (codes " ") callee c.in_ok-push_str.ensures.ok c.in_ok-push_callee.ensures.ok)
    c.in_ok-push_operands.ensures.ok
    ∙ ap (λ (t : List ℕ). old ++ t) (append_assoc (codes " ") callee rest
    ∙ sym (uses_text-first (as_callee c.args.callee.now) (filter (λ o. not (is_definition o)) c.args.rest.now)))
