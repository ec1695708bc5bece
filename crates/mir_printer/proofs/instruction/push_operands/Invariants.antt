use Rattle.std.proofs.Common.{◌≡◌, ◌++◌, take}
use Rattle.mir_printer.specs.steps.Listed.{selected_texts, listed_text, has_any}
use Rattle.mir_printer.proofs.ListedLemmas.{next_lead}
use Rattle.mir_printer.proofs.instruction.push_operands.Given as goal

abbrev pub invariant-loop-operand : goal.invariant-loop-operand
invariant-loop-operand l =
    let done = selected_texts l.definitions (take l.operand-index l.operands) in record {
      text : l.text ≡ l.initial.text ++ listed_text l.lead done;
      lead : l.next_lead ≡ next_lead l.lead done;
      any : l.any ≡ has_any done;
    }
