use Rattle.std.proofs.Common.{◌≡◌, ◌<◌, ◌++◌, ◌∙◌, sym, ap, take, length, get_or, true, false, append_assoc}
use Rattle.mir_printer.specs.Spelling.{operand_text}
use Rattle.mir_printer.specs.steps.Listed.{selects, selected_texts, listed_text, has_any}
use Rattle.mir_printer.proofs.ListedLemmas.{next_lead, listed_text-snoc, selected_texts-taken, selected_texts-left, next_lead-snoc, has_any-snoc}
use Rattle.mir_printer.proofs.instruction.push_operands.Goals as goal
use Rattle.mir_printer.proofs.instruction.push_operands.Goals.{then-is_selected+in_ok-push_str+in_ok-push_operand, else-is_selected}

pub loop-operand-preserved : goal.loop-operand-preserved
loop-operand-preserved c =
    let i = c.loop-operand.operand-index in
    let operands = c.args.operands.now in
    let definitions = c.args.definitions in
    let operand = c.operand-item.result in
    let lead = c.args.lead.now in
    let done = selected_texts definitions (take i operands) in
    let below : i < length operands = c.loop-operand-test.true in
    let item : get_or operands i operand ≡ operand = sym c.operand-item.is in
    elim c.if-is_selected.branch [
      | then-is_selected+in_ok-push_str+in_ok-push_operand w ↦
          let text = operand_text operand in
          let taken : selects definitions operand ≡ true = sym c.is_selected.ensures ∙ w.if-is_selected.true in
          let more = selected_texts-taken definitions operands i operand below item taken in
          let listed = ap (λ ts. listed_text lead ts) more ∙ listed_text-snoc lead done text in
          let first = append_assoc c.args.text.now (listed_text lead done) (next_lead lead done ++ text) in
          let second = append_assoc (c.args.text.now ++ listed_text lead done) (next_lead lead done) text in
          record {
            text = cc (
              listed,
              first,
              second,
              w.in_ok-push_str.ensures.ok,
              w.in_ok-push_operand.ensures.ok,
              c.loop-operand.invariant.text,
              c.loop-operand.invariant.lead,
              w.text-is,
            );
            lead = ap (λ b. b.now) w.next_lead-is ∙ sym (ap (λ ts. next_lead lead ts) more ∙ next_lead-snoc lead done text);
            any = w.any-is ∙ sym (ap (λ ts. has_any ts) more ∙ has_any-snoc done text);
          }
      | else-is_selected w ↦
          let left : selects definitions operand ≡ false = sym c.is_selected.ensures ∙ w.if-is_selected.false in
          let same = selected_texts-left definitions operands i operand below item left in
          record {
            text = w.text-is ∙ (c.loop-operand.invariant.text ∙ ap (λ ts. c.args.text.now ++ listed_text lead ts) (sym same));
            lead = ap (λ b. b.now) w.next_lead-is ∙ (c.loop-operand.invariant.lead ∙ ap (λ ts. next_lead lead ts) (sym same));
            any = w.any-is ∙ (c.loop-operand.invariant.any ∙ ap (λ ts. has_any ts) (sym same));
          }
    ]
