use Rattle.std.proofs.Common.{◌≡◌, ◌++◌, ◌∷◌, [], List, true, false, sym, ap, subst, ◌∙◌}
use Rattle.std.specs.Prelude.{OnOk}
use Rattle.mir_func.specs.declared.position.Origin.{Origin}
use Rattle.emit_code.specs.declared.code.EncodedInstruction.{EncodedInstruction}
use Rattle.emit_code.specs.Rule.{entry, entries_at}
use Rattle.emit_code.proofs.Emitting.{one_entry, call_entry}
use Rattle.emit_code.proofs.entries.push_item.Goals as goal

pub returns-in-OneWord : goal.returns-in-OneWord
returns-in-OneWord c = λ l s at pe oe.
    let made : c.word_entry.result ≡ entry c.address-address.result 4 s.item.origin s.point false =
    c.word_entry.ensures s.point pe ∙ ap (λ (o : Origin). entry c.address-address.result 4 o s.point false) oe in
    let one : c.word_entry.result ∷ [] ≡ entries_at l s = ap (λ (e : EncodedInstruction). e ∷ []) made
    ∙ one_entry l s c.address-address.result c.span.result (c.span.ensures ∙ at.span) c.in-OneWord.is (c.address-address.ensures.value ∙ at.address) in
    subst (λ (t : List EncodedInstruction). OnOk c.push.result (c.push.new.self ≡ c.args.entries.now ++ t)) one c.push.ensures.ok

pub returns-in-CallSite : goal.returns-in-CallSite
returns-in-CallSite c = λ l s at pe oe.
    let made : c.call_entry.result ≡ entry c.address-address.result 8 s.item.origin s.point true =
    c.call_entry.ensures s.point pe ∙ ap (λ (o : Origin). entry c.address-address.result 8 o s.point true) oe in
    let one : c.call_entry.result ∷ [] ≡ entries_at l s = ap (λ (e : EncodedInstruction). e ∷ []) made
    ∙ call_entry l s c.address-address.result (sym c.in-CallSite.is ∙ c.span.ensures ∙ at.span) (c.address-address.ensures.value ∙ at.address) in
    subst (λ (t : List EncodedInstruction). OnOk c.push-in-CallSite.result
    (c.push-in-CallSite.new.self ≡ c.args.entries.now ++ t)) one c.push-in-CallSite.ensures.ok
