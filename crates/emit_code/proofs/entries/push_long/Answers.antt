use Rattle.std.proofs.Common.{◌≡◌, ◌++◌, ◌∷◌, [], List, false, ◌+◌, ap, subst, ◌∙◌}
use Rattle.std.specs.Prelude.{OnOk}
use Rattle.std.proofs.lemmas.List.{append_assoc}
use Rattle.mir_func.specs.declared.position.Origin.{Origin}
use Rattle.emit_code.specs.declared.code.EncodedInstruction.{EncodedInstruction}
use Rattle.emit_code.specs.Rule.{entry, added_before}
use Rattle.emit_code.proofs.entries.push_long.Goals as goal

pub returns : goal.returns
returns c = λ p e.
    let a = c.args.address in
    let first : c.word_entry.result ≡ entry a 4 (added_before c.args.origin.now) p false =
    c.word_entry.ensures p e ∙ ap (λ (o : Origin). entry a 4 o p false) c.added_before.ensures in
    let second : c.word_entry-2.result ≡ entry (a + 4) 4 c.args.origin.now p false = c.word_entry-2.ensures p e in
    let pushed = ap (λ (t : List EncodedInstruction). t ++ c.word_entry-2.result ∷ []) c.in_ok-push.ensures.ok
    ∙ append_assoc c.args.entries.now (c.word_entry.result ∷ []) (c.word_entry-2.result ∷ [])
    ∙ (λ i. c.args.entries.now ++ (first i ∷ second i ∷ [])) in
    subst (λ (t : List EncodedInstruction). OnOk c.push-2.result (c.push-2.new.self ≡ t)) pushed c.push-2.ensures.ok
