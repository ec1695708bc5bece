use Rattle.std.proofs.Common.{◌≡◌, ◌++◌, List, ℕ, ◌∙◌, ap, sym, subst}
use Rattle.std.specs.Prelude.{OnOk}
use Rattle.emit_code.specs.Rule.{kind_words}
use Rattle.emit_code.specs.steps.Spans.{span_of}
use Rattle.emit_code.proofs.Planned.{starts_at}
use Rattle.emit_code.proofs.Emitting.{one_word, long_words, words_of_site}
use Rattle.emit_code.proofs.words.push_code.Goals as goal

pub returns-in-OneWord-clause-value : goal.returns-in-OneWord-clause-value
returns-in-OneWord-clause-value c = λ l s k is at e.
    let i = c.args.i.now in
    let span = c.span.ensures ∙ at.span ∙ ap (span_of l.framed.blocks (l.long s.point)) (sym e) in
    let words = one_word l s.point c.address.result i k c.span.result span c.in-OneWord.is (c.address.ensures.value ∙ at.address) ∙
    ap (kind_words l s.point) e in
    subst (λ (ws : List ℕ). OnOk c.push_one.result (c.push_one.new.words ≡ c.args.words.now ++ ws)) words (c.push_one.ensures l is)

pub returns-in-CallSite-clause-value : goal.returns-in-CallSite-clause-value
returns-in-CallSite-clause-value c = λ l s k is at e.
    let i = c.args.i.now in
    let span = sym c.in-CallSite.is ∙ c.span.ensures ∙ at.span ∙ ap (span_of l.framed.blocks (l.long s.point)) (sym e) in
    let words = words_of_site l s.point i k span ∙ ap (kind_words l s.point) e in
    subst (λ (ws : List ℕ). OnOk c.push_site.result (c.push_site.new.words ≡ c.args.words.now ++ ws)) words c.push_site.ensures

pub returns-in-Long-clause-value : goal.returns-in-Long-clause-value
returns-in-Long-clause-value c = λ l s k is at e.
    let i = c.args.i.now in
    let span = sym c.in-Long.is ∙ c.span.ensures ∙ at.span ∙ ap (span_of l.framed.blocks (l.long s.point)) (sym e) in
    let words = long_words l s.point c.address-in-Long.result c.address-in-Long-2.result i k c.in-Long.target span (c.address-in-Long.ensures.value ∙
    at.address)
    (λ n t. c.address-in-Long-2.ensures.value ∙ starts_at l c.args.plan.now n c.in-Long.target is t) ∙ ap (kind_words l s.point) e in
    subst (λ (ws : List ℕ). OnOk c.push_long.result (c.push_long.new.words ≡ c.args.words.now ++ ws)) words c.push_long.ensures
