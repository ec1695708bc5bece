use Rattle.std.proofs.Common.{◌≡◌, List, ℕ, ◌+◌, true, false, take, sym, ap, subst, ◌∙◌}
use Rattle.std.specs.Borrow.{Bor}
use Rattle.std.specs.BTreeSet.{BTreeSet}
use Rattle.std.proofs.lemmas.Bool.{not-true, not-false}
use Rattle.read_declarations.specs.FlowMapping.{has_text}
use Rattle.read_declarations.specs.Constants.{has_key, key_of}
use Rattle.read_declarations.proofs.Once.{Seen, seen_same, seen_more, apart_same, apart_more, not_once, once}
use Rattle.read_declarations.proofs.constants.are_once.Goals.{then-has_key+in_ok-is_new+else-not-is_new, else-has_key}
use Rattle.read_declarations.proofs.constants.are_once.Goals as goal

pub returns-then-not-is_new : goal.returns-then-not-is_new
returns-then-not-is_new c =
    let keys = c.loop-line.keys in
    let l = c.line-item.result in
    let key : c.key_of.result.now ≡ key_of l.text = c.key_of.ensures ∙ ap key_of c.as_slice-text.ensures in
    let keyed : has_key l.text ≡ true = ap has_key (sym c.as_slice-text.ensures) ∙ sym c.has_key.ensures ∙ c.if-has_key.true in
    let known : has_text keys (key_of l.text) ≡ true =
    ap (has_text keys) (sym key) ∙ not-false (has_text keys c.key_of.result.now) (sym c.in_ok-is_new.ensures.added ∙ c.if-not-is_new.true) in
    not_once c.args.lines.now c.loop-line.line-index l c.loop-line-test.true c.line-item.is keys keyed known c.loop-line.invariant.seen

pub loop-line-preserved : goal.loop-line-preserved
loop-line-preserved c =
    let lines = c.args.lines.now in
    let i = c.loop-line.line-index in
    let keys = c.loop-line.keys in
    let l = c.line-item.result in
    let lt = c.loop-line-test.true in
    let is = c.line-item.is in
    let seen = c.loop-line.invariant.seen in
    let apart = c.loop-line.invariant.apart in
    let keyed : c.has_key.result ≡ has_key l.text = c.has_key.ensures ∙ ap has_key c.as_slice-text.ensures in
    record {
      seen = elim c.if-has_key.branch [
        | then-has_key+in_ok-is_new+else-not-is_new w ↦
            subst (λ (ks : BTreeSet (Bor (List ℕ))). Seen ks (take (i + 1) lines)) (sym w.keys-is)
            (seen_more lines i l lt is keys w.insert.new.self w.key_of.result w.in_ok-is_new.ensures.updates
            (w.key_of.ensures ∙ ap key_of c.as_slice-text.ensures) seen)
        | else-has_key w ↦
            subst (λ (ks : BTreeSet (Bor (List ℕ))). Seen ks (take (i + 1) lines)) (sym w.keys-is)
            (seen_same lines i l lt is keys (sym keyed ∙ w.if-has_key.false) seen)
      ];
      apart = elim c.if-has_key.branch [
        | then-has_key+in_ok-is_new+else-not-is_new w ↦
            let key : w.key_of.result.now ≡ key_of l.text = w.key_of.ensures ∙ ap key_of c.as_slice-text.ensures in
            let new : has_text keys (key_of l.text) ≡ false =
            ap (has_text keys) (sym key) ∙ not-true (has_text keys w.key_of.result.now) (sym w.in_ok-is_new.ensures.added ∙ w.if-not-is_new.false) in
            apart_more lines i l lt is keys (sym keyed ∙ w.if-has_key.true) new seen apart
        | else-has_key w ↦ apart_same lines i l lt is (sym keyed ∙ w.if-has_key.false) apart
      ];
    }

pub returns : goal.returns
returns c = once c.args.lines.now c.loop-line.line-index c.loop-line-test.false c.requires c.loop-line.invariant.apart
