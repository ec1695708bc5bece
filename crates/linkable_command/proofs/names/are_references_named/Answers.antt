use Rattle.std.proofs.Common.{◌≡◌, true, refl, sym, subst, rules}
use Rattle.std.proofs.lemmas.List.{take_all}
use Rattle.std.proofs.lemmas.List.Elements.{All-more, All-same}
use Rattle.object_command.specs.Object.{IsSymbolName}
use Rattle.linkable_command.specs.declared.reference.Reference.{Reference}
use Rattle.linkable_command.proofs.names.are_references_named.Goals as goal

pub loop-reference-preserved : goal.loop-reference-preserved
loop-reference-preserved c =
    let holds : c.is_symbol_name.result ≡ true = first_of (cc, search rules) in
    All-more (λ (x : Reference). IsSymbolName x.name) c.args.referred.now c.loop-reference.reference-index c.reference-item.result
    c.loop-reference-test.true c.loop-reference.invariant
    (subst (λ (x : Reference). IsSymbolName x.name) c.reference-item.is (subst IsSymbolName c.as_slice.ensures (c.is_symbol_name.ensures.0 holds)))

pub returns : goal.returns
returns c = (
  (λ _. All-same (λ (x : Reference). IsSymbolName x.name) _ _ (sym (take_all _ _ c.loop-reference-test.false)) c.loop-reference.invariant),
  λ _. refl,
)
