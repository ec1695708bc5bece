use Rattle.std.proofs.Common.{◌≡◌, true, refl, sym, subst, rules}
use Rattle.std.proofs.lemmas.List.{take_all}
use Rattle.std.proofs.lemmas.List.Elements.{All-more, All-same}
use Rattle.listing_text.specs.declared.output.ListedFunction.{ListedFunction}
use Rattle.object_command.specs.Object.{IsSymbolName}
use Rattle.object_command.proofs.names.are_functions_named.Goals as goal

pub loop-function-preserved : goal.loop-function-preserved
loop-function-preserved c =
    let holds : c.is_symbol_name.result ≡ true = first_of (cc, search rules) in
    All-more (λ (x : ListedFunction). IsSymbolName x.name) c.args.functions.now c.loop-function.function-index c.function-item.result c.loop-function-test.true
    c.loop-function.invariant
    (subst (λ (x : ListedFunction). IsSymbolName x.name) c.function-item.is (subst IsSymbolName c.as_slice.ensures (c.is_symbol_name.ensures.0 holds)))

pub returns : goal.returns
returns c = (
  (λ _. All-same (λ (x : ListedFunction). IsSymbolName x.name) _ _ (sym (take_all _ _ c.loop-function-test.false)) c.loop-function.invariant),
  λ _. refl,
)
