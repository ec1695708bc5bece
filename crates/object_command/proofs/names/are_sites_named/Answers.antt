use Rattle.std.proofs.Common.{◌≡◌, true, refl, sym, subst, rules}
use Rattle.std.proofs.lemmas.List.{take_all}
use Rattle.std.proofs.lemmas.List.Elements.{All-more, All-same}
use Rattle.object_command.specs.declared.calls.CallSite.{CallSite}
use Rattle.object_command.specs.Object.{IsSymbolName}
use Rattle.object_command.proofs.names.are_sites_named.Goals as goal

pub loop-site-preserved : goal.loop-site-preserved
loop-site-preserved c =
    let holds : c.is_symbol_name.result ≡ true = first_of (cc, search rules) in
    All-more (λ (x : CallSite). IsSymbolName x.name) c.args.sites.now c.loop-site.site-index c.site-item.result c.loop-site-test.true
    c.loop-site.invariant
    (subst (λ (x : CallSite). IsSymbolName x.name) c.site-item.is (subst IsSymbolName c.as_slice.ensures (c.is_symbol_name.ensures.0 holds)))

pub returns : goal.returns
returns c = (
  (λ _. All-same (λ (x : CallSite). IsSymbolName x.name) _ _ (sym (take_all _ _ c.loop-site-test.false)) c.loop-site.invariant),
  λ _. refl,
)
