use Rattle.std.proofs.Common.{◌≡◌, Bool, true, false, All, sym, ◌∙◌, subst}
use Rattle.object_command.specs.declared.calls.CallSite.{CallSite}
use Rattle.object_command.specs.Calls.{call_sites}
use Rattle.object_command.specs.Object.{IsSymbolName}
use Rattle.object_command.proofs.names.have_symbol_names.Goals as goal
use Rattle.object_command.proofs.names.have_symbol_names.Goals.{then-are_functions_named, else-are_functions_named}

pub returns-then-are_sites_named : goal.returns-then-are_sites_named
returns-then-are_sites_named c =
    let alone = c.have_no_half.ensures in
    let holds : c.if-are_functions_named.value ≡ true = c.if-are_sites_named.true in
    let named : All (λ f. IsSymbolName f.name) c.args.functions.now × All (λ s. IsSymbolName s.name) (call_sites c.args.functions.now) =
    elim c.if-are_functions_named.branch [
      | then-are_functions_named w ↦ (
        c.are_functions_named.ensures.0 w.if-are_functions_named.true,
        subst (All (λ (s : CallSite). IsSymbolName s.name)) c.requires (w.are_sites_named.ensures.0 (sym w.value-is ∙ holds)),
      )
      | else-are_functions_named w ↦ absurd (let bad : true ≡ false = sym holds ∙ (w.value-is ∙ w.if-are_functions_named.false) in cc)
    ] in (
      λ h. record { defined = named.0; called = named.1; calls_alone = alone.0 h },
      λ h. alone.1 h.calls_alone,
    )
