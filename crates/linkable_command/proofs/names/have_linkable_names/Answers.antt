use Rattle.std.proofs.Common.{◌≡◌, true, false, All, sym, ◌∙◌, subst}
use Rattle.linkable_command.specs.declared.reference.Reference.{Reference}
use Rattle.object_command.specs.Object.{IsSymbolName}
use Rattle.linkable_command.proofs.names.have_linkable_names.Goals as goal

pub returns-then-are_functions_named : goal.returns-then-are_functions_named
returns-then-are_functions_named c = (
  λ h. record {
    defined = c.are_functions_named.ensures.0 c.if-are_functions_named.true;
    referred = subst (All (λ (r : Reference). IsSymbolName r.name)) c.requires (c.are_references_named.ensures.0 h);
  },
  λ h. c.are_references_named.ensures.1 (subst (All (λ (r : Reference). IsSymbolName r.name)) (sym c.requires) h.referred),
)

pub returns-else-are_functions_named : goal.returns-else-are_functions_named
returns-else-are_functions_named c = (
  λ h. absurd (let bad : true ≡ false = sym h ∙ c.if-are_functions_named.false in cc),
  λ h. c.are_functions_named.ensures.1 h.defined,
)
