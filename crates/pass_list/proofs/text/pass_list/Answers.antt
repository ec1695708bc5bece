use Rattle.std.proofs.Common.{◌≡◌, ◌↔◌, List, Some, sym, ◌∙◌, subst}
use Rattle.std.proofs.lemmas.Bool.{false≢true}
use Rattle.pass_list.specs.declared.kind.PassKind.{PassKind}
use Rattle.pass_list.specs.Names.{AreNamedBehind}
use Rattle.pass_list.proofs.Texts.{by_names}
use Rattle.pass_list.proofs.text.pass_list.Goals as goal

pub returns-else-is_same : goal.returns-else-is_same
returns-else-is_same c =
    by_names c.args.text.now c.with_names.result (λ t. false≢true (sym c.if-is_same.false ∙ c.is_same.ensures.1 t))
    (subst (λ (z : List PassKind). (whole : List PassKind) → (c.with_names.result ≡ Some whole) ↔ AreNamedBehind z c.args.text.now whole)
    c.empty-else-is_same.ensures c.with_names.ensures)
