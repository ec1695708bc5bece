use Rattle.std.proofs.Common.{◌++◌, ap, sym, ◌∙◌}
use Rattle.std.proofs.lemmas.List.{append-nil}
use Rattle.std.proofs.lemmas.Bool.{eqb-true}
use Rattle.read_metadata.proofs.Texts.{unescaped-nil}
use Rattle.read_metadata.proofs.text.unescaped.Goals as goal

pub returns : goal.returns
returns c =
    let none = unescaped-nil c.loop-rest.rest.now (eqb-true _ 0 (sym c.loop-rest-test.ensures)) in
    sym (append-nil c.loop-rest.bytes) ∙ ap (λ r. c.loop-rest.bytes ++ r) (sym none) ∙ c.loop-rest.invariant
