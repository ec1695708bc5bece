use Rattle.std.proofs.Common.{◌≡◌, ap, sym, ◌∙◌}
use Rattle.std.specs.Prelude.{Some, None, nat_eq}
use Rattle.std.specs.HashMap.{get}
use Rattle.std.specs.Map.{lookup}
use Rattle.value_live_ins.proofs.above.NumberedItems.new.Goals as goal

pub returns : goal.returns
returns c = λ n i e.
    let none : get nat_eq c.new.result n ≡ None = ap (λ es. lookup (nat_eq n) es) c.new.ensures.empty in
    let no : None ≡ Some i = sym none ∙ e in
    absurd cc
