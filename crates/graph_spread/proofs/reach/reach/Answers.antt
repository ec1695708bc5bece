use Rattle.std.proofs.Common.{◌≡◌, ℕ, List, Bool, true, false, sym, ◌∙◌, subst}
use Rattle.std.specs.Prelude.{slice_index_or}
use Rattle.graph_spread.specs.Spread.{IsIn, IsOut}
use Rattle.graph_spread.proofs.Reached.{reaching_none, reaching_new}
use Rattle.graph_spread.proofs.reach.reach.Goals as goal

pub returns-then-is_in : goal.returns-then-is_in
returns-then-is_in c =
    let old = c.args.reached.now.items in
    let on : IsIn old c.args.node =
    subst (λ (xs : List Bool). slice_index_or xs c.args.node false ≡ true) c.as_slice.ensures.value (sym c.is_in.ensures ∙ c.if-is_in.true) in
    reaching_none (λ (n : ℕ). c.args.node ≡ n) old c.args.waiting.now.items (λ n e. subst (IsIn old) e on)

pub returns : goal.returns
returns c =
    let old = c.args.reached.now.items in
    let off : IsOut old c.args.node =
    subst (λ (xs : List Bool). slice_index_or xs c.args.node false ≡ false) c.as_slice.ensures.value (sym c.is_in.ensures ∙ c.if-is_in.false) in
    rw (c.put_in.ensures, c.in_ok-push.ensures.items) (reaching_new c.args.node old c.args.waiting.now.items c.requires off)
