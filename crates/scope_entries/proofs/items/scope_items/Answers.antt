use Rattle.std.proofs.Common.{◌+◌, List, ◌++◌, drop, get_or, sym, ap, ◌∙◌, append_assoc}
use Rattle.std.specs.List.{flat_map}
use Rattle.std.proofs.lemmas.List.{drop_more}
use Rattle.scope_entries.specs.declared.step.ScopeStep.{ScopeStep}
use Rattle.scope_entries.specs.declared.step.ScopeStep.TheVariants.{Open}
use Rattle.scope_entries.specs.declared.item.ScopeItem.{ScopeItem}
use Rattle.scope_entries.specs.Items.{step_items}
use Rattle.scope_entries.proofs.items.scope_items.Goals as goal

pub loop-step-preserved : goal.loop-step-preserved
loop-step-preserved c =
    let vs = c.args.variables.now in
    let xs = c.as_slice-step-items.result.now in
    let i = c.loop-step.step-index in
    let f = λ (s : ScopeStep). step_items c.args.meta.now c.args.debug.now vs c.args.scopes.now s in
    let step = get_or xs i (Open 0) in
    let rest = flat_map f (drop (i + 1) xs) in
    ap (λ (z : List ScopeItem). z ++ rest) (c.in_ok-push_step.ensures vs c.in_ok-marked.ensures)
    ∙ append_assoc c.loop-step.items (f step) rest
    ∙ ap (λ (z : List ScopeStep). c.loop-step.items ++ flat_map f z) (sym (drop_more xs i (Open 0) c.loop-step-test.true))
    ∙ c.loop-step.invariant
