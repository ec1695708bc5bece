use Rattle.std.proofs.Common.{◌≡◌, ℕ, List, [], ◌++◌, map, sym, ap, ◌∙◌}
use Rattle.std.proofs.lemmas.Result.{IfOk-weaker}
use Rattle.std.proofs.lemmas.List.{map-append}
use Rattle.scope_variables.specs.declared.variable.ScopeVariable.{ScopeVariable}
use Rattle.scope_variables.specs.Order.{in_order, key}
use Rattle.scope_variables.specs.Scope.{declared_in}
use Rattle.scope_variables.specs.steps.Listed.{placed}
use Rattle.scope_variables.proofs.Orders.{in_order_append}
use Rattle.scope_variables.proofs.variables.variables_with.Goals as goal

pub returns : goal.returns
returns c =
    let debug = c.args.debug.now in
    let declared = declared_in debug c.args.scope.now.node in
    let others = c.args.others.now in
    let keys : c.insert_all.new.keys.keys ≡ in_order [] (map (key debug) (declared ++ others)) =
    c.in_ok-insert_all.ensures
    ∙ ap (λ (ks : List (ℕ × ℕ)). in_order ks (map (key debug) others))
    (c.in_ok-insert_declared.ensures ∙ ap (λ (ks : List (ℕ × ℕ)). in_order ks (map (key debug) declared)) c.new-keys.ensures.empty)
    ∙ sym (in_order_append [] (map (key debug) declared) (map (key debug) others))
    ∙ ap (in_order []) (sym (map-append (key debug) declared others)) in
    IfOk-weaker c.placed_variables.result _ _
    (λ (made : List ScopeVariable) e. e ∙ ap (map (placed c.args.marked.now c.args.scope.now)) keys) c.placed_variables.ensures
