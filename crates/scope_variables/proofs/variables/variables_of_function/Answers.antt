use Rattle.std.proofs.Common.{ℕ, List, [], ◌++◌, map, ap, ◌∙◌, None}
use Rattle.std.proofs.lemmas.Result.{IfOk-weaker}
use Rattle.scope_ways.specs.declared.scope.LexicalScope.{LexicalScope}
use Rattle.scope_variables.specs.declared.variable.ScopeVariable.{ScopeVariable}
use Rattle.scope_variables.specs.Order.{in_order, key}
use Rattle.scope_variables.specs.Scope.{declared_in}
use Rattle.scope_variables.specs.Variables.{listed}
use Rattle.scope_variables.proofs.Listings.{same_own, same_placed}
use Rattle.scope_variables.proofs.variables.variables_of_function.Goals as goal

pub returns : goal.returns
returns c =
    let debug = c.args.debug.now in
    let vs = c.args.variables.now in
    let scope : LexicalScope = record { node = c.args.subprogram; inlined_at = None } in
    let own = c.as_slice.ensures.value ∙ c.in_ok-own.ensures ∙ same_own debug c.args.table.now.most vs c.requires.table.most in
    let keys = λ (ns : List ℕ). in_order [] (map (key debug) (declared_in debug c.args.subprogram ++ ns)) in
    IfOk-weaker c.variables_with.result _ _
    (λ (made : List ScopeVariable) e.
    e ∙ same_placed vs c.args.marked.now scope c.requires.marked (keys c.as_slice.result.now)
    ∙ ap (λ (ns : List ℕ). map (listed vs None) (keys ns)) own)
    c.variables_with.ensures
