use Rattle.std.proofs.Common.{◌≡◌, ◌++◌, subst, sym}
use Rattle.std.specs.Prelude.{OnOk, Option}
use Rattle.scope_ranges.specs.declared.scope.Scope.{Scope}
use Rattle.scope_entries.specs.declared.step.ScopeStep.{ScopeStep}
use Rattle.scope_entries.specs.Items.{closed, opened, step_items}
use Rattle.scope_entries.proofs.Gets.{copied_at}
use Rattle.scope_entries.proofs.items.push_step.Goals as goal

pub returns-in-Open : goal.returns-in-Open
returns-in-Open c = λ vs are.
    let meta = c.args.meta.now in
    let debug = c.args.debug.now in
    subst (λ (s : ScopeStep). OnOk c.push_opened.result (c.push_opened.new.items ≡ c.args.items.now ++ step_items meta debug vs c.args.scopes.now s))
    (sym c.in-Open.is)
    (subst (λ (o : Option Scope). OnOk c.push_opened.result (c.push_opened.new.items ≡ c.args.items.now ++ opened meta debug vs c.in-Open.index o))
    (copied_at c.args.scopes.now c.in-Open.index c.get-scope.result c.get-scope.ensures.lookup.3 c.get-scope.ensures.lookup.1) (c.push_opened.ensures vs are))

pub returns-in-Close : goal.returns-in-Close
returns-in-Close c = λ vs are.
    let meta = c.args.meta.now in
    let debug = c.args.debug.now in
    subst (λ (s : ScopeStep). OnOk c.push_closed.result (c.push_closed.new.items ≡ c.args.items.now ++ step_items meta debug vs c.args.scopes.now s))
    (sym c.in-Close.is)
    (subst (λ (o : Option Scope). OnOk c.push_closed.result (c.push_closed.new.items ≡ c.args.items.now ++ closed meta debug vs o))
    (copied_at c.args.scopes.now c.in-Close.index c.get-scope-in-Close.result c.get-scope-in-Close.ensures.lookup.3 c.get-scope-in-Close.ensures.lookup.1)
    (c.push_closed.ensures vs are))
