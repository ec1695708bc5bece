use Rattle.std.proofs.Common.{ℕ, [], Option, Some, None, refl, sym, ap, subst}
use Rattle.read_item.specs.Debug.{inlined_at}
use Rattle.dwarf_line_table.specs.declared.scope_line.ScopeLine.{ScopeLine}
use Rattle.inline_instances.specs.declared.table.InstanceTable.{InstanceTable}
use Rattle.inline_instances.specs.declared.way.WayEnd.{WayEnd}
use Rattle.inline_instances.specs.Calls.{IsWay, AreCallsFrom, call_at}
use Rattle.inline_instances.specs.steps.Marks.{EndsAt}
use Rattle.inline_instances.specs.steps.Table.{calls_in}
use Rattle.inline_instances.proofs.Entering.{table_walked, entering_outermost, entering_known, innermost_of, innermost_none}
use Rattle.inline_instances.proofs.table.InstanceTable.innermost.Goals as goal

pub returns-in-Circle : goal.returns-in-Circle
returns-in-Circle c = λ is.
    let meta = c.args.meta.now in
    let t = c.args.self.now in
    let calls = calls_in t.instances.items in
    let new : InstanceTable = record { marks = c.walk.new.marks; instances = t.instances } in
    let ends = subst (λ (e : WayEnd). EndsAt meta calls c.innermost_call-from.result c.walk.new.way.items c.walk.new.marks e) c.in-Circle.is
    (c.in_ok-walk.ensures calls is.marks) in
    innermost_none meta c.args.loc.now t new (table_walked meta [] t new is refl ends.0) refl
    (λ ns are. ends.1 ns (subst (λ (o : Option ℕ). AreCallsFrom meta o ns) (sym c.innermost_call-from.ensures) are))

pub returns-in-Outermost : goal.returns-in-Outermost
returns-in-Outermost c = λ is.
    let meta = c.args.meta.now in
    let t = c.args.self.now in
    let calls = calls_in t.instances.items in
    let way = c.walk.new.way.items in
    let new : InstanceTable = record { marks = c.walk.new.marks; instances = t.instances } in
    let from = call_at meta (inlined_at meta c.args.loc.now) in
    let scope = c.scope_line-scope.result.scope in
    let ends = subst (λ (e : WayEnd). EndsAt meta calls c.innermost_call-from.result way c.walk.new.marks e) c.in-Outermost.is
    (c.in_ok-walk.ensures calls is.marks) in
    let led : IsWay meta from way None = subst (λ (o : Option ℕ). IsWay meta o way None) c.innermost_call-from.ensures ends.1 in
    innermost_of meta c.args.loc.now way t.instances.items scope c.enter.result c.enter.new.self
    (ap (λ (l : ScopeLine). l.scope) c.scope_line-scope.ensures)
    (c.enter.ensures from way t.instances.items (entering_outermost meta from scope way new (table_walked meta way t new is refl ends.0) led))

pub returns-in-Known : goal.returns-in-Known
returns-in-Known c = λ is.
    let meta = c.args.meta.now in
    let t = c.args.self.now in
    let calls = calls_in t.instances.items in
    let way = c.walk.new.way.items in
    let new : InstanceTable = record { marks = c.walk.new.marks; instances = t.instances } in
    let from = call_at meta (inlined_at meta c.args.loc.now) in
    let scope = c.scope_line-scope.result.scope in
    let ends = subst (λ (e : WayEnd). EndsAt meta calls c.innermost_call-from.result way c.walk.new.marks e) c.in-Known.is
    (c.in_ok-walk.ensures calls is.marks) in
    let led : IsWay meta from way (Some ends.0) = subst (λ (o : Option ℕ). IsWay meta o way (Some ends.0)) c.innermost_call-from.ensures ends.2 in
    let begun = entering_known meta from scope way new (table_walked meta way t new is refl ends.1) c.in-Known.index ends.0 led ends.3 in
    innermost_of meta c.args.loc.now begun.0 t.instances.items scope c.enter-in-Known.result c.enter-in-Known.new.self
    (ap (λ (l : ScopeLine). l.scope) c.scope_line-scope.ensures) (c.enter-in-Known.ensures from begun.0 t.instances.items begun.1)
