use Rattle.std.proofs.Common.{List, sym, ◌∙◌, subst, Contains}
use Rattle.scope_ways.specs.declared.scope.LexicalScope.{LexicalScope}
use Rattle.scope_ways.specs.declared.scope.Outer.TheVariants as outer
use Rattle.scope_ways.proofs.Ways.{way_begins, way_pushed, no_way_on, comes_again}
use Rattle.scope_ways.proofs.way.walk.Goals as goal

pub scopes-init : goal.scopes-init
scopes-init c = way_begins c.args.meta.now c.args.from.now c.copied-at.result c.args.way.now.items c.requires c.copied-at.ensures

pub returns-in-Function : goal.returns-in-Function
returns-in-Function c =
    way_pushed c.args.meta.now (outer.Scope c.args.from.now) outer.Function c.scopes.way.items c.push.new.self.items c.scopes.at c.copied.result
    c.scopes.invariant c.copied.ensures c.in_ok-push.ensures.items (sym c.around-found.ensures ∙ c.in-Function.is)

pub returns-in-Unknown : goal.returns-in-Unknown
returns-in-Unknown c = λ other are.
    no_way_on c.args.meta.now (outer.Scope c.args.from.now) c.push.new.self.items other
    (way_pushed c.args.meta.now (outer.Scope c.args.from.now) outer.Unknown c.scopes.way.items c.push.new.self.items c.scopes.at c.copied.result
    c.scopes.invariant c.copied.ensures c.in_ok-push.ensures.items (sym c.around-found.ensures ∙ c.in-Unknown.is))
    are

pub returns-then-is_in_middle : goal.returns-then-is_in_middle
returns-then-is_in_middle c = λ other are.
    comes_again c.args.meta.now (outer.Scope c.args.from.now) c.push.new.self.items other c.in-Scope.next
    (way_pushed c.args.meta.now (outer.Scope c.args.from.now) (outer.Scope c.in-Scope.next) c.scopes.way.items c.push.new.self.items c.scopes.at
    c.copied.result c.scopes.invariant c.copied.ensures c.in_ok-push.ensures.items (sym c.around-found.ensures ∙ c.in-Scope.is))
    (subst (λ (ss : List LexicalScope). Contains ss c.in-Scope.next) c.as_slice.ensures.value (c.is_in_middle.ensures c.if-is_in_middle.true))
    are

pub scopes-preserved : goal.scopes-preserved
scopes-preserved c =
    way_pushed c.args.meta.now (outer.Scope c.args.from.now) (outer.Scope c.in-Scope.next) c.scopes.way.items c.push.new.self.items c.scopes.at
    c.copied.result c.scopes.invariant c.copied.ensures c.in_ok-push.ensures.items (sym c.around-found.ensures ∙ c.in-Scope.is)
