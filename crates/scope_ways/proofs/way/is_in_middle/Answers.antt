use Rattle.std.proofs.Common.{◌≡◌, refl, sym, ◌∙◌, subst}
use Rattle.std.specs.Prelude.{Contains}
use Rattle.std.proofs.lemmas.Option.{slice_get_read}
use Rattle.scope_ways.specs.declared.scope.LexicalScope.{LexicalScope}
use Rattle.scope_ways.proofs.Ways.{same_scope, at_contains}
use Rattle.scope_ways.proofs.way.is_in_middle.Goals as goal

pub returns-in-Some : goal.returns-in-Some
returns-in-Some c = λ e.
    let x = c.in-Some.ensures.lookup in
    subst (λ (s : LexicalScope). Contains c.args.way.now s) (same_scope c.in-Some.middle.now c.args.scope.now (sym c.eq.ensures ∙ e))
    (at_contains c.args.way.now _ c.in-Some.middle.now (slice_get_read c.args.way.now _ _ c.in-Some.middle.now refl x.3.0 x.1))
