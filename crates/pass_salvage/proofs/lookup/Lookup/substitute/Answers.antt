use Rattle.std.proofs.Common.{Bool, [], ◌∷◌, ◌++◌, cond, sym, ap, ◌∙◌, subst}
use Rattle.std.proofs.lemmas.Result.{on_ok_weaker}
use Rattle.pass_trait.specs.mir_substitution.Added.{added}
use Rattle.pass_salvage.specs.declared.lookup.Lookup.{Lookup}
use Rattle.pass_salvage.specs.Salvage.{entry_for}
use Rattle.pass_salvage.specs.Lookup.{IsLookupOf}
use Rattle.pass_salvage.proofs.lookup.Lookup.substitute.Goals as goal

pub returns-in-Index-clause-lookup : goal.returns-in-Index-clause-lookup
returns-in-Index-clause-lookup c =
    on_ok_weaker c.substitute.result
    (λ kept found. kept (subst (λ (l : Lookup). IsLookupOf l c.args.subs.now c.args.above.now) c.in-Index.is found)) c.substitute.ensures.index

pub returns-in-Walk-clause-entries : goal.returns-in-Walk-clause-entries
returns-in-Walk-clause-entries c =
    let e = entry_for c.args.number c.args.standing c.args.operand in
    on_ok_weaker c.add.result
    (λ made. made ∙ ap (added c.args.subs.now) c.entry_for.ensures ∙ ap (λ (z : Bool). cond z c.args.subs.now (c.args.subs.now ++ e ∷ [])) c.requires)
    c.add.ensures.ok

pub returns-in-Walk-clause-lookup : goal.returns-in-Walk-clause-lookup
returns-in-Walk-clause-lookup c =
    on_ok_weaker c.add.result (λ made found. subst (λ (l : Lookup). IsLookupOf l c.add.new.self c.args.above.now) (sym c.in-Walk.is) tt) c.add.ensures.ok
