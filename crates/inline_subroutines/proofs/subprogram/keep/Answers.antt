use Rattle.std.proofs.Common.{◌≡◌, ℕ, ◌+◌, ◌∷◌, ◌++◌, [], List, Some, nat_cmp, take, sym, ap, ◌∙◌, subst}
use Rattle.std.specs.BTreeMap.{Updates}
use Rattle.std.proofs.lemmas.List.{take_more, take_all}
use Rattle.inline_subroutines.specs.steps.Known.{AreKept}
use Rattle.inline_subroutines.proofs.Scopes.{kept_more}
use Rattle.inline_subroutines.proofs.subprogram.keep.Goals as goal

pub loop-scope-preserved : goal.loop-scope-preserved
loop-scope-preserved c =
    let way = c.args.way.now in
    let index = c.loop-scope.scope-index in
    let n = c.scope-item.result in
    let front : take index way ++ n ∷ [] ≡ take (index + 1) way =
    ap (λ (m : ℕ). take index way ++ m ∷ []) c.scope-item.is ∙ sym (take_more way index n c.loop-scope-test.true) in
    let updates : Updates nat_cmp c.loop-scope.known c.insert.new.self n (Some c.args.found.now) =
    subst (λ (k : ℕ). Updates nat_cmp c.loop-scope.known c.insert.new.self k (Some c.args.found.now)) c.number.ensures c.in_ok-insert.ensures.updates in
    subst (λ (ns : List ℕ). AreKept ns c.args.found.now c.args.known.now c.insert.new.self) front
    (kept_more (take index way) n c.args.found.now c.args.known.now c.loop-scope.known c.insert.new.self c.loop-scope.invariant updates)

pub returns : goal.returns
returns c =
    subst (λ (ns : List ℕ). AreKept ns c.args.found.now c.args.known.now c.loop-scope.known) (take_all _ _ c.loop-scope-test.false) c.loop-scope.invariant
