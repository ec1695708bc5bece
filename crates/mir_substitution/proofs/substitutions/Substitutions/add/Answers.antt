use Rattle.std.proofs.Common.{◌≡◌, List, [], ◌∷◌, ◌++◌, Some, sym, ap, ◌∙◌}
use Rattle.mir_func.specs.declared.debug_substitution.DebugSubstitution.{DebugSubstitution}
use Rattle.mir_func.specs.Resolve.{resolve}
use Rattle.mir_substitution.specs.Added.{added}
use Rattle.mir_substitution.specs.Forest.{node_of}
use Rattle.mir_substitution.proofs.Redirected.{none-resolve}
use Rattle.mir_substitution.proofs.Grown.{are_ends-same, is_root-same, node_of-same, added-new, end-true}
use Rattle.mir_substitution.proofs.substitutions.Substitutions.add.Goals as goal

pub invariant_of-self-in_err-reserve-2 : goal.invariant_of-self-in_err-reserve-2
invariant_of-self-in_err-reserve-2 c =
    are_ends-same c.self.inside.entries.items c.reserve.new.self.items (node_of c.self.inside.forest) (node_of c.reserve-2.new.self)
    (sym c.in_ok-reserve.ensures.items) (node_of-same c.self.inside.forest c.reserve-2.new.self c.reserve-2.ensures.entries.2) c.self.invariant

pub grow-requires-clause-ends : goal.grow-requires-clause-ends
grow-requires-clause-ends c =
    are_ends-same c.self.inside.entries.items c.as_slice-2.result.now (node_of c.self.inside.forest) (node_of c.reserve-2.new.self)
    (sym (c.as_slice-2.ensures.value ∙ c.in_ok-reserve.ensures.items))
    (node_of-same c.self.inside.forest c.reserve-2.new.self c.reserve-2.ensures.entries.2) c.self.invariant

pub grow-requires-clause-root : goal.grow-requires-clause-root
grow-requires-clause-root c =
    is_root-same c.as_slice.result.now c.as_slice-2.result.now (node_of c.self.inside.forest) (node_of c.reserve-2.new.self) c.args.e.src c.find-source.result
    (c.as_slice.ensures.value ∙ sym (c.as_slice-2.ensures.value ∙ c.in_ok-reserve.ensures.items))
    (node_of-same c.self.inside.forest c.reserve-2.new.self c.reserve-2.ensures.entries.2) c.find-source.ensures

pub returns-clause-ok : goal.returns-clause-ok
returns-clause-ok c =
    let e = c.args.e in
    let old = c.self.inside.entries.items in
    let unused : c.find-source.result.end ≡ Some e.src = end-true c.find-source.result.end e.src (sym c.if-not-ends_at.ensures) in
    let end : resolve old e.src ≡ Some e.src =
    ap (λ (xs : List DebugSubstitution). resolve xs e.src) (sym c.as_slice.ensures.value) ∙ c.find-source.ensures.ends ∙ unused in
    let items : c.push.new.self.items ≡ old ++ e ∷ [] =
    c.in_ok-push.ensures.items ∙ ap (λ (xs : List DebugSubstitution). xs ++ e ∷ []) c.in_ok-reserve.ensures.items in
    items ∙ sym (added-new old e (none-resolve old e.src e.src end)) ∙ ap (λ (xs : List DebugSubstitution). added xs e) c.self.view_is
