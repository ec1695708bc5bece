use Rattle.std.proofs.Common.{◌≡◌, ℕ, List, sym, ap, ◌∙◌, subst}
use Rattle.std.specs.Prelude.{Some, slice_get, slice_index}
use Rattle.std.proofs.lemmas.Option.{slice_get_within}
use Rattle.mir_func.specs.declared.variable.VarId.{VarId}
use Rattle.value_tracker.specs.Chains.{key_of, EndAt}
use Rattle.value_tracker.proofs.part_list.PartList.end_before.Goals as goal

pub returns : goal.returns
returns c = λ w e.
    let i = c.args.i in
    let parts = c.self.inside.list.items in
    let at : slice_get parts i ≡ Some w = ap (λ (ps : List VarId). slice_get ps i) c.self.view_is ∙ e in
    let is : c.at.result ≡ slice_index c.self.inside.before.items i = c.at.ensures ∙ ap (λ (xs : List ℕ). slice_index xs i) c.as_slice.ensures.value in
    subst (λ (ps : List VarId). EndAt ps (key_of w) i c.at.result) c.self.view_is
    (subst (EndAt parts (key_of w) i) (sym is) (c.self.invariant.each i w (slice_get_within parts i w at) at))
