use Rattle.std.proofs.Common.{◌≡◌, ◌+◌, List, [], ◌∷◌, ◌++◌, take, Some, sym, ap, ◌∙◌, subst, arith}
use Rattle.std.specs.Prelude.{Contains, slice_set}
use Rattle.std.proofs.Math.ListN.{length-set}
use Rattle.std.proofs.lemmas.Bool.{false≢true}
use Rattle.pass_list.specs.declared.kind.PassKind.{PassKind}
use Rattle.pass_list.specs.Names.{AreDistinct}
use Rattle.pass_list.proofs.Distinct.{not_twice, added}
use Rattle.pass_list.proofs.list.PassList.with.Goals as goal

pub returns-then-has : goal.returns-then-has
returns-then-has c whole = (
  λ e. cc,
  λ both. absurd (not_twice c.args.self.now c.args.pass (subst AreDistinct both.0 both.1)
      (subst (λ (z : List PassKind). Contains z c.args.pass) c.as_slice.ensures.value (c.has.ensures.0 c.if-has.true))),
)

pub bounds-passes-self-inside : goal.bounds-passes-self-inside
bounds-passes-self-inside c =
    (added c.self.inside.passes c.self.inside.len c.args.self.now c.args.pass c.self.invariant.0 c.self.invariant.1 c.self.view_is
    c.as_slice.ensures.distinct
    (λ h. false≢true (sym c.if-has.false ∙ c.has.ensures.1 (subst (λ (z : List PassKind). Contains z c.args.pass) (sym c.as_slice.ensures.value) h)))).room

pub invariant_of-result : goal.invariant_of-result
invariant_of-result c =
    let a = added c.self.inside.passes c.self.inside.len c.args.self.now c.args.pass c.self.invariant.0 c.self.invariant.1 c.self.view_is
    c.as_slice.ensures.distinct
    (λ h. false≢true (sym c.if-has.false ∙ c.has.ensures.1 (subst (λ (z : List PassKind). Contains z c.args.pass) (sym c.as_slice.ensures.value) h))) in
    let room = a.room in (
      length-set c.self.inside.passes c.self.inside.len c.args.pass ∙ c.self.invariant.0,
      omega (arith, room),
      subst AreDistinct (sym a.now) a.distinct,
    )

pub returns : goal.returns
returns c whole =
    let a = added c.self.inside.passes c.self.inside.len c.args.self.now c.args.pass c.self.invariant.0 c.self.invariant.1 c.self.view_is
    c.as_slice.ensures.distinct
    (λ h. false≢true (sym c.if-has.false ∙ c.has.ensures.1 (subst (λ (z : List PassKind). Contains z c.args.pass) (sym c.as_slice.ensures.value) h))) in (
      λ e. (let same : take (c.self.inside.len + 1) (slice_set c.self.inside.passes c.self.inside.len c.args.pass) ≡ whole = cc in
          let is : whole ≡ c.args.self.now ++ c.args.pass ∷ [] = sym same ∙ a.now in
          (is, subst AreDistinct (sym is) a.distinct)),
      λ both. ap (λ (z : List PassKind). Some z) (a.now ∙ sym both.0),
    )
