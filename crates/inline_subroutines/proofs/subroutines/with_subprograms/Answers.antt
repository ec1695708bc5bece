use Rattle.std.proofs.Common.{◌≡◌, ◌+◌, ◌<◌, ◌++◌, ◌∷◌, [], List, length, take, refl, sym, ap, ◌∙◌, subst, arith}
use Rattle.std.proofs.lemmas.List.{take_more}
use Rattle.dwarf_rnglists.specs.declared.range.AddressRange.{AddressRange}
use Rattle.inline_instances.specs.declared.instance.Instance.{Instance}
use Rattle.inline_subroutines.specs.declared.subroutine.InlinedSubroutine.{InlinedSubroutine}
use Rattle.inline_subroutines.specs.Subroutines.{AreOfInstances}
use Rattle.inline_subroutines.proofs.Made.{made_more}
use Rattle.inline_subroutines.proofs.subroutines.with_subprograms.Goals as goal

pub loop-index-preserved : goal.loop-index-preserved
loop-index-preserved c =
    let meta = c.args.meta.now in
    let instances = c.args.instances.now in
    let ranges = c.args.ranges.now in
    let index = c.loop-index.index in
    let i = c.index-instances-index.result in
    let own = c.index-ranges-index.result in
    let inside : index < length ranges = omega (arith, c.loop-index-test.true, c.requires.ranges) in
    let front : take index instances ++ i ∷ [] ≡ take (index + 1) instances =
    ap (λ (x : Instance). take index instances ++ x ∷ []) c.index-instances-index.is ∙ sym (take_more instances index i c.loop-index-test.true) in
    let front_ranges : take index ranges ++ own ∷ [] ≡ take (index + 1) ranges =
    ap (λ (x : List AddressRange). take index ranges ++ x ∷ []) c.index-ranges-index.is ∙ sym (take_more ranges index own inside) in
    record {
      made =
          subst (λ (is : List Instance). AreOfInstances meta is (take (index + 1) ranges) c.push.new.self) front
          (subst (λ (rs : List (List AddressRange)). AreOfInstances meta (take index instances ++ i ∷ []) rs c.push.new.self) front_ranges
          (subst (λ (ss : List InlinedSubroutine). AreOfInstances meta (take index instances ++ i ∷ []) (take index ranges ++ own ∷ []) ss)
          (sym c.in_ok-push.ensures.ok)
          (made_more meta (take index instances) (take index ranges) c.loop-index.made i own _ c.loop-index.invariant.made
          (record { call = refl; parent = refl; subprogram = c.in_ok-of.ensures.found; ranges = c.in_ok-copy.ensures }))));
      scopes = c.in_ok-of.ensures.known;
    }
