use Rattle.std.proofs.Common.{◌≡◌, ℕ, List, [], ◌∷◌, ◌++◌, Option, Some, None, sym, ap, ◌∙◌, subst, nat_cmp}
use Rattle.std.specs.Option.{option_copied}
use Rattle.std.specs.BTreeMap.{get, Updates}
use Rattle.inline_instances.specs.Calls.{IsWay, outer_call}
use Rattle.inline_instances.specs.steps.Marks.{AreMarks}
use Rattle.inline_instances.proofs.Ways.{way_more}
use Rattle.inline_instances.proofs.Marks.{mark, marks_more, leads_to_circle, marks_of_circle}
use Rattle.inline_instances.proofs.way.walk.Goals as goal

pub returns-in-Some-None : goal.returns-in-Some-None
returns-in-Some-None c = λ calls are.
    let meta = c.args.meta.now in
    let from = c.args.from in
    let way = c.calls.way.items in
    let w = c.calls.invariant calls are in
    let call = c.in-Some.call in
    let led : IsWay meta from way (Some call) = subst (λ (o : Option ℕ). IsWay meta from way o) c.in-Some.is w.1 in
    let marked : mark c.calls.marks call ≡ Some None =
    ap (mark c.calls.marks) (sym c.number.ensures) ∙ sym c.get.ensures.value ∙ ap option_copied c.in-Some-None.is ∙ ap Some c.in-Some-None.field-0-is in
    let none = leads_to_circle meta calls from way call c.calls.marks w.0 led marked in
    (marks_of_circle meta calls from (Some call) way c.calls.marks w.0 led none, none)

pub calls-preserved : goal.calls-preserved
calls-preserved c = λ calls are.
    let meta = c.args.meta.now in
    let from = c.args.from in
    let way = c.calls.way.items in
    let w = c.calls.invariant calls are in
    let call = c.in-Some.call in
    let led : IsWay meta from way (Some call) = subst (λ (o : Option ℕ). IsWay meta from way o) c.in-Some.is w.1 in
    let unmarked : mark c.calls.marks call ≡ None =
    ap (mark c.calls.marks) (sym c.number.ensures) ∙ sym c.get.ensures.value ∙ ap option_copied c.in-None.is in
    let updates : Updates nat_cmp c.calls.marks c.insert.new.self call (Some None) =
    subst (λ (n : ℕ). Updates nat_cmp c.calls.marks c.insert.new.self n (Some None)) c.number-in-calls.ensures c.in_ok-insert.ensures.updates in (
      subst (λ (ns : List ℕ). AreMarks meta calls ns c.insert.new.self) (sym c.in_ok-push.ensures.items)
          (marks_more meta calls way c.calls.marks c.insert.new.self call w.0 unmarked updates),
      subst (λ (ns : List ℕ). IsWay meta from ns c.outer_call-at.result) (sym c.in_ok-push.ensures.items)
          (subst (λ (o : Option ℕ). IsWay meta from (way ++ call ∷ []) o) (sym c.outer_call-at.ensures) (way_more meta from way call led)),
    )
