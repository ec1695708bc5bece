use Rattle.std.proofs.Common.{◌<◌, List, length, inl, inr, refl, sym, ap, ◌∙◌, subst, arith}
use Rattle.std.specs.Prelude.{Option, None, slice_index_or}
use Rattle.value_solver.specs.declared.meet.First.{First}
use Rattle.value_solver.specs.PairNumbers.{number_at, number_behind}
use Rattle.value_solver.proofs.meet.Pairs.number.Goals as goal

pub put-requires-clause-unmet : goal.put-requires-clause-unmet
put-requires-clause-unmet c = sym c.find.ensures ∙ c.in-None.is

pub returns-then-has_room-clause-number : goal.returns-then-has_room-clause-number
returns-then-has_room-clause-number c =
    let self = c.args.self.now in
    let a = c.args.a in
    let b = c.args.b in
    let free = ap (λ (xs : List (Option First)). slice_index_or xs b None) (sym c.as_slice.ensures.value) ∙ c.has_room.ensures.free c.if-has_room.true in
    let near = subst (λ (xs : List (Option First)). b < length xs) c.as_slice.ensures.value (c.has_room.ensures.within c.if-has_room.true) in
    inr (
      ap (λ (o : Option First). number_at o a (number_behind self (a, b))) free ∙ c.requires.tidy (a, b) near free,
      c.put_first.ensures.put,
      omega arith,
      refl,
    )

pub returns-in-Some-clause-number : goal.returns-in-Some-clause-number
returns-in-Some-clause-number c = inl (sym c.find.ensures ∙ c.in-Some.is, λ w. refl, refl)

pub returns-in_ok-put-in-None-clause-number : goal.returns-in_ok-put-in-None-clause-number
returns-in_ok-put-in-None-clause-number c = inr (sym c.find.ensures ∙ c.in-None.is, c.in_ok-put-in-None.ensures.put, omega arith, refl)
