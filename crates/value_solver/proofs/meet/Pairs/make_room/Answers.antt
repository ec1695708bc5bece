use Rattle.std.proofs.Common.{◌≡◌, ℕ, List, refl, sym, ap, ◌∙◌}
use Rattle.std.proofs.lemmas.Bool.{eqb-true}
use Rattle.std.specs.Prelude.{Option, None, slice_index_or}
use Rattle.std.specs.HashMap.{get}
use Rattle.std.proofs.lemmas.List.{nil_from_length}
use Rattle.value_solver.specs.declared.meet.First.{First}
use Rattle.value_solver.specs.PairNumbers.{is_pair, number_at}
use Rattle.value_solver.proofs.meet.Pairs.make_room.Goals as goal

empty_length : (len count : ℕ) → len ≡ 0 → len ≡ count → count ≡ 0
empty_length len count none same = sym same ∙ none

pub returns-then-not-is_empty : goal.returns-then-not-is_empty
returns-then-not-is_empty c = (refl, λ k. refl)

pub returns : goal.returns
returns c =
    let seconds = c.args.self.now.seconds in
    let none = empty_length seconds.len _ (eqb-true _ 0 (sym c.is_empty.ensures ∙ c.if-not-is_empty.false)) seconds.ok.0 in (
      refl,
      λ k. ap (λ (first : Option First). number_at first k.1 (get is_pair c.args.self.now.others k))
          (c.in_ok-self.ensures k.0 ∙ sym (ap (λ (xs : List (Option First)). slice_index_or xs k.0 None) (nil_from_length seconds.items none))),
    )
