use Rattle.std.proofs.Common.{ℕ, List, sym, ap, ◌∙◌}
use Rattle.std.specs.Prelude.{Option, Some, None, cond, slice_index_or}
use Rattle.std.specs.HashMap.{get}
use Rattle.std.proofs.lemmas.Result.{on_ok_weaker}
use Rattle.value_solver.specs.declared.meet.First.{First}
use Rattle.value_solver.specs.PairNumbers.{is_pair}
use Rattle.value_solver.proofs.Pairing as pair
use Rattle.value_solver.proofs.meet.Pairs.put_second.Goals as goal

pub returns-then-has_room : goal.returns-then-has_room
returns-then-has_room c =
    let room = c.make_room.new.self in (
      c.in_ok-make_room.ensures.0,
      λ k. pair.put_second (λ (v : ℕ). slice_index_or room.seconds.items v None) (λ (v : ℕ). slice_index_or c.set_first.new.firsts.items v None)
          (get is_pair room.others) c.args.a c.args.b c.args.number (ap (λ (xs : List (Option First)). slice_index_or xs c.args.a None)
          (sym c.as_slice.ensures.value) ∙ c.has_room.ensures.free c.if-has_room.true) c.set_first.ensures.put k
          ∙ ap (λ (o : Option ℕ). cond (is_pair (c.args.a, c.args.b) k) (Some c.args.number) o) (c.in_ok-make_room.ensures.1 k),
    )

pub returns-else-has_room : goal.returns-else-has_room
returns-else-has_room c =
    let room = c.make_room.new.self in
    let same = c.in_ok-make_room.ensures in
    on_ok_weaker c.put_other.result
    (λ put. (
      same.0,
      λ k. pair.put_last (λ (v : ℕ). slice_index_or room.seconds.items v None) (get is_pair room.others) (get is_pair c.put_other.new.others) c.args.a c.args.b
          c.args.number (same.1 (c.args.a, c.args.b) ∙ c.requires) put k
          ∙ ap (λ (o : Option ℕ). cond (is_pair (c.args.a, c.args.b) k) (Some c.args.number) o) (same.1 k),
    ))
    c.put_other.ensures
