use Rattle.std.proofs.Common.{◌≡◌, ◌<◌, ℕ, List, length, sym, ap, ◌∙◌, subst}
use Rattle.std.specs.Prelude.{Option, None, slice_index_or}
use Rattle.std.proofs.lemmas.Result.{on_ok_weaker}
use Rattle.value_solver.specs.declared.meet.First.{First}
use Rattle.value_solver.specs.PairNumbers.{number_at, number_behind}
use Rattle.value_solver.proofs.Pairing.{put_behind, none_behind, tidy_behind}
use Rattle.value_solver.proofs.meet.Pairs.put.Goals as goal

pub put_second-requires : goal.put_second-requires
put_second-requires c =
    none_behind (slice_index_or c.args.self.now.firsts.items c.args.b None) c.args.a (number_behind c.args.self.now (c.args.a, c.args.b))
    c.requires.unmet

pub returns-then-has_room-clause-put : goal.returns-then-has_room-clause-put
returns-then-has_room-clause-put c = c.put_first.ensures.put

pub returns-then-has_room-clause-tidy : goal.returns-then-has_room-clause-tidy
returns-then-has_room-clause-tidy c = c.put_first.ensures.tidy

pub returns-else-has_room-clause-put : goal.returns-else-has_room-clause-put
returns-else-has_room-clause-put c =
    let old = c.args.self.now in
    let new = c.put_second.new.self in
    on_ok_weaker c.put_second.result
    (λ put k. ap (λ (xs : List (Option First)). number_at (slice_index_or xs k.1 None) k.0 (number_behind new k)) put.0
    ∙ put_behind (λ (v : ℕ). slice_index_or old.firsts.items v None) (number_behind old) (number_behind new) c.args.a c.args.b c.args.number
    c.requires.unmet put.1 k) c.put_second.ensures

pub returns-else-has_room-clause-tidy : goal.returns-else-has_room-clause-tidy
returns-else-has_room-clause-tidy c =
    let old = c.args.self.now in
    let new = c.put_second.new.self in
    let taken = subst (λ (xs : List (Option First)). c.args.b < length xs → slice_index_or xs c.args.b None ≡ None → ⊥) c.as_slice.ensures.value
    (c.has_room.ensures.taken c.if-has_room.false) in
    on_ok_weaker c.put_second.result
    (λ put. subst (λ (xs : List (Option First)). (k : ℕ × ℕ) → k.1 < length xs → slice_index_or xs k.1 None ≡ None → number_behind new k ≡ None)
    (sym put.0)
    (tidy_behind (λ (v : ℕ). slice_index_or old.firsts.items v None) (number_behind old) (number_behind new) c.args.a c.args.b c.args.number
    (length old.firsts.items) taken put.1 c.requires.tidy)) c.put_second.ensures
