use Rattle.std.proofs.Common.{◌≡◌, ◌<◌, ◌≤◌, ℕ, List, length, take, arith, ap, ◌∙◌}
use Rattle.std.specs.Prelude.{Some, cond, nat_eq, slice_get, slice_index}
use Rattle.std.proofs.lemmas.List.{length-take-le, get_or-take}
use Rattle.std.proofs.lemmas.Option.{slice_get-get_or}
use Rattle.std.specs.Map.{lookup}
use Rattle.mir_substitution.specs.Index.{is_key}
use Rattle.value_tracker.proofs.Starting.{start_holds}
use Rattle.value_tracker.proofs.start.start.Goals as goal

first_so_many : (n : ℕ) (xs ys : List ℕ) (j : ℕ) → j < n → n ≤ length xs → ys ≡ take n xs → slice_get ys j ≡ Some (slice_index xs j)
first_so_many n xs ys j lt within e =
    let count : length (take n xs) ≡ n = length-take-le n xs within in
    ap (λ zs. slice_get zs j) e ∙ (slice_get-get_or (take n xs) j 0 (omega (arith, count, lt)) ∙ ap (λ (z : ℕ). Some z) (get_or-take n xs j 0 lt))

pub returns-clause-holds : goal.returns-clause-holds
returns-clause-holds c = λ class settle.
    start_holds c.args.variables.now c.args.things.now c.args.index.now c.args.settled.now c.requires.things c.requires.index class settle
    c.place.new.places.items c.place.ensures.placed
    (record { places = c.set_fixed.new.places; pairs = c.new.result; parts = c.in_ok-from_slice.field-0; next = c.in_ok-next_after.field-0 })
    c.set_fixed.ensures.count
    (λ p. c.set_fixed.ensures.places p ∙ ap (λ (z : ℕ). cond (nat_eq p 2) 0 (cond (nat_eq p 0) z
    (slice_index c.place.new.places.items p))) c.number_class.ensures)
    (λ q. ap (λ es. lookup (is_key q) es) c.new.ensures.empty)
    (λ j lt. first_so_many (length c.args.variables.now) c.args.settled.now c.in_ok-from_slice.field-0.items j lt (omega
    (arith, c.requires.variables, c.requires.settled)) (c.in_ok-from_slice.ensures.items ∙ ap (λ (n : ℕ). take n c.args.settled.now) c.len.ensures)) c.in_ok-next_after.ensures
