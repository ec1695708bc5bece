use Rattle.std.proofs.Common.{◌≡◌, ℕ, List, cond, length, refl, sym, ◌∙◌, ap}
use Rattle.std.specs.Prelude.{nat_eq, slice_index}
use Rattle.std.specs.List.{list_any}
use Rattle.rv64_instr.specs.DefsAndUses.{caller_saved}
use Rattle.value_tracker.specs.LocationTracker.{is_slot_at}
use Rattle.kept_ranges.specs.Calls.{slots_passed}
use Rattle.kept_ranges.proofs.places.kept_places.Goals as goal

pub returns-clause-places : goal.returns-clause-places
returns-clause-places c =
    let passed = slots_passed c.args.kind.now in
    let stand = c.args.stand.now in
    let saved = c.in_ok-callee_saved.callee_saved.items in
    let whole : c.replace-all.new.dest.items ≡ saved = λ k. (c.replace-all.ensures.after k).items in
    record {
      kept = record stand { held = c.clear_passed.new.held };
      keeps = record {
        classes = λ i. c.clear_passed.ensures.places i
            ∙ (ap (λ (xs : List ℕ). cond (is_slot_at passed i) 0 (slice_index xs i)) whole
            ∙ (ap (λ (n : ℕ). cond (is_slot_at passed i) 0 n) (c.in_ok-callee_saved.ensures.places i)
            ∙ ap (λ (xs : List ℕ). cond (is_slot_at passed i) 0 (cond (list_any (nat_eq i) caller_saved) 0 (slice_index xs i))) c.as_slice.ensures.value));
        for_all = c.clear_passed.ensures.count ∙ (ap (λ (xs : List ℕ). length xs) whole ∙ (c.in_ok-callee_saved.ensures.count ∙ sym c.requires.places));
        pairs = c.clear_passed.ensures.pairs;
        parts = c.clear_passed.ensures.parts;
        next = c.clear_passed.ensures.next;
        constants = refl;
        reached = refl;
      };
      are = c.in_ok-look_up.ensures.places;
    }
