use Rattle.std.proofs.Common.{◌≡◌, ◌++◌, [], ℕ, Vec, Global, Option, append-nil, ap, sym, ◌∙◌}
use Rattle.std.specs.List.{cons_option}
use Rattle.sem_simulation.specs.mir_func.declared.item.Item.{Item}
use Rattle.sem_simulation.proofs.mir_func.Filtered.{filter_map_turn}
use Rattle.pass_trait.specs.Nops.{nop_number}
use Rattle.pass_trait.proofs.nops.push_numbers.Goals as goal
use Rattle.pass_trait.proofs.nops.push_numbers.Goals.{in-Some+in_ok-push, in_default}

pub loop-i-preserved : goal.loop-i-preserved
loop-i-preserved c =
    let so_far = c.loop-i.numbers.items in
    let o : c.nop_number.result ≡ nop_number c.i-item.result.kind = c.nop_number.ensures in
    let more : c.match-nop_number.numbers.items ≡ so_far ++ cons_option (nop_number c.i-item.result.kind) [] =
    elim c.match-nop_number.branch [
      | in-Some+in_ok-push w ↦ ap (λ (v : Vec ℕ Global). v.items) w.numbers-is ∙ w.in_ok-push.ensures.items ∙
          ap (λ (x : Option ℕ). so_far ++ cons_option x []) (sym w.in-Some.is ∙ o)
      | in_default w ↦ ap (λ (v : Vec ℕ Global). v.items) w.numbers-is ∙ sym (append-nil so_far) ∙
          ap (λ (x : Option ℕ). so_far ++ cons_option x []) (sym w.in_default.is ∙ o)
    ] in
    filter_map_turn (λ (i : Item). nop_number i.kind) c.args.items.now c.loop-i.i-index c.i-item.result so_far c.match-nop_number.numbers.items
    c.args.numbers.now.items c.loop-i-test.true c.i-item.is c.loop-i.invariant more
