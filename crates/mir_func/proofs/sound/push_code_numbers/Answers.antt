use Rattle.std.proofs.Common.{◌≡◌, ◌++◌, ◌∷◌, [], Option, ℕ, Some, None, Vec, Global, append-nil, ap, sym, ◌∙◌, arith}
use Rattle.std.specs.List.{cons_option}
use Rattle.mir_func.specs.Sound.{code_number}
use Rattle.mir_func.specs.declared.item.Item.{Item}
use Rattle.mir_func.proofs.Filtered.{filter_map_turn}
use Rattle.mir_func.proofs.sound.push_code_numbers.Goals as goal
use Rattle.mir_func.proofs.sound.push_code_numbers.Goals.{in-Some+in_ok-push, in_default}

pub loop-i-preserved : goal.loop-i-preserved
loop-i-preserved c =
    let ns = c.loop-i.numbers.items in
    let more : c.match-code_number.numbers.items ≡ ns ++ cons_option (code_number c.i-item.result.kind) [] =
    elim c.match-code_number.branch [
      | in-Some+in_ok-push w ↦
          let o : code_number c.i-item.result.kind ≡ Some w.in-Some.k = sym c.code_number.ensures ∙ w.in-Some.is in
          let pushed : c.match-code_number.numbers.items ≡ ns ++ w.in-Some.k ∷ [] = ap (λ (v : Vec ℕ Global). v.items) w.numbers-is ∙
          (w.in_ok-push.ensures.items ∙ ap (λ (k : ℕ). ns ++ k ∷ []) w.number.ensures) in
          pushed ∙ ap (λ (x : Option ℕ). ns ++ cons_option x []) (sym o)
      | in_default w ↦
          let o : code_number c.i-item.result.kind ≡ None = sym c.code_number.ensures ∙ w.in_default.is in
          let same : c.match-code_number.numbers.items ≡ ns ++ [] = ap (λ (v : Vec ℕ Global). v.items) w.numbers-is ∙ sym (append-nil ns) in
          same ∙ ap (λ (x : Option ℕ). ns ++ cons_option x []) (sym o)
    ] in
    filter_map_turn (λ (x : Item). code_number x.kind) c.args.items.now c.loop-i.i-index c.i-item.result ns c.match-code_number.numbers.items _
    (omega arith) c.i-item.is c.loop-i.invariant more
