use Rattle.std.proofs.Common.{◌≡◌, ◌||◌, ◌∷◌, [], ◌++◌, List, Vec, Global, map, take, Bool, true, false, cond, not, append-nil, refl, ap, sym, ◌∙◌}
use Rattle.std.specs.List.{list_any}
use Rattle.mir_func.specs.declared.item.Item.{Item}
use Rattle.fold_rule_proof.specs.Kills.{once}
use Rattle.fold_undef.specs.declared.kill.Kill.{Kill}
use Rattle.fold_undef.specs.Kill.{kill_item, is_same_kill}
use Rattle.fold_undef.proofs.Onces.{once_kills, any_more}
use Rattle.fold_undef.proofs.Turns.{next_take}
use Rattle.fold_undef.proofs.put.each_once.Goals as goal
use Rattle.fold_undef.proofs.put.each_once.Goals.{then-branch+in_ok-push, else-branch}

not_true : (z : Bool) → not z ≡ true → z ≡ false
not_true true e = cc
not_true false e = refl

not_false : (z : Bool) → not z ≡ false → z ≡ true
not_false true e = refl
not_false false e = cc

pub loop-kill-preserved : goal.loop-kill-preserved
loop-kill-preserved c =
    let k : Kill = c.kill-item.result in
    let before : List Kill = take c.loop-kill.kill-index c.args.kills.now in
    let made : List Item = once (map (kill_item c.args.block) before) in
    let next = next_take c.args.kills.now c.loop-kill.kill-index k c.loop-kill-test.true c.kill-item.is in
    let there : Bool = list_any (λ y. is_same_kill y k) before in
    let known = c.loop-kill.invariant.1 k in
    let new = c.in_ok-add.ensures.new in
    let more : c.if-branch.items.items ≡ made ++ cond there [] (kill_item c.args.block k ∷ []) =
    elim c.if-branch.branch [
      | then-branch+in_ok-push w ↦
          (let out : there ≡ false = sym known ∙ not_true _ (sym new ∙ w.if-branch.true) in
          ap (λ (v : Vec Item Global). v.items) w.items-is ∙ w.in_ok-push.ensures.items ∙
          (λ i. c.loop-kill.invariant.0 i ++ w.kill_item.ensures i ∷ []) ∙
          ap (λ (z : Bool). made ++ cond z [] (kill_item c.args.block k ∷ [])) (sym out))
      | else-branch w ↦
          (let within : there ≡ true = sym known ∙ not_false _ (sym new ∙ w.if-branch.false) in
          ap (λ (v : Vec Item Global). v.items) w.items-is ∙ c.loop-kill.invariant.0 ∙ sym (append-nil made) ∙
          ap (λ (z : Bool). made ++ cond z [] (kill_item c.args.block k ∷ [])) (sym within))
    ] in (
      more ∙ sym (once_kills c.args.block before k) ∙ ap (λ (ks : List Kill). once (map (kill_item c.args.block) ks)) (sym next),
      λ q. c.in_ok-add.ensures.seen q ∙ ap (λ (z : Bool). is_same_kill k q || z) (c.loop-kill.invariant.1 q) ∙ sym (any_more before k q) ∙
          ap (λ (ks : List Kill). list_any (λ y. is_same_kill y q) ks) (sym next),
    )
