use Rattle.std.proofs.Common.{◌≡◌, ◌<◌, ◌+◌, List, [], ◌∷◌, ◌++◌, length, take, refl, sym, ap, ◌∙◌, subst, arith}
use Rattle.std.proofs.lemmas.List.{take_more, length-take-le}
use Rattle.mir_func.specs.declared.item.Item.{Item}
use Rattle.pass_salvage.specs.Above.{IsIndexOf}
use Rattle.pass_salvage.proofs.above.Above.of.Goals as goal

take_none : (xs : List Item) → take 0 xs ≡ []
take_none [] = refl
take_none (x ∷ xs) = refl

pub loop-at-init : goal.loop-at-init
loop-at-init c =
    subst (λ (ys : List Item). IsIndexOf c.new-index.result c.args.subs.now ys) (sym (take_none c.args.above.now)) (c.new-index.ensures c.args.subs.now)

pub loop-at-preserved : goal.loop-at-preserved
loop-at-preserved c =
    let xs = c.args.above.now in
    let at = c.loop-at.at in
    let x = c.index-above-at.result in
    let lt : at < length xs = c.loop-at-test.true in
    let len : length (take at xs) ≡ at = length-take-le at xs (omega (arith, lt)) in
    let one : take (at + 1) xs ≡ take at xs ++ x ∷ [] = take_more xs at x lt ∙ ap (λ (y : Item). take at xs ++ y ∷ []) (sym c.index-above-at.is) in
    subst (λ (ys : List Item). IsIndexOf c.push.new.self c.args.subs.now ys) (sym one)
    (c.in_ok-push.ensures (take at xs) x c.loop-at.invariant (sym len) (ap (λ (y : Item). y.kind) c.index-above-at.is))
