use Rattle.std.proofs.Common.{[], ◌∷◌, ◌++◌, All, List, take, subst, sym, ap, ◌∙◌}
use Rattle.std.proofs.lemmas.List.{take_more, take_all}
use Rattle.std.proofs.lemmas.List.Elements.{All-nil, All-cons, All-append}
use Rattle.mir_func.specs.declared.item.Item.{Item}
use Rattle.mir_func.specs.Sound.{HasForm}
use Rattle.mir_type_facts.proofs.blocks.know_items.Goals as goal

pub loop-i-preserved : goal.loop-i-preserved
loop-i-preserved c =
    let xs : List Item = c.args.items.now in
    let x : Item = c.i-item.result in
    let n = c.loop-i.i-index in
    subst (All (λ (i : Item). HasForm i.kind))
    (sym (take_more xs n x c.loop-i-test.true ∙ ap (λ (y : Item). take n xs ++ y ∷ []) (sym c.i-item.is)))
    (All-append (λ (i : Item). HasForm i.kind) (take n xs) (x ∷ []) c.loop-i.invariant
    (All-cons (λ (i : Item). HasForm i.kind) x [] c.know_kind.ensures (All-nil (λ (i : Item). HasForm i.kind))))

pub returns : goal.returns
returns c = subst (All (λ (i : Item). HasForm i.kind)) (take_all c.loop-i.i-index c.args.items.now c.loop-i-test.false) c.loop-i.invariant
