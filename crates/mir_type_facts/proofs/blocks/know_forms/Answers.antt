use Rattle.std.proofs.Common.{[], ◌∷◌, ◌++◌, All, List, take, subst, sym, ap, ◌∙◌}
use Rattle.std.proofs.lemmas.List.{take_more, take_all}
use Rattle.std.proofs.lemmas.List.Elements.{All-nil, All-cons, All-append}
use Rattle.mir_func.specs.declared.block.Block.{Block}
use Rattle.mir_func.specs.Sound.{HasForm}
use Rattle.mir_type_facts.proofs.blocks.know_forms.Goals as goal

-- the items of a block
abbrev HaveForms : Block → Type 0
HaveForms b = All (λ i. HasForm i.kind) b.items

pub loop-b-preserved : goal.loop-b-preserved
loop-b-preserved c =
    let xs : List Block = c.args.blocks.now in
    let x : Block = c.b-item.result in
    let n = c.loop-b.b-index in
    subst (All HaveForms) (sym (take_more xs n x c.loop-b-test.true ∙ ap (λ (y : Block). take n xs ++ y ∷ []) (sym c.b-item.is)))
    (All-append HaveForms (take n xs) (x ∷ []) c.loop-b.invariant
    (All-cons HaveForms x [] (subst (All (λ i. HasForm i.kind)) c.as_slice.ensures c.know_items.ensures) (All-nil HaveForms)))

pub returns : goal.returns
returns c = subst (All HaveForms) (take_all c.loop-b.b-index c.args.blocks.now c.loop-b-test.false) c.loop-b.invariant
