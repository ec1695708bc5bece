use Rattle.std.proofs.Common.{[], ◌∷◌, ◌++◌, ◌<◌, ◌^◌, All, List, take, subst, sym, ap, ◌∙◌}
use Rattle.std.proofs.lemmas.List.{take_more, take_all}
use Rattle.std.proofs.lemmas.List.Elements.{All-nil, All-cons, All-append}
use Rattle.mir_func.specs.declared.block.Block.{Block}
use Rattle.mir_type_facts.proofs.blocks.know_silent.Goals as goal

pub loop-b-preserved : goal.loop-b-preserved
loop-b-preserved c =
    let xs : List Block = c.args.blocks.now in
    let x : Block = c.b-item.result in
    let n = c.loop-b.b-index in
    subst (All (λ (b : Block). b.source_end < 2 ^ 32))
    (sym (take_more xs n x c.loop-b-test.true ∙ ap (λ (y : Block). take n xs ++ y ∷ []) (sym c.b-item.is)))
    (All-append (λ (b : Block). b.source_end < 2 ^ 32) (take n xs) (x ∷ []) c.loop-b.invariant
    (All-cons (λ (b : Block). b.source_end < 2 ^ 32) x [] c.know_number.ensures (All-nil (λ (b : Block). b.source_end < 2 ^ 32))))

pub returns : goal.returns
returns c = subst (All (λ (b : Block). b.source_end < 2 ^ 32)) (take_all c.loop-b.b-index c.args.blocks.now c.loop-b-test.false) c.loop-b.invariant
