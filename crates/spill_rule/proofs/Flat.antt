-- What some item passes, in one list or block by block.
use Rattle.std.proofs.Common.{◌≡◌, List, [], ◌∷◌, Bool, ◌||◌, refl, sym, ap, ◌∙◌}
use Rattle.std.specs.List.{list_any}
use Rattle.std.proofs.lemmas.List.Concat.{flat_map-cons}
use Rattle.std.proofs.lemmas.List.Folds.{list_any-append}
use Rattle.mir_func.specs.declared.block.Block.{Block}
use Rattle.mir_func.specs.declared.item.Item.{Item}
use Rattle.mir_func.specs.Sound.{items_of}
use Rattle.spill_rule.specs.steps.Any.{any_item}

pub any_flat : (test : Item → Bool) (bs : List Block) → any_item test bs ≡ list_any test (items_of bs)
any_flat test [] = refl
any_flat test (b ∷ bs) =
    let es = any_flat test bs in
    (λ i. list_any test b.items || es i) ∙ sym (list_any-append test b.items (items_of bs)) ∙
    ap (list_any test) (sym (flat_map-cons (λ (c : Block). c.items) b bs))
