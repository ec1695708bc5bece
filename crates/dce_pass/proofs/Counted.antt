-- There is no more code than items.
use Rattle.std.proofs.Common.{◌≤◌, List, [], ◌∷◌, length, count_by, Bool, true, false, cond, arith}
use Rattle.std.proofs.lemmas.List.Sums.{sum_by-cons}
use Rattle.mir_func.specs.declared.item.Item.{Item}
use Rattle.mir_func.specs.Function.{Function}
use Rattle.mir_func.specs.Sound.{items_of}
use Rattle.sem_mir.specs.Align.{is_code}
use Rattle.pass_trait.specs.Sizes.{code_count, item_count}

one_at_most : (z : Bool) → cond z 1 0 ≤ 1
one_at_most true = omega arith
one_at_most false = omega arith

code_in : (xs : List Item) → count_by (λ (i : Item). is_code i.kind) xs ≤ length xs
code_in [] = omega arith
code_in (x ∷ xs) =
    let first = sum_by-cons (λ (i : Item). cond (is_code i.kind) 1 0) x xs in
    let one = one_at_most (is_code x.kind) in
    let rest = code_in xs in
    omega (arith, first, one, rest)

pub code_is_items : (f : Function) → code_count f ≤ item_count f
code_is_items f = code_in (items_of f.blocks)
