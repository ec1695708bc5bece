-- Items as they are read: where each stands.
use Rattle.std.proofs.Common.{◌≡◌, ℕ, suc, ◌+◌, List, [], ◌∷◌, ◌++◌, length, refl, sym, ap, ◌∙◌, arith}
use Rattle.mir_func.specs.declared.item.Item.{Item}
use Rattle.mir_func.specs.declared.item.ItemKind.{ItemKind}
use Rattle.mir_func.specs.declared.position.Origin.TheVariants.{Kept}
use Rattle.mir_func.specs.declared.location.Loc.TheVariants.{Absent}
use Rattle.std.proofs.lemmas.Grind.{common_steps}
use Rattle.gen_function.specs.Draws.{Drawn}
use Rattle.gen_function.specs.Generator.{placed, groups, end, beginning, block_items}
use Rattle.gen_function.specs.steps.Making.{Appends}

-- an item at an index
abbrev pub item_at : (block index : ℕ) → ItemKind → Item
item_at b n k = record { kind = k; origin = Kept (record { block = b; item = n }); loc = Absent }

pub length-placed : (b n : ℕ) (kinds : List ItemKind) → length (placed b n kinds) ≡ length kinds
length-placed b n [] = refl
length-placed b n (k ∷ kinds) = ap suc (length-placed b (suc n) kinds)

pub placed-snoc : (b n : ℕ) (kinds : List ItemKind) (k : ItemKind) →
    placed b n (kinds ++ k ∷ []) ≡ placed b n kinds ++ item_at b (n + length kinds) k ∷ []
placed-snoc b n [] k = let e : n + 0 ≡ n = omega arith in ap (λ (m : ℕ). item_at b m k ∷ []) (sym e)
placed-snoc b n (j ∷ kinds) k =
    let e : suc n + length kinds ≡ n + suc (length kinds) = omega arith in
    ap (λ (is : List Item). item_at b n j ∷ is)
    (placed-snoc b (suc n) kinds k ∙ ap (λ (m : ℕ). placed b (suc n) kinds ++ item_at b m k ∷ []) e)

-- a block of its three parts
pub block_by_parts : (count b : ℕ) (d g e : Drawn) (k0 k1 k2 k3 : List ItemKind) → k0 ≡ [] → k1 ≡ k0 ++ beginning b → Appends (groups 6 d) k1 k2 g →
    Appends (end count b g) k2 k3 e → Appends (block_items count b d) [] k3 e
unfolding block_items
block_by_parts count b d g e k0 k1 k2 k3 h0 h1 h2 h3 = (grind (arith, common_steps), cc)
