-- How many numbers and items groups, ends and blocks give.
use Rattle.std.proofs.Common.{◌≡◌, ℕ, zero, suc, ◌+◌, ◌*◌, ◌%◌, ◌≤◌, true, false, cond, nat_eq, length, refl, arith, length-append}
use Rattle.gen_function.specs.Draws.{Drawn, next, draw}
use Rattle.gen_function.specs.Generator.{group_of, group, groups, last_end, end_of, end, beginning, block_items, blocks_made}

group_of_gives : (n : ℕ) (d : Drawn) → (group_of n d).rest.given ≤ d.given + 1
unfolding group_of
group_of_gives zero d = omega arith
group_of_gives (suc zero) d = omega arith
group_of_gives (suc (suc zero)) d = omega arith
group_of_gives (suc (suc (suc zero))) d = omega arith
group_of_gives (suc (suc (suc (suc zero)))) d = omega arith
group_of_gives (suc (suc (suc (suc (suc zero))))) d = omega arith
group_of_gives (suc (suc (suc (suc (suc (suc zero)))))) d = omega arith
group_of_gives (suc (suc (suc (suc (suc (suc (suc n))))))) d = omega arith

group_gives : (d : Drawn) → (group d).rest.given ≤ d.given + 1
unfolding group
group_gives d = group_of_gives (next d.state % 8) (draw d)

pub groups_give : (n : ℕ) (d : Drawn) → (groups n d).rest.given ≤ d.given + n
unfolding groups
groups_give zero d = omega arith
groups_give (suc n) d =
    let before = groups_give n d in let last = group_gives (groups n d).rest in omega arith

end_of_gives : (n count b : ℕ) (d : Drawn) → (end_of n count b d).rest.given ≡ d.given
unfolding end_of
end_of_gives zero count b d = refl
end_of_gives (suc zero) count b d = refl
end_of_gives (suc (suc n)) count b d = refl

end_gives : (count b : ℕ) (d : Drawn) → (end count b d).rest.given ≡ d.given
unfolding end
end_gives count b d =
    elim (nat_eq (b + 1) count) as (λ t. (cond t (record { kinds = last_end; rest = d }) (end_of (next d.state % 3) count b (draw d))).rest.given ≡ d.given) [
      | true ↦ refl
      | false ↦ end_of_gives (next d.state % 3) count b (draw d)
    ]

block_gives : (count b : ℕ) (d : Drawn) → (block_items count b d).rest.given ≤ d.given + 6
unfolding block_items
block_gives count b d = let body = groups_give 6 d in let last = end_gives count b (groups 6 d).rest in omega arith

pub blocks_give : (count n : ℕ) (d : Drawn) → (blocks_made count n d).rest.given ≤ d.given + 6 * n
unfolding blocks_made
blocks_give count zero d = omega arith
blocks_give count (suc b) d =
    let before = blocks_give count b d in let last = block_gives count b (blocks_made count b d).rest in omega arith

-- ---- how many items there are

group_of_size : (n : ℕ) (d : Drawn) → length (group_of n d).kinds ≤ 2
unfolding group_of
group_of_size zero d = omega arith
group_of_size (suc zero) d = omega arith
group_of_size (suc (suc zero)) d = omega arith
group_of_size (suc (suc (suc zero))) d = omega arith
group_of_size (suc (suc (suc (suc zero)))) d = omega arith
group_of_size (suc (suc (suc (suc (suc zero))))) d = omega arith
group_of_size (suc (suc (suc (suc (suc (suc zero)))))) d = omega arith
group_of_size (suc (suc (suc (suc (suc (suc (suc n))))))) d = omega arith

groups_size : (n : ℕ) (d : Drawn) → length (groups n d).kinds ≤ 2 * n
unfolding groups group
groups_size zero d = omega arith
groups_size (suc n) d =
    let before = groups_size n d in
    let w = (groups n d).rest in
    let last = group_of_size (next w.state % 8) (draw w) in
    simp length-append (omega arith)

end_of_size : (n count b : ℕ) (d : Drawn) → length (end_of n count b d).kinds ≤ 2
unfolding end_of
end_of_size zero count b d = omega arith
end_of_size (suc zero) count b d = omega arith
end_of_size (suc (suc n)) count b d = omega arith

end_size : (count b : ℕ) (d : Drawn) → length (end count b d).kinds ≤ 2
unfolding end
end_size count b d =
    elim (nat_eq (b + 1) count) as (λ t. length (cond t (record { kinds = last_end; rest = d }) (end_of (next d.state % 3) count b (draw d))).kinds ≤ 2) [
      | true ↦ omega arith
      | false ↦ end_of_size (next d.state % 3) count b (draw d)
    ]

beginning_size : (b : ℕ) → length (beginning b) ≤ 4
unfolding beginning
beginning_size zero = omega arith
beginning_size (suc b) = omega arith

pub block_size : (count b : ℕ) (d : Drawn) → length (block_items count b d).kinds ≤ 18
unfolding block_items
block_size count b d =
    let first = beginning_size b in let body = groups_size 6 d in let last = end_size count b (groups 6 d).rest in
    simp length-append (omega arith)
