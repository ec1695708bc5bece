-- The ends of generated blocks.
use Rattle.std.proofs.Common.{◌≡◌, ◌≢◌, ℕ, zero, suc, ◌+◌, ◌-◌, ◌%◌, ◌<◌, List, [], ◌∷◌, ◌++◌, None, refl, sym, ap, subst, arith}
use Rattle.std.proofs.Common.{Bool, true, false, cond, nat_eq}
use Rattle.std.specs.List.{All, Contains}
use Rattle.std.proofs.lemmas.List.Elements.{All-nil, All-cons, All-head, All-tail}
use Rattle.std.proofs.lemmas.Bool.{eqb-false, eq-eqb}
use Rattle.mir_func.specs.declared.exit.Exit.{Exit}
use Rattle.mir_func.specs.declared.exit.Exit.TheVariants.{Onward}
use Rattle.mir_func.specs.declared.item.Item.{Item}
use Rattle.mir_func.specs.declared.item.ItemKind.{ItemKind}
use Rattle.mir_func.specs.Exits.{exit_of}
use Rattle.mir_func.specs.Sound.{MayFollow, EndsWell, Closes}
use Rattle.gen_function.specs.Draws.{Drawn, next, draw}
use Rattle.gen_function.specs.Items.{register_of, copy, branch, jump, return}
use Rattle.gen_function.specs.Generator.{last_end, end_of, end, placed}
use Rattle.gen_function.proofs.Placing.{item_at}
use Rattle.gen_function.proofs.Plain.{IsFine, IsPlain, plain_copy, fine_branch, fine_jump, fine_return}

-- the end of a block of a function with these blocks
pub record IsEnd (ids : List ℕ) (kinds : List ItemKind) : Type 0 where
  pub fine : All (IsFine ids) kinds
  pub ends : (b n : ℕ) → EndsWell (placed b n kinds)

nothing_ends : (ids : List ℕ) → IsEnd ids []
nothing_ends ids = record { fine = All-nil (IsFine ids); ends = λ b n. tt }

branch_ends : (ids : List ℕ) (a n : ℕ) → Contains ids n → IsEnd ids (branch (register_of a) n ∷ [])
branch_ends ids a n h = record {
  fine = All-cons (IsFine ids) _ [] (fine_branch ids a n h) (All-nil (IsFine ids));
  ends = λ b m. (tt, tt);
}

jump_ends : (ids : List ℕ) (n : ℕ) → Contains ids n → IsEnd ids (jump n ∷ [])
jump_ends ids n h = record {
  fine = All-cons (IsFine ids) _ [] (fine_jump ids n h) (All-nil (IsFine ids));
  ends = λ b m. (refl, tt);
}

ten_apart : ◌≡◌ {A = ℕ} 10 2 → ⊥
ten_apart e = omega arith

eight_apart : ◌≡◌ {A = ℕ} 8 2 → ⊥
eight_apart e = omega arith

last_ends : (ids : List ℕ) → IsEnd ids last_end
last_ends ids = record {
  fine = All-cons (IsFine ids) (copy 10 8 None) (return ∷ []) (plain_copy ids 10 8 None ten_apart eight_apart).fine
      (All-cons (IsFine ids) return [] (fine_return ids) (All-nil (IsFine ids)));
  ends = λ b m. (tt, (refl, tt));
}

-- the blocks below so many are there
abbrev pub HasBelow : (ids : List ℕ) (count : ℕ) → Type 0
HasBelow ids count = (n : ℕ) → n < count → Contains ids n

end_of_ends : (ids : List ℕ) (way count b : ℕ) (d : Drawn) → HasBelow ids count → b + 1 < count → IsEnd ids (end_of way count b d).kinds
unfolding end_of
end_of_ends ids zero count b d has l = nothing_ends ids
end_of_ends ids (suc zero) count b d has l =
    let t = next (next d.state) in
    branch_ends ids (next d.state % 8) (t % (count - 1) + 1) (has (t % (count - 1) + 1) (omega arith))
end_of_ends ids (suc (suc n)) count b d has l =
    let t = next d.state in
    jump_ends ids (b + 1 + t % (count - 1 - b)) (has (b + 1 + t % (count - 1 - b)) (omega arith))

pub end_ends : (ids : List ℕ) (count b : ℕ) (d : Drawn) → HasBelow ids count → b < count → IsEnd ids (end count b d).kinds
unfolding end
end_ends ids count b d has l = by_test (nat_eq (b + 1) count) refl where
  by_test : (t : Bool) → nat_eq (b + 1) count ≡ t →
      IsEnd ids (cond t (record { kinds = last_end; rest = d }) (end_of (next d.state % 3) count b (draw d))).kinds
  by_test true e = last_ends ids
  by_test false e =
      let apart : b + 1 ≢ count = eqb-false (b + 1) count e in end_of_ends ids (next d.state % 3) count b (draw d) has (omega arith)

-- the last block has the end that returns
pub end_of_last : (count b : ℕ) (d : Drawn) → b + 1 ≡ count → (end count b d).kinds ≡ last_end
unfolding end
end_of_last count b d e = ap (λ (t : Bool). (cond t (record { kinds = last_end; rest = d }) (end_of (next d.state % 3) count b (draw d))).kinds)
    (eq-eqb (b + 1) count e)

-- ---- bodies before ends

may_follow : (x : Exit) (rest : List Item) → x ≡ Onward → MayFollow x rest
may_follow x rest e = subst (λ (y : Exit). MayFollow y rest) (sym e) tt

pub ends_behind : (ids : List ℕ) (body last : List ItemKind) → All (IsPlain ids) body → IsEnd ids last → (b n : ℕ) → EndsWell (placed b n (body ++ last))
ends_behind ids [] last plain end b n = end.ends b n
ends_behind ids (k ∷ body) last plain end b n = (
  may_follow (exit_of k) (placed b (suc n) (body ++ last)) (All-head (IsPlain ids) k body plain).onward,
  ends_behind ids body last
      (All-tail (IsPlain ids) k body plain) end b (suc n),
)

closes_more : (x : Item) (ys : List Item) → Closes ys → Closes (x ∷ ys)
closes_more x [] h = absurd h
closes_more x (y ∷ ys) h = h

pub closes_behind : (body : List ItemKind) (b n : ℕ) → Closes (placed b n (body ++ last_end))
closes_behind [] b n = tt
closes_behind (k ∷ body) b n = closes_more (item_at b n k) (placed b (suc n) (body ++ last_end)) (closes_behind body b (suc n))

pub fine_behind : (ids : List ℕ) (body last : List ItemKind) → All (IsPlain ids) body → IsEnd ids last → All (IsFine ids) (body ++ last)
fine_behind ids [] last plain end = end.fine
fine_behind ids (k ∷ body) last plain end =
    All-cons (IsFine ids) k (body ++ last) (All-head (IsPlain ids) k body plain).fine (fine_behind ids body last (All-tail (IsPlain ids) k body plain) end)
