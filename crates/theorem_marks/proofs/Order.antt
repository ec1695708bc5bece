-- What is kept stands in the source's order.
use Rattle.std.proofs.Common.{◌≡◌, ℕ, zero, suc, ◌+◌, ◌*◌, ◌<◌, ◌≤◌, List, [], ◌∷◌, Some, slice_get, ap, ◌∙◌, subst, arith}
use Rattle.mir_func.specs.declared.item.Item.{Item}
use Rattle.mir_func.specs.declared.position.Origin.{Origin}
use Rattle.mir_func.specs.declared.position.Origin.TheVariants.{Kept, Before}
use Rattle.mir_func.specs.declared.position.Pos.{Pos}
use Rattle.mir_func.specs.Positions.{position_of}
use Rattle.sem_mir.specs.Follow.{InOrder, rank, next_rank}

module _ (b : ℕ) where
  rank_grows : (o : Origin) → rank o ≤ next_rank o
  rank_grows (Kept p) = omega arith
  rank_grows (Before p) = omega arith

  -- each item comes from the block, and from where it may stand on
  pub at_least : (xs : List Item) (n k : ℕ) (i : Item) → InOrder b n xs → slice_get xs k ≡ Some i → ((position_of i.origin).block ≡ b) × (n ≤ rank i.origin)
  at_least [] n k i h e = cc
  at_least (x ∷ xs) n zero i (from, least, more) e =
      let same : x ≡ i = cc in
      subst (λ (z : Item). ((position_of z.origin).block ≡ b) × (n ≤ rank z.origin)) same (from, least)
  at_least (x ∷ xs) n (suc k) i (from, least, more) e =
      let w = at_least xs (next_rank x.origin) k i more e in
      let up = rank_grows x.origin in
      (w.0, (let le = w.1 in omega (arith, le, least, up)))

  -- what is kept stands behind what is kept of earlier positions
  pub kept_later : (xs : List Item) (n j k : ℕ) (x y : Item) (p q : Pos) → InOrder b n xs → slice_get xs j ≡ Some x → slice_get xs k ≡ Some y →
      x.origin ≡ Kept p → y.origin ≡ Kept q → j < k → p.item < q.item
  kept_later [] n j k x y p q h at at' e e' lt = cc
  kept_later (z ∷ xs) n j zero x y p q h at at' e e' lt = absurd (omega (arith, lt))
  kept_later (z ∷ xs) n zero (suc k) x y p q (from, least, more) at at' e e' lt =
      let same : z ≡ x = cc in
      let w : next_rank z.origin ≤ rank y.origin = (at_least xs (next_rank z.origin) k y more at').1 in
      let up : next_rank z.origin ≡ 2 * p.item + 2 = ap next_rank (ap (λ (i : Item). i.origin) same ∙ e) in
      let to : rank y.origin ≡ 2 * q.item + 1 = ap rank e' in
      omega (arith, w, up, to)
  kept_later (z ∷ xs) n (suc j) (suc k) x y p q (from, least, more) at at' e e' lt =
      kept_later xs (next_rank z.origin) j k x y p q more at at' e e' (omega (arith, lt))
