-- What the loop over blocks has after one more.
use Rattle.std.proofs.Common.{◌≡◌, ℕ, ◌+◌, ◌<◌, List, [], ◌∷◌, ◌++◌, length, get_or, take}
use Rattle.std.proofs.Common.{Option, Bool, append_assoc, append-nil, sym, ap, ◌∙◌}
use Rattle.std.proofs.lemmas.List.{take_more}
use Rattle.mir_func.specs.declared.block.Block.{Block}
use Rattle.pass_trait.specs.declared.loss.Loss.{Loss}
use Rattle.fold_proof.specs.Lost.{lost_for, reason_for, all_lost}

module _ (end : ℕ → ℕ) (was : ℕ → Bool) (lead : ℕ → Option ℕ) where
  lost_more : (bs : List Block) (b : Block) → all_lost end was lead (bs ++ b ∷ []) ≡
      all_lost end was lead bs ++ lost_for (reason_for end was lead b.id) b.items
  lost_more [] b = append-nil (lost_for (reason_for end was lead b.id) b.items)
  lost_more (c ∷ bs) b =
      let here : List Loss = lost_for (reason_for end was lead c.id) c.items in
      ap (λ (ls : List Loss). here ++ ls) (lost_more bs b) ∙
      sym (append_assoc here (all_lost end was lead bs) (lost_for (reason_for end was lead b.id) b.items))

  pub lost_turn : (bs : List Block) (i : ℕ) (b : Block) → i < length bs → b ≡ get_or bs i b →
      all_lost end was lead (take (i + 1) bs) ≡ all_lost end was lead (take i bs) ++ lost_for (reason_for end was lead b.id) b.items
  lost_turn bs i b l is =
      ap (all_lost end was lead) (take_more bs i b l ∙ ap (λ (y : Block). take i bs ++ y ∷ []) (sym is)) ∙ lost_more (take i bs) b
