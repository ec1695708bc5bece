-- Few registers are saved: as many as are kept of those that may be.
use Rattle.std.proofs.Common.{◌≡◌, ℕ, suc, ◌+◌, ◌<◌, ◌≤◌, Bool, true, false, cond, List, [], ◌∷◌, ◌++◌, length, filter, take, get_or, sym, ap, ◌∙◌, arith}
use Rattle.std.proofs.lemmas.List.Elements.{filter_more}
use Rattle.mir_func.specs.declared.block.Block.{Block}
use Rattle.mir_func.specs.SoundFrame.{SAVED}
use Rattle.frame_rule.specs.Rule.{is_set, saved_registers}

kept_few : (p : ℕ → Bool) (xs : List ℕ) → length (filter p xs) ≤ length xs
kept_few p [] = omega arith
kept_few p (x ∷ xs) = by_test (p x) (kept_few p xs) where
  by_test : (b : Bool) → length (filter p xs) ≤ length xs → length (cond b (x ∷ filter p xs) (filter p xs)) ≤ suc (length xs)
  by_test true le = omega arith
  by_test false le = omega arith

pub few_saved : (blocks : List Block) → length (saved_registers blocks) ≤ 13
few_saved blocks = kept_few (is_set blocks) SAVED

-- one more that is kept, or not
pub kept_more : (p : ℕ → Bool) (xs : List ℕ) (k x : ℕ) (ys zs : List ℕ) → k < length xs → x ≡ get_or xs k 0 → ys ≡ filter p (take k xs) →
    zs ≡ ys ++ cond (p x) (x ∷ []) [] → zs ≡ filter p (take (k + 1) xs)
kept_more p xs k x ys zs lt is so_far more =
    more ∙ ap (λ (ws : List ℕ). ws ++ cond (p x) (x ∷ []) []) so_far
    ∙ ap (λ (y : ℕ). filter p (take k xs) ++ cond (p y) (y ∷ []) []) is ∙ sym (filter_more p xs k 0 lt)
