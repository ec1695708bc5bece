-- The flags of the blocks at whose starts a place is still live, one after another.
use Rattle.std.proofs.Common.{◌≡◌, ℕ, ◌+◌, ◌<◌, Bool, false, List, [], ◌∷◌, ◌++◌, length, sym, ap, ◌∙◌, inl, inr, arith, subst}
use Rattle.std.specs.Prelude.{◌⊎◌, slice_index_or}
use Rattle.std.proofs.lemmas.Bool.{cases_eq}
use Rattle.std.proofs.lemmas.List.{get_or_push, get_or_append_left, length_push}
use Rattle.place_liveness.specs.Renewal.{is_still_live}

pub record Settling (before doubted stays : List Bool) (count : ℕ) (after : List Bool) : Type 0 where
  pub long : length after ≡ count
  pub each : (b : ℕ) → b < count → slice_index_or after b false ≡ is_still_live before doubted stays b

pub settling_none : (before doubted stays after : List Bool) → after ≡ [] → Settling before doubted stays 0 after
settling_none before doubted stays after none = record { long = ap length none; each = λ b lt. absurd (omega (arith, lt)) }

pub settling_more : (before doubted stays : List Bool) (count : ℕ) (after new : List Bool) (flag : Bool) → flag ≡ is_still_live before doubted stays count →
    new ≡ after ++ flag ∷ [] → Settling before doubted stays count after → Settling before doubted stays (count + 1) new
settling_more before doubted stays count after new flag told is s = record {
  long = ap length is ∙ (length_push after flag ∙ ap (λ (k : ℕ). k + 1) s.long);
  each = λ b lt. ap (λ (fs : List Bool). slice_index_or fs b false) is ∙ by_place b (cases_eq b count) lt;
} where
  by_place : (b : ℕ) → (b ≡ count) ⊎ (b ≡ count → ⊥) → b < count + 1 → slice_index_or (after ++ flag ∷ []) b false ≡ is_still_live before doubted stays b
  by_place b (inl e) lt =
      subst (λ (k : ℕ). slice_index_or (after ++ flag ∷ []) k false ≡ is_still_live before doubted stays k) (sym e)
      (get_or_push after flag false count s.long ∙ told)
  by_place b (inr ne) lt =
      let below : b < count = omega (arith, lt, ne) in
      get_or_append_left after (flag ∷ []) false b (omega (arith, below, s.long)) ∙ s.each b below
