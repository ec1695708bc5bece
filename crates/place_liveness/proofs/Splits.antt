-- A place that is live before the items of a block is used there before it is set, or is live at the start of one block to which control goes from them.
use Rattle.std.proofs.Common.{◌≡◌, ℕ, true, List, [], ◌∷◌, Option, Some, None, refl, inl, inr}
use Rattle.std.specs.Prelude.{◌⊎◌, Contains}
use Rattle.std.proofs.lemmas.Bool.{eq-eqb}
use Rattle.pass_liveness.specs.rv64_instr.declared.place.Place.{Place}
use Rattle.pass_liveness.specs.mir_func.declared.exit.Exit.{Exit}
use Rattle.pass_liveness.specs.mir_func.declared.exit.Exit.TheVariants.{Onward, Perhaps, Always, Final}
use Rattle.pass_liveness.specs.mir_func.declared.item.Item.{Item}
use Rattle.pass_liveness.specs.mir_func.Exits.{exit_of}
use Rattle.pass_liveness.specs.mir_func.Successors.{ways_from, ways}
use Rattle.pass_liveness.proofs.mir_func.Ways.{contains_first, contains_later}
use Rattle.pass_liveness.proofs.Paths.{LiveAcross, LivePastEnd, LiveFrom}
use Rattle.place_liveness.specs.Alone.{is_target}

-- the block with this number is the target
abbrev pub At : Option ℕ → ℕ → Type 0
At t n = is_target t n ≡ true

-- by one of the blocks with these numbers that is in a set
abbrev pub ByOne : (S : ℕ → Type 0) → (ns : List ℕ) → (By : Option ℕ → Type 0) → Type 0
ByOne S ns By = (n : ℕ) × S n × Contains ns n × By (Some n)

split_across : (S : ℕ → Type 0) (e : Exit) (rest : List ℕ) (B : Type 0) (By : Option ℕ → Type 0) → (B → By None ⊎ ByOne S rest By) → LiveAcross S e B →
    LiveAcross (At None) e (By None) ⊎ ByOne S (ways_from e rest) (λ t. LiveAcross (At t) e (By t))
split_across S Onward rest B By below h = below h
split_across S (Perhaps m) rest B By below (inl h) = elim (below h) [
  | inl used ↦ inl (inl used)
  | inr (n, here, listed, by) ↦ inr (n, here, contains_later m n rest listed, inl by)
]
split_across S (Perhaps m) rest B By below (inr h) = inr (m, h, contains_first m m rest refl, inr (eq-eqb m m refl))
split_across S (Always m) rest B By below h = inr (m, h, contains_first m m [] refl, eq-eqb m m refl)
split_across S Final rest B By below h = absurd h

module _ (x : Place) (S : ℕ → Type 0) where
  split_past : (next : Option ℕ) → LivePastEnd S next → LivePastEnd (At None) next ⊎ ByOne S (ways [] next) (λ t. LivePastEnd (At t) next)
  split_past None h = absurd h
  split_past (Some n) h = inr (n, h, contains_first n n [] refl, eq-eqb n n refl)

  pub split : (items : List Item) (next : Option ℕ) → LiveFrom x S items next →
      LiveFrom x (At None) items next ⊎ ByOne S (ways items next) (λ t. LiveFrom x (At t) items next)
  split [] next h = split_past next h
  split (i ∷ is) next (inl used) = inl (inl used)
  split (i ∷ is) next (inr (unset, h)) = elim (split_across S (exit_of i.kind) (ways is next) (LiveFrom x S is next) (λ t. LiveFrom x (At t) is next)
      (split is next) h) [
        | inl used ↦ inl (inr (unset, used))
        | inr (n, here, listed, by) ↦ inr (n, here, listed, inr (unset, by))
      ]
