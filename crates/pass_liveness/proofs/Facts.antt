-- The walk by tests is the walk by facts.
use Rattle.std.proofs.Common.{◌≡◌, ◌↔◌, ◌⊎◌, ℕ, Bool, true, false, ◌||◌, ◌&&◌, not, List, [], ◌∷◌, Option, Some, None, refl, ap, inl, inr}
use Rattle.rv64_instr.specs.declared.place.Place.{Place}
use Rattle.rv64_instr.specs.Row.{row_of}
use Rattle.rv64_instr.specs.LocationEffects.{uses_of, defines_of}
use Rattle.mir_func.specs.declared.exit.Exit.{Exit}
use Rattle.mir_func.specs.declared.exit.Exit.TheVariants.{Onward, Perhaps, Always, Final}
use Rattle.mir_func.specs.declared.item.Item.{Item}
use Rattle.mir_func.specs.declared.item.ItemKind.{ItemKind}
use Rattle.mir_func.specs.declared.item.ItemKind.TheVariants.{Code, Mark, Phi}
use Rattle.mir_func.specs.Exits.{exit_of}
use Rattle.pass_liveness.specs.Walk.{live_before, live_across, live_past, live_from}
use Rattle.pass_liveness.proofs.Paths.{LiveBefore, LiveAcross, LivePastEnd, LiveFrom}

or_cases : (a b : Bool) → (a || b) ≡ true → (a ≡ true) ⊎ (b ≡ true)
or_cases true b e = inl refl
or_cases false b e = inr e

or_left : (a b : Bool) → a ≡ true → (a || b) ≡ true
or_left a b e = ap (λ (c : Bool). c || b) e

or_right : (a b : Bool) → b ≡ true → (a || b) ≡ true
or_right true b e = refl
or_right false b e = e

and_not : (a b : Bool) → (a && not b) ≡ true → (b ≡ true → ⊥) × (a ≡ true)
and_not true true e = absurd cc
and_not true false e = (λ f. cc, refl)
and_not false b e = absurd cc

and_not_back : (a b : Bool) → (b ≡ true → ⊥) → a ≡ true → (a && not b) ≡ true
and_not_back a true n e = absurd (n refl)
and_not_back true false n e = refl
and_not_back false false n e = e

module _ (x : Place) (starts : ℕ → Place → Bool) where
  abbrev Known : ℕ → Type 0
  Known n = starts n x ≡ true

  before_facts : (k : ItemKind) (a : Bool) (A : Type 0) → (a ≡ true) ↔ A → (live_before k a x ≡ true) ↔ LiveBefore x k A
  before_facts (Code i n) a A h = (
    λ e. elim (or_cases (uses_of i x) (a && not (defines_of (row_of i) x)) e) [
      | inl u ↦ inl u
      | inr v ↦ let r = and_not a (defines_of (row_of i) x) v in inr (r.0, h.0 r.1)
    ],
    λ f. elim f [
      | inl u ↦ or_left (uses_of i x) (a && not (defines_of (row_of i) x)) u
      | inr (nd, b) ↦ or_right (uses_of i x) (a && not (defines_of (row_of i) x)) (and_not_back a (defines_of (row_of i) x) nd (h.1 b))
    ],
  )
  before_facts (Mark v m) a A h = (λ e. inr (λ d. d, h.0 e), λ f. elim f [ inl u ↦ absurd u | inr (nd, b) ↦ h.1 b ])
  before_facts (Phi p n) a A h = (λ e. inr (λ d. d, h.0 e), λ f. elim f [ inl u ↦ absurd u | inr (nd, b) ↦ h.1 b ])

  across_facts : (e : Exit) (b : Bool) (B : Type 0) → (b ≡ true) ↔ B → (live_across starts e b x ≡ true) ↔ LiveAcross (λ n. starts n x ≡ true) e B
  across_facts Onward b B h = h
  across_facts (Perhaps n) b B h = (
    λ e. elim (or_cases b (starts n x) e) [ inl u ↦ inl (h.0 u) | inr v ↦ inr v ],
    λ f. elim f [ inl u ↦ or_left b (starts n x) (h.1 u) | inr v ↦ or_right b (starts n x) v ],
  )
  across_facts (Always n) b B h = (λ e. e, λ f. f)
  across_facts Final b B h = (λ e. cc, λ f. absurd f)

  past_facts : (next : Option ℕ) → (live_past starts next x ≡ true) ↔ LivePastEnd (λ n. starts n x ≡ true) next
  past_facts None = (λ e. cc, λ f. absurd f)
  past_facts (Some n) = (λ e. e, λ f. f)

  pub walk_facts : (items : List Item) (next : Option ℕ) → (live_from starts items next x ≡ true) ↔ LiveFrom x (λ n. starts n x ≡ true) items next
  walk_facts [] next = past_facts next
  walk_facts (i ∷ is) next =
      before_facts i.kind (live_across starts (exit_of i.kind) (live_from starts is next x) x)
      (LiveAcross (λ n. starts n x ≡ true) (exit_of i.kind) (LiveFrom x (λ n. starts n x ≡ true) is next))
      (across_facts (exit_of i.kind) (live_from starts is next x) (LiveFrom x (λ n. starts n x ≡ true) is next) (walk_facts is next))
