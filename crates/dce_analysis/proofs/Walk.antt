-- A walk up the items of a block, with a verdict on each.
use Rattle.std.proofs.Common.{◌≡◌, ℕ, List, [], ◌∷◌, ◌++◌, Bool, true, false, cond, not, ◌&&◌, ◌||◌, refl, ap, sym, ◌∙◌, append_assoc}
use Rattle.std.specs.Prelude.{reverse}
use Rattle.std.proofs.lemmas.List.{reverse-append}
use Rattle.rv64_instr.specs.declared.place.Place.{Place}
use Rattle.mir_func.specs.declared.item.Item.{Item}
use Rattle.mir_func.specs.declared.item.ItemKind.{ItemKind}
use Rattle.mir_func.specs.declared.item.ItemKind.TheVariants.{Code, Mark, Phi}
use Rattle.rv64_instr.specs.Row.{row_of}
use Rattle.rv64_instr.specs.LocationEffects.{uses_of, defines_of}
use Rattle.pass_liveness.specs.Sets.{has}
use Rattle.pass_liveness.specs.Walk.{live_before}
use Rattle.dce_rule.specs.Dead.{Places, is_dead, needed_before, needed_at}
use Rattle.dce_analysis.specs.Judge.{verdicts}

-- the set is what is needed before the items below those that are left, and their verdicts are there, the last first
pub record Walking (slots : List ℕ) (needed : Places) (items above : List Item) (set : List ℕ) (dead : List Bool) : Type 0 where
  pub below : List Item
  pub all : items ≡ above ++ below
  pub set_is : has slots set ≡ needed_at below needed
  pub dead_is : reverse dead ≡ verdicts below needed

end : (xs : List Item) → xs ≡ xs ++ []
end [] = refl
end (x ∷ xs) = ap (λ (r : List Item). x ∷ r) (end xs)

pub walk_begins : (slots : List ℕ) (items : List Item) (set : List ℕ) (dead : List Bool) → dead ≡ [] → Walking slots (has slots set) items items set dead
walk_begins slots items set dead e = record { below = []; all = end items; set_is = refl; dead_is = ap reverse e }

-- past dead code the same is needed, and past other items what is live
dead_needs : (k : ItemKind) (needed : Places) → is_dead k needed ≡ true → needed_before k needed ≡ needed
dead_needs (Code i n) needed e = λ j x. cond (e j) (needed x) (uses_of i x || (needed x && not (defines_of (row_of i) x)))
dead_needs (Mark v m) needed e = cc
dead_needs (Phi p n) needed e = cc

kept_needs : (k : ItemKind) (needed : Places) (up : Places) → is_dead k needed ≡ false → ((x : Place) → up x ≡ live_before k (needed x) x) →
    up ≡ needed_before k needed
kept_needs (Code i n) needed up e h =
    let w : up ≡ (λ x. uses_of i x || (needed x && not (defines_of (row_of i) x))) = λ j x. h x j in
    let v : (λ (x : Place). uses_of i x || (needed x && not (defines_of (row_of i) x))) ≡ needed_before (Code i n) needed =
    let s = sym e in λ j x. cond (s j) (needed x) (uses_of i x || (needed x && not (defines_of (row_of i) x))) in
    w ∙ v
kept_needs (Mark v m) needed up e h = λ j x. h x j
kept_needs (Phi p n) needed up e h = λ j x. h x j

one_more : (dead : List Bool) (goes : Bool) (vs : List Bool) → reverse dead ≡ vs → reverse (dead ++ goes ∷ []) ≡ goes ∷ vs
one_more dead goes vs e = reverse-append dead (goes ∷ []) ∙ ap (λ (ws : List Bool). goes ∷ ws) e

module _ {slots : List ℕ} {needed : Places} {items above : List Item} {set : List ℕ} {dead : List Bool}
    (w : Walking slots needed items above set dead) (rest : List Item) (item : Item) (last : above ≡ rest ++ item ∷ []) where
  all_on : items ≡ rest ++ item ∷ w.below
  all_on = w.all ∙ (ap (λ (xs : List Item). xs ++ w.below) last ∙ append_assoc rest (item ∷ []) w.below)

  verdict : is_dead item.kind (has slots set) ≡ is_dead item.kind (needed_at w.below needed)
  verdict = ap (is_dead item.kind) w.set_is

  pub walk_dead : (more : List Bool) (goes : Bool) → goes ≡ is_dead item.kind (has slots set) → goes ≡ true → more ≡ dead ++ goes ∷ [] →
      Walking slots needed items rest set more
  walk_dead more goes is dead_so grown = record {
    below = item ∷ w.below;
    all = all_on;
    set_is = w.set_is ∙ sym (dead_needs item.kind (needed_at w.below needed) (sym verdict ∙ sym is ∙ dead_so));
    dead_is = ap reverse grown ∙ one_more dead goes (verdicts w.below needed) w.dead_is ∙ ap (λ (z : Bool). z ∷ verdicts w.below needed) (is ∙ verdict);
  }

  pub walk_kept : (more : List Bool) (goes : Bool) (up : List ℕ) → goes ≡ is_dead item.kind (has slots set) → goes ≡ false → more ≡ dead ++ goes ∷ [] →
      ((x : Place) → has slots up x ≡ live_before item.kind (has slots set x) x) → Walking slots needed items rest up more
  walk_kept more goes up is no_go grown before = record {
    below = item ∷ w.below;
    all = all_on;
    set_is = kept_needs item.kind (has slots set) (has slots up) (sym is ∙ no_go) before ∙ ap (needed_before item.kind) w.set_is;
    dead_is = ap reverse grown ∙ one_more dead goes (verdicts w.below needed) w.dead_is ∙ ap (λ (z : Bool). z ∷ verdicts w.below needed) (is ∙ verdict);
  }

pub walk_ends : {slots : List ℕ} {needed : Places} {items above : List Item} {set : List ℕ} {dead : List Bool} →
    Walking slots needed items above set dead → above ≡ [] → reverse dead ≡ verdicts items needed
walk_ends {needed = needed} w e = w.dead_is ∙ ap (λ (is : List Item). verdicts is needed) (sym (w.all ∙ ap (λ (xs : List Item). xs ++ w.below) e))
