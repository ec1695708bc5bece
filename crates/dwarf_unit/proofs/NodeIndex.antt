-- The instances by the nodes of their calls, as they are gone through from the last one on.
use Rattle.std.proofs.Common.{◌≡◌, ◌⊎◌, ℕ, suc, Bool, cond, List, [], ◌∷◌, drop, Option, Some, None, refl, sym, ◌∙◌, ap, nat_eq, nat_cmp, inl, inr}
use Rattle.std.specs.BTreeMap.{BTreeMap, get, Updates}
use Rattle.std.proofs.lemmas.Bool.{cases_eq, eq-eqb, ne_eqb}
use Rattle.inline_subroutines.proofs.inline_instances.Marks.{other_key}
use Rattle.inline_subroutines.specs.declared.subroutine.InlinedSubroutine.{InlinedSubroutine}
use Rattle.dwarf_unit.specs.steps.Calls.{place_from}

pub node_more : (old new : BTreeMap ℕ ℕ) (instances : List InlinedSubroutine) (k k_ : ℕ) (i : InlinedSubroutine)
    → ((n : ℕ) → get nat_cmp old n ≡ place_from k (drop k instances) n) → k ≡ suc k_ → drop k_ instances ≡ i ∷ drop k instances
    → Updates nat_cmp old new i.call (Some k_) → (n : ℕ) → get nat_cmp new n ≡ place_from k_ (drop k_ instances) n
node_more old new instances k k_ i was next at updates n = by (cases_eq n i.call)
  where
    others : Option ℕ
    others = place_from (suc k_) (drop k instances) n

    here : place_from k_ (drop k_ instances) n ≡ cond (nat_eq n i.call) (Some k_) others
    here = ap (λ (is : List InlinedSubroutine). place_from k_ is n) at

    by : (n ≡ i.call) ⊎ (n ≡ i.call → ⊥) → get nat_cmp new n ≡ place_from k_ (drop k_ instances) n
    by (inl same) =
        ap (λ (m : ℕ). get nat_cmp new m) same ∙ updates.1 ∙ sym (here ∙ ap (λ (b : Bool). cond b (Some k_) others) (eq-eqb n i.call same))
    by (inr other) =
        updates.2 n (other_key i.call n other) ∙ was n ∙ ap (λ (m : ℕ). place_from m (drop k instances) n) next
        ∙ sym (here ∙ ap (λ (b : Bool). cond b (Some k_) others) (ne_eqb n i.call other))

pub node_none : (index : BTreeMap ℕ ℕ) (n : ℕ) → index.entries ≡ [] → get nat_cmp index n ≡ None
node_none index n empty = rw empty refl
