-- Which instance a variable is of: the one of the call that it is inlined at.
use Rattle.std.proofs.Common.{◌≡◌, ℕ, zero, suc, ◌+◌, ◌<◌, Bool, true, false, ◌||◌, not, cond, List, [], ◌∷◌, map, Option, Some, None, refl, sym, ◌∙◌, ap, arith}
use Rattle.std.proofs.Common.{◌≤◌, length, nat_eq, slice_get}
use Rattle.std.specs.List.{list_any}
use Rattle.std.specs.Option.{option_eq, option_and_then}
use Rattle.std.proofs.lemmas.Bool.{ne_eqb, eq-eqb, eqb-true, or_parts}
use Rattle.mir_func.specs.declared.variable.VarId.{VarId}
use Rattle.inline_subroutines.proofs.inline_instances.Ways.{none_is_some, some_is_some}
use Rattle.inline_subroutines.specs.declared.subroutine.InlinedSubroutine.{InlinedSubroutine}
use Rattle.inline_subroutines.specs.Subroutines.{AreDistinct}
use Rattle.dwarf_unit.specs.Inlined.{is_in, is_own}
use Rattle.dwarf_unit.specs.steps.Calls.{place_from, place_of}

-- no instance from number k on has an earlier index
later : (k m : ℕ) (is : List InlinedSubroutine) (n : ℕ) → m < k → option_eq nat_eq (place_from k is n) (Some m) ≡ false
later k m [] n below = refl
later k m (i ∷ is) n below = by (nat_eq n i.call) (later (suc k) m is n (omega (arith, below)))
  where
    by : (b : Bool) → option_eq nat_eq (place_from (suc k) is n) (Some m) ≡ false
        → option_eq nat_eq (cond b (Some k) (place_from (suc k) is n)) (Some m) ≡ false
    by true rest = ne_eqb k m (λ e. let same : k ≡ m = e in omega (arith, same, below))
    by false rest = rest

-- ---- the function's own variables

nowhere : (is : List InlinedSubroutine) → list_any (λ (i : InlinedSubroutine). option_eq nat_eq None (Some i.call)) is ≡ false
nowhere [] = refl
nowhere (i ∷ is) = nowhere is

own_at : (k : ℕ) (is : List InlinedSubroutine) (n : ℕ) → option_eq nat_eq (place_from k is n) None
    ≡ not (list_any (λ (i : InlinedSubroutine). option_eq nat_eq (Some n) (Some i.call)) is)
own_at k [] n = refl
own_at k (i ∷ is) n = by (nat_eq n i.call) (own_at (suc k) is n)
  where
    others : Bool
    others = list_any (λ (s : InlinedSubroutine). option_eq nat_eq (Some n) (Some s.call)) is

    by : (b : Bool) → option_eq nat_eq (place_from (suc k) is n) None ≡ not others
        → option_eq nat_eq (cond b (Some k) (place_from (suc k) is n)) None ≡ not (b || others)
    by true rest = refl
    by false rest = rest

pub own_same : (instances : List InlinedSubroutine) (v : VarId) → option_eq nat_eq (place_of instances v) None ≡ is_own instances v
own_same instances v = by v.inlined_at
  where
    by : (at : Option ℕ) → option_eq nat_eq (option_and_then (λ n. place_from 0 instances n) at) None
        ≡ not (list_any (λ (i : InlinedSubroutine). option_eq nat_eq at (Some i.call)) instances)
    by None = sym (ap not (nowhere instances))
    by (Some n) = own_at 0 instances n

-- ---- an instance's variables

-- a call that isn't in a list is none of its calls
not_there : (m j : ℕ) (is : List InlinedSubroutine) (i : InlinedSubroutine) → list_any (nat_eq m) (map (λ s. s.call) is) ≡ false → slice_get is j ≡ Some i
    → nat_eq m i.call ≡ false
not_there m j [] i none at = absurd (none_is_some i at)
not_there m zero (s ∷ is) i none at =
    ap (λ (x : InlinedSubroutine). nat_eq m x.call) (sym (some_is_some s i at))
    ∙ (or_parts (nat_eq m s.call) (list_any (nat_eq m) (map (λ x. x.call) is)) none).0
not_there m (suc j) (s ∷ is) i none at =
    not_there m j is i (or_parts (nat_eq m s.call) (list_any (nat_eq m) (map (λ x. x.call) is)) none).1 at

-- the call at an index has this index
at_index : (k j : ℕ) (is : List InlinedSubroutine) (i : InlinedSubroutine) (n : ℕ) → AreDistinct (map (λ s. s.call) is) → slice_get is j ≡ Some i
    → option_eq nat_eq (place_from k is n) (Some (k + j)) ≡ nat_eq n i.call
at_index k j [] i n once at = absurd (none_is_some i at)
at_index k zero (s ∷ is) i n once at = by (nat_eq n s.call) refl
  where
    same : nat_eq n s.call ≡ nat_eq n i.call
    same = ap (λ (x : InlinedSubroutine). nat_eq n x.call) (some_is_some s i at)

    by : (b : Bool) → nat_eq n s.call ≡ b → option_eq nat_eq (cond b (Some k) (place_from (suc k) is n)) (Some (k + 0)) ≡ nat_eq n i.call
    by true e = eq-eqb k (k + 0) (omega arith) ∙ sym e ∙ same
    by false e = later (suc k) (k + 0) is n (omega arith) ∙ sym e ∙ same
at_index k (suc j) (s ∷ is) i n once at = by (nat_eq n s.call) refl (at_index (suc k) j is i n once.1 at)
  where
    by : (b : Bool) → nat_eq n s.call ≡ b → option_eq nat_eq (place_from (suc k) is n) (Some (suc k + j)) ≡ nat_eq n i.call
        → option_eq nat_eq (cond b (Some k) (place_from (suc k) is n)) (Some (k + suc j)) ≡ nat_eq n i.call
    by true e rest =
        ne_eqb k (k + suc j) (λ x. let same : k ≡ k + suc j = x in omega (arith, same))
        ∙ sym (ap (λ (m : ℕ). nat_eq m i.call) (eqb-true n s.call e) ∙ not_there s.call j is i once.0 at)
    by false e rest =
        let same : k + suc j ≡ suc k + j = omega arith in
        ap (λ (m : ℕ). option_eq nat_eq (place_from (suc k) is n) (Some m)) same ∙ rest

pub call_same : (instances : List InlinedSubroutine) (k : ℕ) (i : InlinedSubroutine) → AreDistinct (map (λ s. s.call) instances)
    → slice_get instances k ≡ Some i → (v : VarId) → option_eq nat_eq (place_of instances v) (Some k) ≡ is_in i.call v
call_same instances k i once at v = by v.inlined_at
  where
    by : (a : Option ℕ) → option_eq nat_eq (option_and_then (λ n. place_from 0 instances n) a) (Some k) ≡ option_eq nat_eq a (Some i.call)
    by None = refl
    by (Some n) =
        let same : k ≡ 0 + k = omega arith in
        ap (λ (m : ℕ). option_eq nat_eq (place_from 0 instances n) (Some m)) same ∙ at_index 0 k instances i n once at

-- ---- an index is that of an instance

pub place_below : (k : ℕ) (is : List InlinedSubroutine) (n p count : ℕ) → k + length is ≤ count → place_from k is n ≡ Some p → p < count
place_below k [] n p count few at = absurd (none_is_some p at)
place_below k (i ∷ is) n p count few at = by (nat_eq n i.call) at (place_below (suc k) is n p count (omega (arith, few)))
  where
    by : (b : Bool) → cond b (Some k) (place_from (suc k) is n) ≡ Some p → (place_from (suc k) is n ≡ Some p → p < count) → p < count
    by true e rest = let same : k ≡ p = some_is_some k p e in omega (arith, same, few)
    by false e rest = rest e

pub placed_below : (instances : List InlinedSubroutine) (v : VarId) (p : ℕ) → place_of instances v ≡ Some p → p < length instances
placed_below instances v p at = by v.inlined_at at
  where
    by : (a : Option ℕ) → option_and_then (λ n. place_from 0 instances n) a ≡ Some p → p < length instances
    by None e = absurd (none_is_some p e)
    by (Some n) e = place_below 0 instances n p (length instances) (omega arith) e
