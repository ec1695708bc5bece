-- The table of scopes with one more instruction in all scopes on its way, outer ones first.
-- Plan: a way meets no scope twice, so each of its scopes gets the instruction once. The scope around one is entered just before it, and so has an index.
use Rattle.std.proofs.Common.{◌≡◌, ◌⊎◌, ◌↔◌, ℕ, zero, suc, ◌+◌, ◌<◌, ◌≤◌, Bool, true, false, cond, List, [], ◌∷◌, ◌++◌, length, reverse, Option}
use Rattle.std.proofs.Common.{Some, None, refl, sym, ◌∙◌, ap, subst, arith, slice_get, inl, inr, IfSome, Contains}
use Rattle.std.specs.List.{list_any, position_or_len}
use Rattle.std.proofs.lemmas.Grind.{reverse_onto}
use Rattle.read_metadata.specs.Maps.{Maps}
use Rattle.dwarf_line_table.specs.Files.{with_new, first_uses}
use Rattle.dwarf_line_table.proofs.FirstUses.{joined, joined_only, uses_append}
use Rattle.scope_ways.specs.declared.scope.LexicalScope.{LexicalScope}
use Rattle.scope_ways.specs.declared.scope.Outer.{Outer}
use Rattle.scope_ways.specs.declared.scope.Outer.TheVariants as outer
use Rattle.scope_ways.specs.Outer.{around, is_scope}
use Rattle.scope_ways.specs.Ways.{IsWholeWay, is_same, scopes_on}
use Rattle.scope_ways.proofs.Ways.{way_to, comes_again}
use Rattle.scope_ranges.specs.declared.scope.Scope.{Scope}
use Rattle.scope_ranges.specs.Scopes.{IsIndexOf, HasParent}
use Rattle.scope_ranges.specs.steps.Entered.{places, with_code, index_in, entered}
use Rattle.scope_ranges.proofs.Distinct.{same_self, at_position}
use Rattle.scope_ranges.proofs.Tables.{IsTable, table_of, table_more, places_with, get_with, IsOld, IsNew}

-- ---- which scopes they are

pub places_entered : (scopes : List Scope) (inside : List LexicalScope) (lo hi : ℕ)
    → places (entered scopes inside lo hi) ≡ first_uses is_same (places scopes) (reverse inside)
places_entered scopes [] lo hi = refl
places_entered scopes (p ∷ inside) lo hi =
    let before = entered scopes inside lo hi in
    places_with before p (index_in before inside) lo hi
    ∙ ap (λ (known : List LexicalScope). with_new is_same known p) (places_entered scopes inside lo hi)
    ∙ sym (uses_append is_same (places scopes) (reverse inside) (p ∷ []))
    ∙ ap (first_uses is_same (places scopes)) (sym (reverse_onto inside p []))

-- ---- the scopes of a way

module _ (meta : Maps) (is_file : ℕ → Bool) where
  -- these are the scopes of their own on the way from each of them
  abbrev pub AreNested : List LexicalScope → Type 0
  AreNested [] = Unit {0}
  AreNested (p ∷ inside) =
      ((way : List LexicalScope) × IsWholeWay meta (around meta p) way × (inside ≡ scopes_on meta is_file way)) × AreNested inside

  pub nested : (from : Outer) (way : List LexicalScope) → IsWholeWay meta from way → AreNested (scopes_on meta is_file way)
  nested from [] leads = tt
  nested from (s ∷ way) leads = by (is_scope meta is_file s) (nested (around meta s) way leads.1)
    where
      by : (z : Bool) → AreNested (scopes_on meta is_file way)
          → AreNested (cond z (s ∷ scopes_on meta is_file way) (scopes_on meta is_file way))
      by true rest = ((way, leads.1, refl), rest)
      by false rest = rest

  kept_of : (way : List LexicalScope) (s : LexicalScope) → Contains (scopes_on meta is_file way) s → Contains way s
  kept_of [] s on = on
  kept_of (t ∷ way) s on = by (is_scope meta is_file t) on (kept_of way s)
    where
      later : Contains way s → Contains (t ∷ way) s
      later (k, below, e) = (suc k, omega (arith, below), e)

      by : (z : Bool) → Contains (cond z (t ∷ scopes_on meta is_file way) (scopes_on meta is_file way)) s
          → (Contains (scopes_on meta is_file way) s → Contains way s) → Contains (t ∷ way) s
      by true (zero, below, e) rest = (zero, omega arith, e)
      by true (suc k, below, e) rest = later (rest (k, omega (arith, below), e))
      by false on rest = later (rest on)

  -- a scope isn't around itself
  pub apart : (p : LexicalScope) (inside : List LexicalScope) → AreNested (p ∷ inside) → Contains inside p → ⊥
  apart p inside nest on =
      let way = nest.0.0 in
      let leads = nest.0.1 in
      let again : Contains way p = kept_of way p (subst (λ (ss : List LexicalScope). Contains ss p) nest.0.2 on) in
      let back = way_to meta (around meta p) outer.Function way p leads again in
      comes_again meta (outer.Scope p) (p ∷ back.before) (p ∷ way) p (refl, back.up_to) (zero, omega arith, refl) (refl, leads)

-- ---- the code of the scopes

none_in : (q : LexicalScope) → Contains [] q → ⊥
none_in q (k, below, e) = absurd (omega (arith, below))

pub in_tail : {A : Type 0} (x : A) (xs : List A) (y : A) → Contains xs y → Contains (x ∷ xs) y
in_tail x xs y (k, below, e) = (suc k, omega (arith, below), e)

pub in_cases : {A : Type 0} (x : A) (xs : List A) (y : A) → Contains (x ∷ xs) y → (y ≡ x) ⊎ Contains xs y
in_cases x xs y (zero, below, e) = inl (sym e)
in_cases x xs y (suc k, below, e) = inr (k, omega (arith, below), e)

module _ (meta : Maps) (is_file : ℕ → Bool) (C : LexicalScope → ℕ → Type 0) (lo hi : ℕ) (long : lo < hi)
    (before : (q : LexicalScope) (x : ℕ) → C q x → x < lo) (scopes : List Scope) (table : IsTable C scopes) where
  abbrev pub Entered : List LexicalScope → LexicalScope → ℕ → Type 0
  Entered inside q x = C q x ⊎ (Contains inside q × (lo ≤ x) × (x < hi))

  pub table_entered : (inside : List LexicalScope) → AreNested meta is_file inside → IsTable (Entered inside) (entered scopes inside lo hi)
  table_entered [] nest = table_of C (Entered []) (λ q x. (λ h. inl h, λ h. was q x h)) scopes table
    where
      was : (q : LexicalScope) (x : ℕ) → Entered [] q x → C q x
      was q x (inl h) = h
      was q x (inr own) = absurd (none_in q own.0)
  table_entered (p ∷ inside) nest =
      let known = entered scopes inside lo hi in
      table_of (λ q x. Entered inside q x ⊎ ((q ≡ p) × (lo ≤ x) × (x < hi))) (Entered (p ∷ inside)) (λ q x. (to q x, from q x))
      (with_code known p (index_in known inside) lo hi)
      (table_more (Entered inside) p (index_in known inside) lo hi long first known (table_entered inside nest.1))
    where
      first : (x : ℕ) → Entered inside p x → x < lo
      first x (inl h) = before p x h
      first x (inr own) = absurd (apart meta is_file p inside nest own.0)

      to : (q : LexicalScope) (x : ℕ) → Entered inside q x ⊎ ((q ≡ p) × (lo ≤ x) × (x < hi)) → Entered (p ∷ inside) q x
      to q x (inl (inl h)) = inl h
      to q x (inl (inr own)) = inr (in_tail p inside q own.0, own.1, own.2)
      to q x (inr own) = inr ((zero, omega arith, sym own.0), own.1, own.2)

      from : (q : LexicalScope) (x : ℕ) → Entered (p ∷ inside) q x → Entered inside q x ⊎ ((q ≡ p) × (lo ≤ x) × (x < hi))
      from q x (inl h) = inl (inl h)
      from q x (inr own) = elim (in_cases p inside q own.0) [
        | inl same ↦ inr (same, own.1, own.2)
        | inr rest ↦ inl (inr (rest, own.1, own.2))
      ]

-- ---- the scopes around them

module _ (meta : Maps) (is_file : ℕ → Bool) where
  -- each scope has its parent
  abbrev pub HaveParents : List Scope → Type 0
  HaveParents scopes = (k : ℕ) (s : Scope) → slice_get scopes k ≡ Some s → HasParent meta is_file (places scopes) k s

  get_more : {A : Type 0} (xs more : List A) (k : ℕ) (x : A) → slice_get xs k ≡ Some x → slice_get (xs ++ more) k ≡ Some x
  get_more [] more k x e = absurd (none_is_some x e)
    where
      none_is_some : {A : Type 0} (a : A) → None ≡ Some a → ⊥
      none_is_some a e = cc
  get_more (y ∷ xs) more zero x e = e
  get_more (y ∷ xs) more (suc k) x e = get_more xs more k x e

  index_kept : (known more : List LexicalScope) (found : Option ℕ) (ss : List LexicalScope) → IsIndexOf known found ss → IsIndexOf (known ++ more) found ss
  index_kept known more None [] is = tt
  index_kept known more None (s ∷ ss) is = absurd is
  index_kept known more (Some k) [] is = absurd is
  index_kept known more (Some k) (s ∷ ss) is = get_more known more k s is

  parent_kept : (known more : List LexicalScope) (k : ℕ) (s : Scope) → HasParent meta is_file known k s → HasParent meta is_file (known ++ more) k s
  parent_kept known more k s has = record {
    way = has.way;
    leads = has.leads;
    parent = index_kept known more s.parent (scopes_on meta is_file has.way) has.parent;
    earlier = has.earlier;
  }

  places_length : (scopes : List Scope) → length (places scopes) ≡ length scopes
  places_length [] = refl
  places_length (s ∷ ss) = ap suc (places_length ss)

  -- the first of the scopes that were entered has its index
  pub index_entered : (scopes : List Scope) (inside : List LexicalScope) (lo hi : ℕ)
      → IsIndexOf (places (entered scopes inside lo hi)) (index_in (entered scopes inside lo hi) inside) inside
      × IfSome (index_in (entered scopes inside lo hi) inside) (λ p. p < length (entered scopes inside lo hi))
  index_entered scopes [] lo hi = (tt, tt)
  index_entered scopes (p ∷ inside) lo hi =
      let before = entered scopes inside lo hi in
      let now = with_code before p (index_in before inside) lo hi in
      let there = ap (λ (known : List LexicalScope). list_any (is_same p) known) (places_with before p (index_in before inside) lo hi)
      ∙ joined is_same same_self (places before) p in
      let found = at_position (places now) p there in
      (found.0, subst (λ (n : ℕ). position_or_len (is_same p) (places now) < n) (places_length now) found.1)

  module _ (scopes : List Scope) (lo hi : ℕ) (parents : HaveParents scopes) where
    pub parents_entered : (inside : List LexicalScope) → AreNested meta is_file inside → HaveParents (entered scopes inside lo hi)
    parents_entered [] nest = parents
    parents_entered (p ∷ inside) nest = λ k s at.
        let before = entered scopes inside lo hi in
        let more = joined_only is_same (places before) p in
        let now : places (with_code before p (index_in before inside) lo hi) ≡ places before ++ more.0 =
        places_with before p (index_in before inside) lo hi ∙ more.1 in
        subst (λ (known : List LexicalScope). HasParent meta is_file known k s) (sym now)
        (parent_kept (places before) more.0 k s
        (by k s (get_with before p (index_in before inside) lo hi k s at) (parents_entered inside nest.1)))
      where
        before_it : List Scope
        before_it = entered scopes inside lo hi

        by : (k : ℕ) (s : Scope) → IsOld before_it k s ⊎ IsNew before_it p (index_in before_it inside) k s → HaveParents before_it
            → HasParent meta is_file (places before_it) k s
        by k s (inl old) rest =
            let had = rest k old.was old.at in
            record {
              way = had.way;
              leads = subst (λ (q : LexicalScope). IsWholeWay meta (around meta q) had.way) (sym old.place) had.leads;
              parent = subst (λ (o : Option ℕ). IsIndexOf (places before_it) o (scopes_on meta is_file had.way)) (sym old.parent) had.parent;
              earlier = subst (λ (o : Option ℕ). IfSome o (λ q. q < k)) (sym old.parent) had.earlier;
            }
        by k s (inr new) rest =
            let index = index_entered scopes inside lo hi in
            record {
              way = nest.0.0;
              leads = subst (λ (q : LexicalScope). IsWholeWay meta (around meta q) nest.0.0) (sym new.place) nest.0.1;
              parent =
                  subst (λ (ss : List LexicalScope). IsIndexOf (places before_it) s.parent ss) nest.0.2
                  (subst (λ (o : Option ℕ). IsIndexOf (places before_it) o inside) (sym new.within) index.0);
              earlier =
                  subst (λ (o : Option ℕ). IfSome o (λ q. q < k)) (sym new.within)
                  (subst (λ (n : ℕ). IfSome (index_in before_it inside) (λ q. q < n)) (sym new.last) index.1);
            }
