-- The table of scopes with one more instruction in one of them.
-- Plan: what code is in a scope is any relation of scopes and addresses. A table has each scope that has code once, and each scope's ranges have its code. An
-- instruction that joins a scope adds its addresses to what that scope has, and leaves the others as they are.
use Rattle.std.proofs.Common.{◌≡◌, ◌⊎◌, ◌↔◌, ℕ, zero, suc, ◌+◌, ◌<◌, ◌≤◌, Bool, true, false, ◌||◌, cond, if◌then◌else◌, List, [], ◌∷◌, ◌++◌, length}
use Rattle.std.proofs.Common.{Option}
use Rattle.std.proofs.Common.{Some, None, refl, sym, ◌∙◌, ap, subst, slice_get, inl, inr}
use Rattle.dwarf_line_table.specs.Files.{with_new}
use Rattle.dwarf_rnglists.specs.Ranges.{Ascend}
use Rattle.scope_ways.specs.declared.scope.LexicalScope.{LexicalScope}
use Rattle.scope_ways.specs.Ways.{is_same}
use Rattle.scope_ways.proofs.Ways.{same_scope}
use Rattle.scope_ranges.specs.declared.scope.Scope.{Scope}
use Rattle.scope_ranges.specs.steps.Entered.{places, with_addresses, with_code}
use Rattle.scope_ranges.proofs.Ranges.{range, Covers, EndBy, end_by, joined_ascend, joined_covers, covers_joined}
use Rattle.scope_ranges.proofs.Distinct.{has, AreDistinct, distinct_new, absent_before, absent_other, other_of, or_left, or_right}

-- ---- which scopes they are

pub places_with : (scopes : List Scope) (p : LexicalScope) (parent : Option ℕ) (lo hi : ℕ)
    → places (with_code scopes p parent lo hi) ≡ with_new is_same (places scopes) p
places_with [] p parent lo hi = refl
places_with (s ∷ ss) p parent lo hi = by (is_same p s.place) (places_with ss p parent lo hi)
  where
    deep : (z : Bool) → (known : List LexicalScope)
        → s.place ∷ (if z then known else known ++ p ∷ []) ≡ (if z then s.place ∷ known else s.place ∷ (known ++ p ∷ []))
    deep true known = refl
    deep false known = refl

    by : (z : Bool) → places (with_code ss p parent lo hi) ≡ with_new is_same (places ss) p
        → places (cond z (with_addresses s lo hi ∷ ss) (s ∷ with_code ss p parent lo hi))
        ≡ (if z || has p (places ss) then s.place ∷ places ss else s.place ∷ (places ss ++ p ∷ []))
    by true rest = refl
    by false rest = ap (λ (qs : List LexicalScope). s.place ∷ qs) rest ∙ deep (has p (places ss)) (places ss)

-- ---- a scope of the new table

pub record IsOld (scopes : List Scope) (k : ℕ) (s : Scope) : Type 0 where
  pub was : Scope
  pub at : slice_get scopes k ≡ Some was
  pub place : s.place ≡ was.place
  pub parent : s.parent ≡ was.parent

pub record IsNew (scopes : List Scope) (p : LexicalScope) (parent : Option ℕ) (k : ℕ) (s : Scope) : Type 0 where
  pub last : k ≡ length scopes
  pub place : s.place ≡ p
  pub within : s.parent ≡ parent

none_is_some : {A : Type 0} (a : A) → None ≡ Some a → ⊥
none_is_some a e = cc

some_is_some : {A : Type 0} (a b : A) → Some a ≡ Some b → a ≡ b
some_is_some a b e = cc

pub get_with : (scopes : List Scope) (p : LexicalScope) (parent : Option ℕ) (lo hi k : ℕ) (s : Scope)
    → slice_get (with_code scopes p parent lo hi) k ≡ Some s → IsOld scopes k s ⊎ IsNew scopes p parent k s
get_with [] p parent lo hi zero s e =
    let same = some_is_some (record { place = p; parent = parent; ranges = range lo hi ∷ [] }) s e in
    inr (record { last = refl; place = ap (λ (t : Scope). t.place) (sym same); within = ap (λ (t : Scope). t.parent) (sym same) })
get_with [] p parent lo hi (suc k) s e = absurd (none_is_some s e)
get_with (t ∷ ss) p parent lo hi k s e = by (is_same p t.place) k e (get_with ss p parent lo hi)
  where
    by : (z : Bool) (k : ℕ) → slice_get (cond z (with_addresses t lo hi ∷ ss) (t ∷ with_code ss p parent lo hi)) k ≡ Some s
        → ((j : ℕ) (u : Scope) → slice_get (with_code ss p parent lo hi) j ≡ Some u → IsOld ss j u ⊎ IsNew ss p parent j u)
        → IsOld (t ∷ ss) k s ⊎ IsNew (t ∷ ss) p parent k s
    by true zero e later =
        let same = some_is_some (with_addresses t lo hi) s e in
        inl
        (record {
          was = t;
          at = refl;
          place = ap (λ (u : Scope). u.place) (sym same);
          parent = ap (λ (u : Scope). u.parent) (sym same);
        })
    by true (suc k) e later = inl (record { was = s; at = e; place = refl; parent = refl })
    by false zero e later =
        let same = some_is_some t s e in
        inl (record { was = t; at = refl; place = ap (λ (u : Scope). u.place) (sym same); parent = ap (λ (u : Scope). u.parent) (sym same) })
    by false (suc k) e later = elim (later k s e) [
      | inl old ↦ inl (record { was = old.was; at = old.at; place = old.place; parent = old.parent })
      | inr new ↦ inr (record { last = ap suc new.last; place = new.place; within = new.within })
    ]

-- ---- the code of scopes

-- the ranges of each scope have its code
abbrev pub HaveCode : (LexicalScope → ℕ → Type 0) → List Scope → Type 0
HaveCode C [] = Unit {0}
HaveCode C (s ∷ ss) = (Ascend s.ranges × ((x : ℕ) → Covers s.ranges x ↔ C s.place x)) × HaveCode C ss

-- each scope is there once, with its code, and others have none
pub record IsTable (C : LexicalScope → ℕ → Type 0) (scopes : List Scope) : Type 0 where
  pub distinct : AreDistinct (places scopes)
  pub each : HaveCode C scopes
  pub absent : (q : LexicalScope) → has q (places scopes) ≡ false → (x : ℕ) → C q x → ⊥

module _ (C D : LexicalScope → ℕ → Type 0) (same : (q : LexicalScope) (x : ℕ) → C q x ↔ D q x) where
  same_code : (scopes : List Scope) → HaveCode C scopes → HaveCode D scopes
  same_code [] each = tt
  same_code (s ∷ ss) each = (
    (each.0.0, λ x. (λ h. (same s.place x).0 ((each.0.1 x).0 h), λ h. (each.0.1 x).1 ((same s.place x).1 h))),
    same_code ss each.1,
  )

  pub table_of : (scopes : List Scope) → IsTable C scopes → IsTable D scopes
  table_of scopes t = record {
    distinct = t.distinct;
    each = same_code scopes t.each;
    absent = λ q none x h. t.absent q none x ((same q x).1 h);
  }

-- an instruction in a scope, behind all that the scope has
module _ (C : LexicalScope → ℕ → Type 0) (p : LexicalScope) (parent : Option ℕ) (lo hi : ℕ) (long : lo < hi) (before : (x : ℕ) → C p x → x < lo) where
  abbrev pub More : LexicalScope → ℕ → Type 0
  More q x = C q x ⊎ ((q ≡ p) × (lo ≤ x) × (x < hi))

  others : (ss : List Scope) → has p (places ss) ≡ false → HaveCode C ss → HaveCode More ss
  others [] none each = tt
  others (t ∷ ss) none each = (
    (each.0.0, λ x. (λ h. inl ((each.0.1 x).0 h), stays x)),
    others ss (or_right (is_same p t.place) (has p (places ss)) none) each.1,
  )
    where
      stays : (x : ℕ) → More t.place x → Covers t.ranges x
      stays x (inl h) = (each.0.1 x).1 h
      stays x (inr own) = absurd (other_of p t.place (or_left (is_same p t.place) (has p (places ss)) none) (sym own.0))

  code_with : (ss : List Scope) → AreDistinct (places ss) → HaveCode C ss → (has p (places ss) ≡ false → (x : ℕ) → C p x → ⊥)
      → HaveCode More (with_code ss p parent lo hi)
  code_with [] distinct each none = ((long, λ x. (to x, from x)), tt)
    where
      to : (x : ℕ) → ((lo ≤ x) × (x < hi)) ⊎ ⊥ → More p x
      to x (inl inside) = inr (refl, inside.0, inside.1)
      to x (inr h) = absurd h

      from : (x : ℕ) → More p x → ((lo ≤ x) × (x < hi)) ⊎ ⊥
      from x (inl h) = absurd (none refl x h)
      from x (inr own) = inl (own.1, own.2)
  code_with (s ∷ ss) distinct each none = by (is_same p s.place) refl none (code_with ss distinct.1 each.1)
    where
      ends : p ≡ s.place → EndBy lo s.ranges
      ends same = end_by lo s.ranges each.0.0 (λ x h. before x (subst (λ (q : LexicalScope). C q x) (sym same) ((each.0.1 x).0 h)))

      to : p ≡ s.place → (x : ℕ) → Covers s.ranges x ⊎ ((lo ≤ x) × (x < hi)) → More s.place x
      to same x (inl h) = inl ((each.0.1 x).0 h)
      to same x (inr inside) = inr (sym same, inside.0, inside.1)

      from : (x : ℕ) → More s.place x → Covers s.ranges x ⊎ ((lo ≤ x) × (x < hi))
      from x (inl h) = inl ((each.0.1 x).1 h)
      from x (inr own) = inr (own.1, own.2)

      with_own : p ≡ s.place → HaveCode More (with_addresses s lo hi ∷ ss)
      with_own same = (
        (
          joined_ascend lo hi long s.ranges each.0.0 (ends same),
          λ x. (
            λ h. to same x (joined_covers lo hi long s.ranges x each.0.0 h),
            λ h. covers_joined lo hi long s.ranges x each.0.0 (from x h),
          ),
        ),
        others ss (subst (λ (q : LexicalScope). has q (places ss) ≡ false) (sym same) distinct.0) each.1,
      )

      stays : is_same p s.place ≡ false → (x : ℕ) → More s.place x → Covers s.ranges x
      stays other x (inl h) = (each.0.1 x).1 h
      stays other x (inr own) = absurd (other_of p s.place other (sym own.0))

      by : (z : Bool) → is_same p s.place ≡ z → ((z || has p (places ss)) ≡ false → (x : ℕ) → C p x → ⊥)
          → ((has p (places ss) ≡ false → (x : ℕ) → C p x → ⊥) → HaveCode More (with_code ss p parent lo hi))
          → HaveCode More (cond z (with_addresses s lo hi ∷ ss) (s ∷ with_code ss p parent lo hi))
      by true is absent later = with_own (same_scope p s.place is)
      by false is absent later = ((each.0.0, λ x. (λ h. inl ((each.0.1 x).0 h), stays is x)), later absent)

  pub table_more : (scopes : List Scope) → IsTable C scopes → IsTable More (with_code scopes p parent lo hi)
  table_more scopes t = record {
    distinct = subst AreDistinct (sym (places_with scopes p parent lo hi)) (distinct_new (places scopes) p t.distinct);
    each = code_with scopes t.distinct t.each (t.absent p);
    absent = λ q none x h. gone q x (subst (λ (qs : List LexicalScope). has q qs ≡ false) (places_with scopes p parent lo hi) none) h;
  }
    where
      gone : (q : LexicalScope) (x : ℕ) → has q (with_new is_same (places scopes) p) ≡ false → More q x → ⊥
      gone q x none (inl h) = t.absent q (absent_before (places scopes) p q none) x h
      gone q x none (inr own) = absent_other (places scopes) p q none own.0
