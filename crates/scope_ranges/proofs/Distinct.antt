-- Lists of scopes without duplicates.
use Rattle.std.proofs.Common.{◌≡◌, ◌⊎◌, ℕ, suc, ◌+◌, ◌<◌, ◌≤◌, Bool, true, false, ◌||◌, ◌&&◌, if◌then◌else◌, List, [], ◌∷◌, ◌++◌, length, Option}
use Rattle.std.proofs.Common.{Some}
use Rattle.std.proofs.Common.{None, refl, sym, ◌∙◌, ap, arith, true≢false, eq-eqb, nat_eq, slice_get, cond, not}
use Rattle.std.specs.List.{list_any, position_or_len}
use Rattle.std.specs.Option.{option_eq}
use Rattle.std.proofs.lemmas.List.Folds.{list_any-append}
use Rattle.dwarf_line_table.specs.Files.{with_new}
use Rattle.dwarf_line_table.proofs.FirstUses.{joined}
use Rattle.scope_ways.specs.declared.scope.LexicalScope.{LexicalScope}
use Rattle.scope_ways.specs.Ways.{is_same}
use Rattle.scope_ways.proofs.Ways.{same_scope}

same_option : (o : Option ℕ) → option_eq nat_eq o o ≡ true
same_option None = refl
same_option (Some n) = eq-eqb n n refl

pub same_self : (s : LexicalScope) → is_same s s ≡ true
same_self s = λ i. same_option s.node i && same_option s.inlined_at i

pub same_of : (s t : LexicalScope) → s ≡ t → is_same s t ≡ true
same_of s t e = ap (is_same s) (sym e) ∙ same_self s

pub other_of : (s t : LexicalScope) → is_same s t ≡ false → s ≡ t → ⊥
other_of s t e same = true≢false (sym (same_of s t same) ∙ e)

not_true : (z : Bool) → (z ≡ true → ⊥) → z ≡ false
not_true true other = absurd (other refl)
not_true false other = refl

pub not_same : (s t : LexicalScope) → (s ≡ t → ⊥) → is_same s t ≡ false
not_same s t other = not_true (is_same s t) (λ e. other (same_scope s t e))

abbrev pub has : LexicalScope → List LexicalScope → Bool
has s known = list_any (is_same s) known

pub or_left : (y z : Bool) → (y || z) ≡ false → y ≡ false
or_left true z e = absurd (true≢false e)
or_left false z e = refl

pub or_right : (y z : Bool) → (y || z) ≡ false → z ≡ false
or_right true z e = absurd (true≢false e)
or_right false z e = e

-- no scope is twice in a list
abbrev pub AreDistinct : List LexicalScope → Type 0
AreDistinct [] = Unit {0}
AreDistinct (s ∷ ss) = (has s ss ≡ false) × AreDistinct ss

distinct_push : (known : List LexicalScope) (s : LexicalScope) → AreDistinct known → has s known ≡ false → AreDistinct (known ++ s ∷ [])
distinct_push [] s each other = (refl, tt)
distinct_push (t ∷ known) s each other = (
  list_any-append (is_same t) known (s ∷ []) ∙ (λ i. each.0 i || (apart i || false)),
  distinct_push known s each.1 (or_right (is_same s t) (has s known) other),
)
  where
    apart : is_same t s ≡ false
    apart = not_same t s (λ e. other_of s t (or_left (is_same s t) (has s known) other) (sym e))

pub distinct_new : (known : List LexicalScope) (s : LexicalScope) → AreDistinct known → AreDistinct (with_new is_same known s)
distinct_new known s each = by (has s known) refl
  where
    by : (z : Bool) → has s known ≡ z → AreDistinct (if z then known else known ++ s ∷ [])
    by true e = each
    by false e = distinct_push known s each e

-- what isn't there with one more wasn't there, and isn't that one
pub absent_before : (known : List LexicalScope) (s t : LexicalScope) → has t (with_new is_same known s) ≡ false → has t known ≡ false
absent_before known s t e = by (has s known) e
  where
    by : (z : Bool) → has t (if z then known else known ++ s ∷ []) ≡ false → has t known ≡ false
    by true h = h
    by false h = or_left (has t known) (has t (s ∷ [])) (sym (list_any-append (is_same t) known (s ∷ [])) ∙ h)

pub absent_other : (known : List LexicalScope) (s t : LexicalScope) → has t (with_new is_same known s) ≡ false → t ≡ s → ⊥
absent_other known s t e same =
    true≢false
    (sym (ap (λ (u : LexicalScope). has u (with_new is_same known s)) same ∙ joined is_same same_self known s) ∙ e)

-- where a scope stands that is there
pub at_position : (known : List LexicalScope) (s : LexicalScope) → has s known ≡ true
    → (slice_get known (position_or_len (is_same s) known) ≡ Some s) × (position_or_len (is_same s) known < length known)
at_position [] s e = absurd (true≢false (sym e))
at_position (t ∷ known) s e = by (is_same s t) refl e (at_position known s)
  where
    by : (z : Bool) → is_same s t ≡ z → (z || has s known) ≡ true
        → (has s known ≡ true → (slice_get known (position_or_len (is_same s) known) ≡ Some s) × (position_or_len (is_same s) known < length known))
        → (slice_get (t ∷ known) (cond (not z) (1 + position_or_len (is_same s) known) 0) ≡ Some s)
        × (cond (not z) (1 + position_or_len (is_same s) known) 0 < length (t ∷ known))
    by true is on later = (ap Some (sym (same_scope s t is)), omega arith)
    by false is on later =
        let rest = later on in
        let next : 1 + position_or_len (is_same s) known ≡ suc (position_or_len (is_same s) known) = omega arith in
        let below : position_or_len (is_same s) known < length known = rest.1 in (
          ap (slice_get (t ∷ known)) next ∙ rest.0,
          omega (arith, below),
        )
