-- Fields by their keys.
use Rattle.std.proofs.Common.{◌≡◌, ℕ, zero, suc, ◌+◌, ◌<◌, ◌≤◌, Bool, true, false, ◌||◌, cond, List, [], ◌∷◌, length, get_or, drop, Option, Some, None}
use Rattle.std.proofs.Common.{refl, sym, ap, ◌∙◌}
use Rattle.std.specs.Borrow.{Bor}
use Rattle.std.specs.Ordering.{nat_cmp}
use Rattle.std.specs.Cmp.Lexicographic.{slice_cmp}
use Rattle.std.specs.Str.{bytes_eq}
use Rattle.std.specs.BTreeSet.{BTreeSet, Updates, contains_by}
use Rattle.std.proofs.lemmas.List.{drop_more, drop_all}
use Rattle.std.proofs.lemmas.Map.Text.{is_eq-slice_cmp}
use Rattle.read_metadata.specs.Token.{text_of}
use Rattle.read_debug_nodes.specs.declared.field.NodeField.{NodeField}
use Rattle.read_debug_nodes.specs.Field.{has_key, repeats, field_at}
use Rattle.read_debug_nodes.specs.steps.Keys.{AreKeys}

as_or : (a b : Bool) → cond a true b ≡ (a || b)
as_or true b = refl
as_or false b = refl

-- a set with one key more
pub keys_more : (line : List ℕ) (keys new : BTreeSet (Bor (List ℕ))) (fs : List NodeField) (f : NodeField) (k : Bor (List ℕ)) → AreKeys line keys fs
    → Updates (λ (x y : Bor (List ℕ)). slice_cmp nat_cmp x.now y.now) keys new k true → k.now ≡ text_of line f.key → AreKeys line new (f ∷ fs)
keys_more line keys new fs f k are updates is = λ t.
    updates.0 (record k { now = t })
    ∙ ap (λ (b : Bool). cond b true (contains_by (λ (x : Bor (List ℕ)). slice_cmp nat_cmp t x.now) keys))
    (is_eq-slice_cmp k.now t ∙ ap (λ (s : List ℕ). bytes_eq s t) is)
    ∙ ap (λ (b : Bool). cond (bytes_eq (text_of line f.key) t) true b) (are t)
    ∙ as_or (bytes_eq (text_of line f.key) t) (has_key line t fs)

or_true : (a b : Bool) → b ≡ true → (a || b) ≡ true
or_true true b e = refl
or_true false b e = e

-- a key that comes twice among the last fields comes twice
repeats_from : (line : List ℕ) (fs : List NodeField) (i : ℕ) → repeats line (drop i fs) ≡ true → repeats line fs ≡ true
repeats_from line [] zero e = e
repeats_from line [] (suc i) e = e
repeats_from line (f ∷ fs) zero e = e
repeats_from line (f ∷ fs) (suc i) e = or_true (has_key line (text_of line f.key) fs) (repeats line fs) (repeats_from line fs i e)

module _ (line : List ℕ) (fs : List NodeField) (i : ℕ) (d : NodeField) (lt : i < length fs) where
  abbrev here : NodeField
  here = get_or fs i d

  front : drop i fs ≡ here ∷ drop (i + 1) fs
  front = drop_more fs i d lt

  -- the key of a field is one of those behind it
  pub twice : has_key line (text_of line here.key) (drop (i + 1) fs) ≡ true → repeats line fs ≡ true
  twice is =
      repeats_from line fs i
      (ap (repeats line) front ∙ ap (λ (b : Bool). b || repeats line (drop (i + 1) fs)) is)

  -- it isn't
  pub once : has_key line (text_of line here.key) (drop (i + 1) fs) ≡ false → repeats line (drop (i + 1) fs) ≡ false → repeats line (drop i fs) ≡ false
  once is rest = ap (repeats line) front ∙ ap (λ (b : Bool). b || repeats line (drop (i + 1) fs)) is ∙ rest

  pub more : (keys new : BTreeSet (Bor (List ℕ))) (k : Bor (List ℕ)) → AreKeys line keys (drop (i + 1) fs)
      → Updates (λ (x y : Bor (List ℕ)). slice_cmp nat_cmp x.now y.now) keys new k true → k.now ≡ text_of line here.key → AreKeys line new (drop i fs)
  more keys new k are updates is = λ t. keys_more line keys new (drop (i + 1) fs) here k are updates is t ∙ ap (has_key line t) (sym front)

  by_key : (key : List ℕ) (b : Bool) → bytes_eq (text_of line here.key) key ≡ b → field_at line key (drop i fs)
      ≡ cond b (Some here) (field_at line key (drop (i + 1) fs))
  by_key key b is = ap (field_at line key) front ∙ ap (λ (z : Bool). cond z (Some here) (field_at line key (drop (i + 1) fs))) is

  -- the field with a key
  pub found_here : (key : List ℕ) → bytes_eq (text_of line here.key) key ≡ true → field_at line key (drop i fs) ≡ field_at line key fs
      → Some here ≡ field_at line key fs
  found_here key is read = sym (by_key key true is) ∙ read

  pub goes_on : (key : List ℕ) → bytes_eq (text_of line here.key) key ≡ false → field_at line key (drop i fs) ≡ field_at line key fs
      → field_at line key (drop (i + 1) fs) ≡ field_at line key fs
  goes_on key is read = sym (by_key key false is) ∙ read

-- no field is left
pub none_left : (line key : List ℕ) (fs : List NodeField) (i : ℕ) → length fs ≤ i → field_at line key (drop i fs) ≡ field_at line key fs
    → None ≡ field_at line key fs
none_left line key fs i all read = ap (field_at line key) (sym (drop_all i fs all)) ∙ read

pub none_repeats : (line : List ℕ) (fs : List NodeField) (i : ℕ) → i ≡ 0 → repeats line (drop i fs) ≡ false → repeats line fs ≡ false
none_repeats line fs i is rest = ap (λ (n : ℕ). repeats line (drop n fs)) (sym is) ∙ rest
