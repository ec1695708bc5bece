-- Each field leads to one next field, so the fields that are right end at one field.
use Rattle.std.specs.Int.{w32, to_le_bytes, from_le_bytes}
use Rattle.std.proofs.Common.{◌≡◌, ℕ, List, [], ◌∷◌, ◌++◌, arith, ap, sym, subst, ◌∙◌, refl, inl, inr}
use Rattle.std.proofs.lemmas.Nat.{from_le_bytes-to_le_bytes_4}
use Rattle.dwarf_loclists.specs.declared.range.Location.{Location}
use Rattle.dwarf_loclists.specs.declared.range.Range.{Range}
use Rattle.dwarf_loclists.specs.Fault.{LocationListField, Reaches, begin, onward, IsRight, first_byte, FaultAt, UnitLength, Version, AddressSize}
use Rattle.dwarf_loclists.specs.Fault.{SegmentSelectorSize}
use Rattle.dwarf_loclists.specs.Fault.{OffsetEntryCount, ListOffset, EntryKind, StartOffset, EndOffset, ExpressionLength, Expression, Nothing}
use Rattle.dwarf_loclists.proofs.OneLocation.{uleb_one, heads_one, expression_one}
use Rattle.dwarf_loclists.proofs.OneReading.{cut}

both : (bytes : List ℕ) (f s t : LocationListField) (a : IsRight bytes f s) (b : IsRight bytes f t) → a.here ++ a.rest ≡ b.here ++ b.rest
both bytes f s t a b = sym a.stands ∙ b.stands

fronts : (bytes : List ℕ) (f s t : LocationListField) (a : IsRight bytes f s) (b : IsRight bytes f t) (x y : List ℕ) → a.here ≡ x → b.here ≡ y →
    x ++ a.rest ≡ y ++ b.rest
fronts bytes f s t a b x y is_x is_y = ap (λ (xs : List ℕ). xs ++ a.rest) (sym is_x) ∙ both bytes f s t a b ∙ ap (λ (xs : List ℕ). xs ++ b.rest) is_y

right_one : (bytes : List ℕ) (f s t : LocationListField) → IsRight bytes f s → IsRight bytes f t → s ≡ t
right_one bytes UnitLength s t a b = a.may.4 ∙ sym b.may.4
right_one bytes Version s t a b = a.may.1 ∙ sym b.may.1
right_one bytes AddressSize s t a b = a.may.1 ∙ sym b.may.1
right_one bytes SegmentSelectorSize s t a b = a.may.1 ∙ sym b.may.1
right_one bytes OffsetEntryCount s t a b =
    let same = cut (to_le_bytes w32 a.may.0) (to_le_bytes w32 b.may.0) a.rest b.rest refl (fronts bytes OffsetEntryCount s t a b _ _ a.may.3 b.may.3) in
    let count : a.may.0 ≡ b.may.0 = sym (from_le_bytes-to_le_bytes_4 a.may.0 a.may.1) ∙ ap (from_le_bytes w32) same.0
    ∙ from_le_bytes-to_le_bytes_4 b.may.0 b.may.1 in
    a.may.4 ∙ ap (λ (n : ℕ). ListOffset n []) count ∙ sym b.may.4
right_one bytes (ListOffset n done) s t a b =
    elim a.may [
      | inl x ↦ elim b.may [ inl y ↦ x.2 ∙ sym y.2 | inr y ↦ absurd (omega (arith, x.0, y.0)) ]
      | inr x ↦ elim b.may [ inl y ↦ absurd (omega (arith, x.0, y.0)) | inr y ↦ x.3 ∙ sym y.3 ]
    ]
right_one bytes (EntryKind n done ranges) s t a b =
    elim a.may [
      | inl x ↦
          elim b.may [
            | inl y ↦ x.1 ∙ sym y.1
            | inr y ↦ absurd (omega (arith, heads_one 0 4 _ _ (fronts bytes (EntryKind n done ranges) s t a b (0 ∷ []) (4 ∷ []) x.0 y.0)))
          ]
      | inr x ↦
          elim b.may [
            | inl y ↦ absurd (omega (arith, heads_one 4 0 _ _ (fronts bytes (EntryKind n done ranges) s t a b (4 ∷ []) (0 ∷ []) x.0 y.0)))
            | inr y ↦ x.1 ∙ sym y.1
          ]
    ]
right_one bytes (StartOffset n done ranges) s t a b =
    let same = uleb_one a.may.0 b.may.0 _ _ (fronts bytes (StartOffset n done ranges) s t a b _ _ a.may.3 b.may.3) in
    a.may.4 ∙ ap (λ (m : ℕ). EndOffset n done ranges m) same.0 ∙ sym b.may.4
right_one bytes (EndOffset n done ranges lo) s t a b =
    let same = uleb_one a.may.0 b.may.0 _ _ (fronts bytes (EndOffset n done ranges lo) s t a b _ _ a.may.3 b.may.3) in
    a.may.4 ∙ ap (λ (m : ℕ). ExpressionLength n done ranges lo m) same.0 ∙ sym b.may.4
right_one bytes (ExpressionLength n done ranges lo hi) s t a b =
    let same = uleb_one a.may.0 b.may.0 _ _ (fronts bytes (ExpressionLength n done ranges lo hi) s t a b _ _ a.may.2 b.may.2) in
    a.may.3 ∙ ap (λ (m : ℕ). Expression n done ranges lo hi m) same.0 ∙ sym b.may.3
right_one bytes (Expression n done ranges lo hi len) s t a b =
    let here = cut a.here b.here a.rest b.rest (a.may.2 ∙ sym b.may.2) (both bytes (Expression n done ranges lo hi len) s t a b) in
    let same = expression_one a.may.0 b.may.0 a.may.1.located b.may.1.located (sym a.may.1.spelled ∙ here.0 ∙ b.may.1.spelled) in
    a.may.4 ∙ ap (λ (l : Location). EntryKind n done (ranges ++ record { lo = lo; hi = hi; location = l } ∷ [])) same ∙ sym b.may.4
right_one bytes (Nothing done) s t a b = absurd a.may

-- from one field on to another
data Onward (bytes : List ℕ) : LocationListField → LocationListField → Type 0 where
  here : {f : LocationListField} → Onward bytes f f
  more : {f s t : LocationListField} → IsRight bytes f s → Onward bytes s t → Onward bytes f t

from_start : (bytes : List ℕ) (f t : LocationListField) → Reaches bytes f → Onward bytes f t → Onward bytes UnitLength t
from_start bytes f t begin o = o
from_start bytes f t (onward {field} {next} reached right) o = from_start bytes field t reached (more right o)

one_end : (bytes : List ℕ) (f g s t : LocationListField) → f ≡ g → Onward bytes f s → Onward bytes g t → ((n : LocationListField) → IsRight bytes s n → ⊥)
    → ((n : LocationListField) → IsRight bytes t n → ⊥) → s ≡ t
one_end bytes f g s t same here here end_s end_t = same
one_end bytes f g s t same here (more {f = _} {s = m} right rest) end_s end_t = absurd (end_s m (subst (λ (x : LocationListField). IsRight bytes x m)
    (sym same) right))
one_end bytes f g s t same (more {f = _} {s = m} right rest) here end_s end_t = absurd (end_t m (subst (λ
    (x : LocationListField). IsRight bytes x m) same right))
one_end bytes f g s t same (more {f = _} {s = m} right rest) (more {f = _} {s = k} right' rest') end_s end_t =
    one_end bytes m k s t (right_one bytes g m k (subst (λ (x : LocationListField). IsRight bytes x m) same right) right') rest rest' end_s end_t

pub one_field : (bytes : List ℕ) (s t : LocationListField) → Reaches bytes s → Reaches bytes t → ((n : LocationListField) → IsRight bytes s n → ⊥)
    → ((n : LocationListField) → IsRight bytes t n → ⊥) → s ≡ t
one_field bytes s t to_s to_t end_s end_t =
    one_end bytes UnitLength UnitLength s t refl (from_start bytes s s to_s here) (from_start bytes t t to_t here) end_s end_t

pub one_fault : (bytes : List ℕ) (a b : ℕ) → FaultAt bytes a → FaultAt bytes b → a ≡ b
one_fault bytes a b at_a at_b =
    at_a.is ∙ ap first_byte (one_field bytes at_a.field at_b.field at_a.reached at_b.reached at_a.wrong at_b.wrong) ∙ sym at_b.is

pub no_fault : (bytes : List ℕ) (a : ℕ) (lists : List (List Range)) → FaultAt bytes a → Reaches bytes (Nothing lists) → ⊥
no_fault bytes a lists at reached =
    at.unfinished lists (one_field bytes at.field (Nothing lists) at.reached reached at.wrong (λ n right. right.may))
