-- The ranges of a variable are the same wherever they are exact for the same entries of one program.
use Rattle.std.proofs.Common.{◌≡◌, ◌⊎◌, ℕ, zero, suc, ◌+◌, List, [], ◌∷◌, refl, sym, ◌∙◌, subst, inl, inr, arith}
use Rattle.std.specs.Prelude.{Contains}
use Rattle.std.proofs.lemmas.Bool.{cases_lt}
use Rattle.mir_func.specs.declared.position.Pos.{Pos}
use Rattle.mir_func.specs.declared.variable.VarId.{VarId}
use Rattle.mir_func.specs.Graph.{Program}
use Rattle.emit_code.specs.declared.code.EncodedInstruction.{EncodedInstruction}
use Rattle.dwarf_loclists.specs.declared.range.Range.{Range}
use Rattle.dwarf_loclists.specs.Ranges.{location_in}
use Rattle.dwarf_loclists.proofs.OneList.{one_list}
use Rattle.location_of_variable.proofs.OneLocation.{one_location}
use Rattle.location_ranges.specs.Lists.{point_of, HasByte, AreRangesOf}
use Rattle.location_ranges.specs.Laws.{RangesAreUnique}

-- an entry with a byte at an address
record EntryAt (entries : List EncodedInstruction) (a : ℕ) : Type 0 where
  entry : EncodedInstruction
  among : Contains entries entry
  has : HasByte entry a

abbrev NoneAt : List EncodedInstruction → ℕ → Type 0
NoneAt entries a = (e : EncodedInstruction) → Contains entries e → HasByte e a → ⊥

first_or : (e : EncodedInstruction) (a : ℕ) → HasByte e a ⊎ (HasByte e a → ⊥)
first_or e a = elim (cases_lt a e.address) as (λ _. HasByte e a ⊎ (HasByte e a → ⊥)) [
  | inl below ↦ inr (λ h. let low = h.0 in omega (arith, below, low))
  | inr from ↦ elim (cases_lt a (e.address + e.size)) as (λ _. HasByte e a ⊎ (HasByte e a → ⊥)) [
    | inl inside ↦ inl (from, inside)
    | inr above ↦ inr (λ h. let high = h.1 in omega (arith, above, high))
  ]
]

entry_or : (entries : List EncodedInstruction) (a : ℕ) → EntryAt entries a ⊎ NoneAt entries a
entry_or [] a = inr (λ e (k, low, is) has. omega (arith, low))
entry_or (e ∷ entries) a = by_first (first_or e a) (entry_or entries a) where
  by_first : HasByte e a ⊎ (HasByte e a → ⊥) → EntryAt entries a ⊎ NoneAt entries a → EntryAt (e ∷ entries) a ⊎ NoneAt (e ∷ entries) a
  by_first (inl has) more = inl (record { entry = e; among = (zero, omega arith, refl); has = has })
  by_first (inr not_here) (inl x) = inl (record { entry = x.entry; among = further x.entry x.among; has = x.has }) where
    further : (x : EncodedInstruction) → Contains entries x → Contains (e ∷ entries) x
    further x (k, low, is) = (suc k, omega (arith, low), is)
  by_first (inr not_here) (inr none) = inr other where
    other : NoneAt (e ∷ entries) a
    other x (zero, low, is) has = not_here (subst (λ (z : EncodedInstruction). HasByte z a) (sym is) has)
    other x (suc k, low, is) has = none x (k, omega (arith, low), is) has

module _ (g : Program) (start : Pos) (entries : List EncodedInstruction) (v : VarId) (xs ys : List Range) (one : AreRangesOf g start entries v xs)
    (other : AreRangesOf g start entries v ys) where
  alike : (a : ℕ) → location_in xs a ≡ location_in ys a
  alike a = elim (entry_or entries a) as (λ _. location_in xs a ≡ location_in ys a) [
    | inl x ↦
        one_location g start v (point_of x.entry) (location_in xs a) (location_in ys a) (one.inside x.entry x.among a x.has)
        (other.inside x.entry x.among a x.has)
    | inr none ↦ one.outside a none ∙ sym (other.outside a none)
  ]

pub ranges_are_unique : RangesAreUnique
ranges_are_unique g start entries v xs ys one other = one_list xs ys one.ascend other.ascend (alike g start entries v xs ys one other)
