-- At most one place is wanted for a part of a variable at a position: of two places one precedes the other, or both are the same; two
-- constants with one token are the same number.
use Rattle.std.proofs.Common.{◌≡◌, ◌⊎◌, ℕ, ◌<◌, ℤ, pos, negsuc, Some, sym, ap, ◌∙◌, inl, inr, arith}
use Rattle.std.proofs.lemmas.Bool.{cases_order}
use Rattle.rv64_instr.specs.declared.place.Place.{Place}
use Rattle.rv64_instr.specs.declared.place.Place.TheVariants.{Register, Slot, Const}
use Rattle.rv64_instr.specs.Arithmetic.{word}
use Rattle.mir_func.specs.declared.position.Pos.{Pos}
use Rattle.mir_func.specs.declared.variable.VarId.{VarId}
use Rattle.mir_func.specs.Graph.{Program}
use Rattle.sem_mir.specs.ValueId.{Token, Fixed}
use Rattle.sem_mir.specs.PreferredLocation.{IsPlace, IsPreferredLocation, SitsIn}

number_of : Token → ℕ → ℕ
number_of (Fixed n) m = n
number_of t m = m

one_number : (a b : ℤ) → IsPlace (Const a) → IsPlace (Const b) → word a ≡ word b → a ≡ b
one_number (pos a) (pos b) low high same = let is : a ≡ b = omega (arith, low, high, same) in ap pos is
one_number (negsuc a) (negsuc b) low high same = let is : a ≡ b = omega (arith, low, high, same) in ap negsuc is
one_number (pos a) (negsuc b) low high same = absurd (omega (arith, low, high, same))
one_number (negsuc a) (pos b) low high same = absurd (omega (arith, low, high, same))

same_by : (a b : ℕ) → (a < b → ⊥) → (b < a → ⊥) → (a ≡ b) ⊎ ((a < b) ⊎ (b < a)) → a ≡ b
same_by a b below above (inl is) = is
same_by a b below above (inr (inl low)) = absurd (below low)
same_by a b below above (inr (inr low)) = absurd (above low)

module _ (g : Program) (start : Pos) (v : VarId) (p : Pos) where
  one_constant : (a b : ℤ) → SitsIn g start v (Const a) p → SitsIn g start v (Const b) p → word a ≡ word b
  one_constant a b first second =
      let r = first.reached in
      let k = first.same r.0 r.1 r.2 in
      let l = second.same r.0 r.1 r.2 in
      let one : Some (Fixed (word a)) ≡ Some (Fixed (word b)) = k.2 ∙ sym k.1 ∙ (l.1 ∙ sym l.2) in
      let same : word a ≡ word b = cc in
      same

  pub one_wanted : (a b : Place) → IsPreferredLocation g start v p a → IsPreferredLocation g start v p b → a ≡ b
  one_wanted (Const a) (Const b) x y = ap Const (one_number a b x.named y.named (one_constant a b x.sits y.sits))
  one_wanted (Const a) (Register r) x y = absurd (y.first (Const a) x.named tt x.sits)
  one_wanted (Const a) (Slot n) x y = absurd (y.first (Const a) x.named tt x.sits)
  one_wanted (Register q) (Const b) x y = absurd (x.first (Const b) y.named tt y.sits)
  one_wanted (Slot m) (Const b) x y = absurd (x.first (Const b) y.named tt y.sits)
  one_wanted (Register q) (Slot n) x y = absurd (y.first (Register q) x.named tt x.sits)
  one_wanted (Slot m) (Register r) x y = absurd (x.first (Register r) y.named tt y.sits)
  one_wanted (Register q) (Register r) x y =
      let below : q < r → ⊥ = λ low. y.first (Register q) x.named low x.sits in
      let above : r < q → ⊥ = λ low. x.first (Register r) y.named low y.sits in
      let same : q ≡ r = same_by q r below above (cases_order q r) in
      ap Register same
  one_wanted (Slot m) (Slot n) x y =
      let below : m < n → ⊥ = λ low. y.first (Slot m) x.named low x.sits in
      let above : n < m → ⊥ = λ low. x.first (Slot n) y.named low y.sits in
      let same : m ≡ n = same_by m n below above (cases_order m n) in
      ap Slot same
