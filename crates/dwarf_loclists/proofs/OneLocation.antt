-- A location can be told from its expression.
use Rattle.std.specs.Prelude.{ℤ, pos}
use Rattle.std.proofs.Common.{◌≡◌, ℕ, ◌+◌, ◌-◌, ◌<◌, ◌≤◌, List, [], ◌∷◌, ◌++◌, length, arith, ap, sym, subst, ◌∙◌, refl, append_assoc, append-nil, inl, inr}
use Rattle.std.proofs.lemmas.Int.{ints}
use Rattle.std.proofs.lemmas.Bool.{cases_lt}
use Rattle.std.proofs.lemmas.Bool.Decides.{nat_tests}
use Rattle.rv64_instr.specs.declared.place.Place.{Place}
use Rattle.rv64_instr.specs.declared.place.Place.TheVariants.{Register, Slot, Const}
use Rattle.dwarf_base.specs.Leb.{uleb_of, sleb_of, unsigned_value, signed_value}
use Rattle.dwarf_base.proofs.LebLaws.{no_prefix, uleb_law, sleb_law}
use Rattle.dwarf_loclists.specs.declared.range.Part.{Part}
use Rattle.dwarf_loclists.specs.declared.range.Location.{Location}
use Rattle.dwarf_loclists.specs.declared.range.Location.TheVariants.{Whole, Parts}
use Rattle.dwarf_loclists.specs.Ranges.{IsListed, IsPiece, ArePieces, IsLocated}
use Rattle.dwarf_loclists.specs.Spelling.{simple_location, gap, piece, composite_location, expression}

-- an unsigned number can be told from what follows it
pub uleb_one : (m n : ℕ) (x y : List ℕ) → uleb_of m ++ x ≡ uleb_of n ++ y → (m ≡ n) × (x ≡ y)
uleb_one m n x y e =
    let found = no_prefix (uleb_of m) (uleb_of n) x y (uleb_law m).0 (uleb_law n).0 e in
    (sym (uleb_law m).1 ∙ ap unsigned_value found.0 ∙ (uleb_law n).1, found.1)

-- so can a signed one
pub sleb_one : (v w : ℤ) (x y : List ℕ) → sleb_of v ++ x ≡ sleb_of w ++ y → (v ≡ w) × (x ≡ y)
sleb_one v w x y e =
    let found = no_prefix (sleb_of v) (sleb_of w) x y (sleb_law v).0 (sleb_law w).0 e in
    (sym (sleb_law v).1 ∙ ap signed_value found.0 ∙ (sleb_law w).1, found.1)

pub heads_one : (m n : ℕ) (a b : List ℕ) → m ∷ a ≡ n ∷ b → m ≡ n
heads_one m n a b e = cc

pub tails_one : (m n : ℕ) (a b : List ℕ) → m ∷ a ≡ n ∷ b → a ≡ b
tails_one m n a b e = cc

-- a place can be told from what follows its simple location
pub place_one : (p q : Place) (x y : List ℕ) → IsListed p → IsListed q → simple_location p ++ x ≡ simple_location q ++ y → (p ≡ q) × (x ≡ y)
place_one (Register r) (Register s) x y ok_p ok_q e =
    let same : r ≡ s = omega (arith, heads_one (80 + r) (80 + s) x y e) in
    (ap Register same, tails_one (80 + r) (80 + s) x y e)
place_one (Register r) (Slot o) x y ok_p ok_q e = absurd (omega (arith, ok_p.1, heads_one (80 + r) 114 _ _ e))
place_one (Register r) (Const c) x y ok_p ok_q e = absurd (omega (arith, heads_one (80 + r) 17 _ _ e))
place_one (Slot o) (Register r) x y ok_p ok_q e = absurd (omega (arith, ok_q.1, heads_one 114 (80 + r) _ _ e))
place_one (Slot o) (Slot n) x y ok_p ok_q e =
    let found = sleb_one (pos o) (pos n) x y (tails_one 114 114 _ _ e) in
    let same : o ≡ n = omega (arith, ints, found.0) in
    (ap Slot same, found.1)
place_one (Slot o) (Const c) x y ok_p ok_q e = absurd (omega (arith, heads_one 114 17 _ _ e))
place_one (Const c) (Register r) x y ok_p ok_q e = absurd (omega (arith, heads_one 17 (80 + r) _ _ e))
place_one (Const c) (Slot o) x y ok_p ok_q e = absurd (omega (arith, heads_one 17 114 _ _ e))
place_one (Const c) (Const d) x y ok_p ok_q e =
    let found = sleb_one c d (159 ∷ x) (159 ∷ y) (sym (append_assoc (sleb_of c) (159 ∷ []) x) ∙ tails_one 17 17 _ _ e ∙ append_assoc (sleb_of d) (159 ∷ []) y)
    in
    (ap Const found.0, tails_one 159 159 x y found.1)

-- a simple location doesn't begin like a gap
pub no_gap : (p : Place) (x y : List ℕ) → IsListed p → simple_location p ++ x ≡ 147 ∷ y → ⊥
no_gap (Register r) x y ok e = omega (arith, ok.1, heads_one (80 + r) 147 _ _ e)
no_gap (Slot o) x y ok e = omega (arith, heads_one 114 147 _ _ e)
no_gap (Const c) x y ok e = omega (arith, heads_one 17 147 _ _ e)

pub gap_some : (from offset : ℕ) → from < offset → gap from offset ≡ 147 ∷ uleb_of (offset - from)
gap_some from offset below = grind (arith, nat_tests)

pub gap_none : (from offset : ℕ) → offset ≤ from → gap from offset ≡ []
gap_none from offset above = grind (arith, nat_tests)

-- what follows the gap before a piece
abbrev pub after_gap : Part → List ℕ → List ℕ
after_gap p x = simple_location p.place ++ (147 ∷ (uleb_of p.length ++ x))

pub piece-gap : (from : ℕ) (p : Part) (x : List ℕ) → from < p.offset → piece from p ++ x ≡ 147 ∷ (uleb_of (p.offset - from) ++ after_gap p x)
piece-gap from p x below = rw (gap_some from p.offset below) (simp append_assoc)

pub piece-no_gap : (from : ℕ) (p : Part) (x : List ℕ) → p.offset ≤ from → piece from p ++ x ≡ after_gap p x
piece-no_gap from p x above = rw (gap_none from p.offset above) (simp append_assoc)

same_part : (p q : Part) → p.offset ≡ q.offset → p.length ≡ q.length → p.place ≡ q.place → p ≡ q
same_part p q offset length place = λ i. record { offset = offset i; length = length i; place = place i }

after_one : (p q : Part) (x y : List ℕ) → IsListed p.place → IsListed q.place → p.offset ≡ q.offset → after_gap p x ≡ after_gap q y → (p ≡ q) × (x ≡ y)
after_one p q x y ok_p ok_q offset e =
    let place = place_one p.place q.place _ _ ok_p ok_q e in
    let length = uleb_one p.length q.length x y (tails_one 147 147 _ _ place.1) in
    (same_part p q offset length.0 place.0, length.1)

no_gap_after : (p : Part) (x y : List ℕ) → IsListed p.place → after_gap p x ≡ 147 ∷ y → ⊥
no_gap_after p x y ok e = no_gap p.place _ y ok e

-- a piece can be told from what follows it
pub piece_one : (from : ℕ) (p q : Part) (x y : List ℕ) → IsPiece from p → IsPiece from q → piece from p ++ x ≡ piece from q ++ y → (p ≡ q) × (x ≡ y)
piece_one from p q x y ok_p ok_q e =
    elim (cases_lt from p.offset) [
      | inl gap_p ↦
          elim (cases_lt from q.offset) [
            | inl gap_q ↦
                let found = uleb_one (p.offset - from) (q.offset - from) _ _
                (tails_one 147 147 _ _ (sym (piece-gap from p x gap_p) ∙ e ∙ piece-gap from q y gap_q)) in
                after_one p q x y ok_p.4 ok_q.4 (omega (arith, found.0)) found.1
            | inr no_q ↦ absurd (no_gap_after q y _ ok_q.4 (sym (piece-no_gap from q y no_q) ∙ sym e ∙ piece-gap from p x gap_p))
          ]
      | inr no_p ↦
          elim (cases_lt from q.offset) [
            | inl gap_q ↦ absurd (no_gap_after p x _ ok_p.4 (sym (piece-no_gap from p x no_p) ∙ e ∙ piece-gap from q y gap_q))
            | inr no_q ↦
                after_one p q x y ok_p.4 ok_q.4 (omega (arith, ok_p.0, ok_q.0)) (sym (piece-no_gap from p x no_p) ∙ e ∙ piece-no_gap from q y no_q)
          ]
    ]

pub some_end : (xs ys : List ℕ) (m : ℕ) → xs ++ (m ∷ ys) ≡ [] → ⊥
some_end [] ys m e = cc
some_end (x ∷ xs) ys m e = cc

pub some_piece : (from : ℕ) (p : Part) (x : List ℕ) → piece from p ++ x ≡ [] → ⊥
some_piece from p x e =
    elim (cases_lt from p.offset) [
      | inl gapped ↦ some_end [] _ 147 (sym (piece-gap from p x gapped) ∙ e)
      | inr first ↦ some_end (simple_location p.place) _ 147 (sym (piece-no_gap from p x first) ∙ e)
    ]

-- pieces can be told from their composite location
pub pieces_one : (from : ℕ) (a b : List Part) → ArePieces from a → ArePieces from b → composite_location from a ≡ composite_location from b → a ≡ b
pieces_one from [] [] ok_a ok_b e = refl
pieces_one from [] (q ∷ b) ok_a ok_b e = absurd (some_piece from q _ (sym e))
pieces_one from (p ∷ a) [] ok_a ok_b e = absurd (some_piece from p _ e)
pieces_one from (p ∷ a) (q ∷ b) ok_a ok_b e =
    let found = piece_one from p q _ _ ok_a.0 ok_b.0 e in
    let same = found.0 in
    let others : composite_location (p.offset + p.length) a ≡ composite_location (p.offset + p.length) b =
    found.1 ∙ ap (λ (r : Part). composite_location (r.offset + r.length) b) (sym same) in
    let rest = pieces_one (p.offset + p.length) a b ok_a.1 (subst (λ (r : Part). ArePieces (r.offset + r.length) b) (sym same) ok_b.1) others in
    cc

-- a simple location is no composite one
not_both : (p : Place) (q : Part) (b : List Part) → IsListed p → ArePieces 0 (q ∷ b) → simple_location p ≡ composite_location 0 (q ∷ b) → ⊥
not_both p q b ok_p ok_q e =
    elim (cases_lt 0 q.offset) [
      | inl gapped ↦ no_gap p [] _ ok_p (append-nil (simple_location p) ∙ e ∙ piece-gap 0 q _ gapped)
      | inr first ↦ some_end [] _ 147 (sym (place_one p q.place [] _ ok_p ok_q.0.4 (append-nil (simple_location p) ∙ e ∙ piece-no_gap 0 q _ first)).1)
    ]

-- a location can be told from its expression
pub expression_one : (a b : Location) → IsLocated a → IsLocated b → expression a ≡ expression b → a ≡ b
expression_one (Whole p) (Whole q) ok_a ok_b e =
    ap Whole (place_one p q [] [] ok_a ok_b (ap (λ (xs : List ℕ). xs ++ []) e)).0
expression_one (Whole p) (Parts []) ok_a ok_b e = absurd ok_b
expression_one (Whole p) (Parts (q ∷ b)) ok_a ok_b e = absurd (not_both p q b ok_a ok_b e)
expression_one (Parts []) b ok_a ok_b e = absurd ok_a
expression_one (Parts (p ∷ a)) (Whole q) ok_a ok_b e = absurd (not_both q p a ok_b ok_a (sym e))
expression_one (Parts (p ∷ a)) (Parts []) ok_a ok_b e = absurd ok_b
expression_one (Parts (p ∷ a)) (Parts (q ∷ b)) ok_a ok_b e = ap Parts (pieces_one 0 (p ∷ a) (q ∷ b) ok_a ok_b e)
