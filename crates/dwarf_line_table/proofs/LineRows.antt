-- The row of an address among the rows of a function.
-- Plan: entries stand one after the other, and a row stands where the place changes; so the last row not above an address of an entry is of
-- the entry's place. By going over the entries: behind a row the rows are those behind its place.
use Rattle.std.proofs.Common.{◌≡◌, ◌⊎◌, ℕ, ◌+◌, ◌<◌, ◌≤◌, Bool, true, false, cond, List, [], ◌∷◌, ◌++◌, All, Option, Some, None}
use Rattle.std.proofs.Common.{refl, sym, subst, ap, ◌∙◌, inl, inr, arith, Contains}
use Rattle.std.proofs.lemmas.Bool.{and_parts, eqb-true, cases_lt}
use Rattle.std.proofs.lemmas.List.Elements.{All-nil, All-cons, All-head, All-tail, All-weaker}
use Rattle.dwarf_line.specs.declared.table.Row.{Row}
use Rattle.read_metadata.specs.Maps.{Maps}
use Rattle.mir_func.specs.declared.block.Block.{Block}
use Rattle.emit_code.specs.declared.code.EncodedInstruction.{EncodedInstruction}
use Rattle.emit_code.specs.Laid.{StandFrom}
use Rattle.dwarf_line_table.specs.declared.file.SourceFile.{SourceFile}
use Rattle.dwarf_line_table.specs.Table.{row_of_line, entry_line, is_place, is_place_before, changes, rows_in}
use Rattle.dwarf_line_table.specs.Rows.{IsLastAt}
use Rattle.dwarf_line_table.proofs.Members.{no_member, head_member, later_member, member_cases}

-- ---- places

-- two rows are of one place
pub record SamePlace (r s : Row) : Type 0 where
  pub file : r.file ≡ s.file
  pub line : r.line ≡ s.line
  pub column : r.column ≡ s.column

pub place_same : (r s : Row) → is_place r s ≡ true → SamePlace r s
place_same r s e =
    let first = and_parts _ _ e in
    let second = and_parts _ _ first.1 in
    record { file = eqb-true r.file s.file first.0; line = eqb-true r.line s.line second.0; column = eqb-true r.column s.column second.1 }

one_place : (r : Row) → SamePlace r r
one_place r = record { file = refl; line = refl; column = refl }

-- ---- the last row

-- the last row that isn't above an address, from the front
abbrev pub LastIn : List Row → ℕ → Row → Type 0
LastIn [] a r = ⊥
LastIn (q ∷ rows) a r = ((q ≡ r) × (q.address ≤ a) × All (λ x. a < x.address) rows) ⊎ LastIn rows a r

pub last_from : (before after : List Row) (a : ℕ) (r : Row) → r.address ≤ a → All (λ x. a < x.address) after → LastIn (before ++ r ∷ after) a r
last_from [] after a r reached passed = inl (refl, reached, passed)
last_from (q ∷ before) after a r reached passed = inr (last_from before after a r reached passed)

pub last_in : (rows : List Row) (a : ℕ) (r : Row) → IsLastAt rows a r → LastIn rows a r
last_in rows a r is = subst (λ (rs : List Row). LastIn rs a r) (sym is.stands) (last_from is.before is.after a r is.reached is.passed)

pub last_at : (rows : List Row) (a : ℕ) (r : Row) → LastIn rows a r → IsLastAt rows a r
last_at [] a r is = absurd is
last_at (q ∷ rows) a r (inl (same, reached, passed)) = record {
  before = [];
  after = rows;
  stands = ap (λ (x : Row). x ∷ rows) same;
  reached = subst (λ (x : Row). x.address ≤ a) same reached;
  passed = passed;
}
last_at (q ∷ rows) a r (inr later) =
    let is = last_at rows a r later in
    record { before = q ∷ is.before; after = is.after; stands = ap (λ (rs : List Row). q ∷ rs) is.stands; reached = is.reached; passed = is.passed }

-- all rows are above it: none is the last
none_above : (rows : List Row) (a : ℕ) (r : Row) → All (λ x. a < x.address) rows → LastIn rows a r → ⊥
none_above [] a r above is = is
none_above (q ∷ rows) a r above (inl (same, reached, passed)) =
    let high = All-head (λ (x : Row). a < x.address) q rows above in omega (arith, high, reached)
none_above (q ∷ rows) a r above (inr later) = none_above rows a r (All-tail (λ (x : Row). a < x.address) q rows above) later

-- there is one at most
pub one_last : (rows : List Row) (a : ℕ) (r s : Row) → LastIn rows a r → LastIn rows a s → r ≡ s
one_last [] a r s is other = absurd is
one_last (q ∷ rows) a r s (inl (same, reached, passed)) (inl (also, arrived, behind)) = sym same ∙ also
one_last (q ∷ rows) a r s (inl (same, reached, passed)) (inr later) = absurd (none_above rows a s passed later)
one_last (q ∷ rows) a r s (inr later) (inl (also, arrived, behind)) = absurd (none_above rows a r behind later)
one_last (q ∷ rows) a r s (inr later) (inr after) = one_last rows a r s later after

-- it is one of the rows
pub last_reached : (P : Row → Type 0) (rows : List Row) (a : ℕ) (r : Row) → All P rows → LastIn rows a r → P r × (r.address ≤ a)
last_reached P [] a r all is = absurd is
last_reached P (q ∷ rows) a r all (inl (same, reached, passed)) =
    (subst P same (All-head P q rows all), subst (λ (x : Row). x.address ≤ a) same reached)
last_reached P (q ∷ rows) a r all (inr later) = last_reached P rows a r (All-tail P q rows all) later

-- ---- entries

pub stands_up : (a : ℕ) (es : List EncodedInstruction) (end : ℕ) → StandFrom a es end → a ≤ end
stands_up a [] end at = let same : a ≡ end = at in omega (arith, same)
stands_up a (x ∷ es) end (here, sized, rest) = let low = stands_up (a + x.size) es end rest in omega (arith, low)

pub entry_from : (a : ℕ) (es : List EncodedInstruction) (end : ℕ) → StandFrom a es end → (e : EncodedInstruction) → Contains es e →
    (a ≤ e.address) × (e.address + e.size ≤ end)
entry_from a [] end at e is = absurd (no_member e is)
entry_from a (x ∷ es) end (here, sized, rest) e is =
    let later = stands_up (a + x.size) es end rest in
    elim (member_cases x e es is) [
      | inl same ↦ subst (λ (z : EncodedInstruction). (a ≤ z.address) × (z.address + z.size ≤ end)) same (omega (arith, here), omega (arith, here, later))
      | inr more ↦ (let r = entry_from (a + x.size) es end rest e more in let low = r.0 in (omega (arith, low), r.1))
    ]

-- each address between is one of an entry
pub entry_at : (a : ℕ) (es : List EncodedInstruction) (end : ℕ) → StandFrom a es end → (x : ℕ) → a ≤ x → x < end →
    (e : EncodedInstruction) × Contains es e × (e.address ≤ x) × (x < e.address + e.size)
entry_at a [] end at x low high = let same : a ≡ end = at in absurd (omega (arith, same, low, high))
entry_at a (e ∷ es) end (here, sized, rest) x low high =
    by (cases_lt x (a + e.size)) (λ beyond. entry_at (a + e.size) es end rest x beyond high) where
      by : (x < a + e.size) ⊎ (a + e.size ≤ x) → (a + e.size ≤ x → (y : EncodedInstruction) × Contains es y × (y.address ≤ x) × (x < y.address + y.size)) →
          (y : EncodedInstruction) × Contains (e ∷ es) y × (y.address ≤ x) × (x < y.address + y.size)
      by (inl inside) later = (e, head_member e es, omega (arith, here, low), omega (arith, here, inside))
      by (inr beyond) later =
          let r = later beyond in (r.0, later_member e r.0 es r.1, r.2, r.3)

module _ (files : List SourceFile) (meta : Maps) (unit : SourceFile) (blocks : List Block) where
  -- the row of an entry
  abbrev pub row : EncodedInstruction → Row
  row e = row_of_line files e.address (entry_line meta unit blocks e)

  abbrev pub rows : List EncodedInstruction → List Row
  rows es = rows_in files meta unit blocks es

  -- no row is below the first entry
  pub rows_from : (a : ℕ) (es : List EncodedInstruction) (end : ℕ) → StandFrom a es end → (before : Option Row) →
      All (λ r. a ≤ r.address) (changes before (rows es))
  rows_from a [] end at before = All-nil (λ (r : Row). a ≤ r.address)
  rows_from a (e ∷ es) end (here, sized, rest) before =
      by (λ b. All-weaker (λ (r : Row). a + e.size ≤ r.address) (λ (r : Row). a ≤ r.address) (λ r low. omega (arith, low)) (changes b (rows es))
      (rows_from (a + e.size) es end rest b)) (is_place_before before (row e)) where
        by : ((b : Option Row) → All (λ r. a ≤ r.address) (changes b (rows es))) →
            (b : Bool) → All (λ r. a ≤ r.address) (cond b (changes before (rows es)) (row e ∷ changes (Some (row e)) (rows es)))
        by above true = above before
        by above false = All-cons (λ (r : Row). a ≤ r.address) (row e) (changes (Some (row e)) (rows es)) (omega (arith, here)) (above (Some (row e)))

  -- the last row is of a place: a row that stands before all, or one of them
  abbrev Stands : Option Row → List Row → ℕ → Row → Type 0
  Stands before rs a place =
      ((b : Row) × (before ≡ Some b) × SamePlace b place × All (λ x. a < x.address) rs) ⊎ ((r : Row) × LastIn rs a r × SamePlace r place)

  same_before : (before : Option Row) (r : Row) → is_place_before before r ≡ true → (b : Row) × (before ≡ Some b) × SamePlace b r
  same_before None r e = absurd cc
  same_before (Some b) r e = (b, refl, place_same b r e)

  stands : (a : ℕ) (es : List EncodedInstruction) (end : ℕ) → StandFrom a es end → (before : Option Row) (e : EncodedInstruction) → Contains es e →
      (x : ℕ) → e.address ≤ x → x < e.address + e.size → Stands before (changes before (rows es)) x (row e)
  stands a [] end at before e is x low high = absurd (no_member e is)
  stands a (f ∷ es) end (here, sized, rest) before e is x low high = elim (member_cases f e es is) [
    | inl same ↦ subst (λ (z : EncodedInstruction). Stands before (changes before (rows (f ∷ es))) x (row z)) same
        (first (subst (λ (z : EncodedInstruction). z.address ≤ x) (sym same) low) (subst (λ (z : EncodedInstruction). x < z.address + z.size) (sym same) high)
        (is_place_before before (row f)) refl)
    | inr later ↦ (let from = entry_from (a + f.size) es end rest e later in let beyond = from.0 in
        further (λ b. stands (a + f.size) es end rest b e later x low high) (omega (arith, here, beyond, low)) (is_place_before before (row f)))
  ]
    where
      above : x < f.address + f.size → (b : Option Row) → All (λ r. x < r.address) (changes b (rows es))
      above inside b = All-weaker (λ (r : Row). a + f.size ≤ r.address) (λ (r : Row). x < r.address) (λ r beyond. omega (arith, here, beyond, inside))
          (changes b (rows es)) (rows_from (a + f.size) es end rest b)

      first : f.address ≤ x → x < f.address + f.size → (b : Bool) → is_place_before before (row f) ≡ b →
          Stands before (cond b (changes before (rows es)) (row f ∷ changes (Some (row f)) (rows es))) x (row f)
      first reached inside true e = let b = same_before before (row f) e in inl (b.0, b.1, b.2, above inside before)
      first reached inside false e = inr (row f, inl (refl, reached, above inside (Some (row f))), one_place (row f))

      behind : f.address ≤ x → Stands (Some (row f)) (changes (Some (row f)) (rows es)) x (row e) →
          Stands before (row f ∷ changes (Some (row f)) (rows es)) x (row e)
      behind reached (inl (b, is, place, high)) =
          let same : row f ≡ b = cc in inr (row f, inl (refl, reached, high), subst (λ (r : Row). SamePlace r (row e)) (sym same) place)
      behind reached (inr (r, last, place)) = inr (r, inr last, place)

      further : ((b : Option Row) → Stands b (changes b (rows es)) x (row e)) → f.address ≤ x → (b : Bool) →
          Stands before (cond b (changes before (rows es)) (row f ∷ changes (Some (row f)) (rows es))) x (row e)
      further later reached true = later before
      further later reached false = behind reached (later (Some (row f)))

  -- a row of an entry's place is the last one at an address of the entry
  pub row_of_entry : (a : ℕ) (es : List EncodedInstruction) (end : ℕ) → StandFrom a es end → (e : EncodedInstruction) → Contains es e →
      (x : ℕ) → e.address ≤ x → x < e.address + e.size → (r : Row) × LastIn (changes None (rows es)) x r × SamePlace r (row e)
  row_of_entry a es end at e is x low high = by (stands a es end at None e is x low high) where
    by : Stands None (changes None (rows es)) x (row e) → (r : Row) × LastIn (changes None (rows es)) x r × SamePlace r (row e)
    by (inl (b, is, place, above)) = absurd cc
    by (inr found) = found
