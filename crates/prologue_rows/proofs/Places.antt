-- What the rows of a function say of addresses.
-- Plan: a row that isn't kept has the place of the last one that is, and addresses don't fall; so the last row not above an address has one place among all
-- rows and among those that are kept.
use Rattle.std.proofs.Common.{◌≡◌, ◌⊎◌, ℕ, suc, ◌+◌, ◌&&◌, ◌<◌, ◌≤◌, Bool, true, false, cond, List, [], ◌∷◌, ◌++◌, map, take, drop, All, Option, Some, None}
use Rattle.std.proofs.Common.{refl, sym, subst, ap, ◌∙◌, inl, inr, arith, true≢false}
use Rattle.std.proofs.lemmas.Bool.{eq-eqb}
use Rattle.std.specs.List.{prefix_len}
use Rattle.std.proofs.lemmas.List.Elements.{All-nil, All-cons, All-head, All-tail, All-weaker}
use Rattle.emit_code.specs.Laid.{StandFrom}
use Rattle.dwarf_line.specs.declared.table.Row.{Row}
use Rattle.dwarf_line.specs.Table.{Ascend}
use Rattle.read_metadata.specs.Maps.{Maps}
use Rattle.dwarf_line_table.specs.declared.file.SourceFile.{SourceFile}
use Rattle.dwarf_line_table.specs.declared.scope_line.ScopeLine.{ScopeLine}
use Rattle.dwarf_line_table.specs.Program.{function_end}
use Rattle.dwarf_line_table.specs.Rows.{IsLastAt}
use Rattle.dwarf_line_table.specs.Table.{is_place_before, changes}
use Rattle.dwarf_line_table.proofs.LineRows.{SamePlace, place_same, LastIn, last_in, last_at, one_last, last_reached}
use Rattle.prologue_rows.specs.declared.function.LinedFunction.{LinedFunction}
use Rattle.prologue_rows.specs.declared.words.SourceWord.{SourceWord}
use Rattle.prologue_rows.specs.Words.{at_line, words_of}
use Rattle.prologue_rows.specs.Lines.{is_head, with_line, body_of, body_lines}
use Rattle.prologue_rows.specs.Rows.{row_of}
use Rattle.prologue_rows.specs.Table.{own_line, lines_of, rows_of}
use Rattle.prologue_rows.specs.Laws.{GivePlace, BeginsAt}
use Rattle.prologue_rows.proofs.Ascends.{body_ascends}

-- ---- rows that are kept

changes_all : (P : Row → Type 0) (before : Option Row) (rows : List Row) → All P rows → All P (changes before rows)
changes_all P before [] all = All-nil P
changes_all P before (r ∷ rows) all =
    by (is_place_before before r) (changes_all P before rows (All-tail P r rows all)) (changes_all P (Some r) rows (All-tail P r rows all))
  where
    by : (b : Bool) → All P (changes before rows) → All P (changes (Some r) rows) → All P (cond b (changes before rows) (r ∷ changes (Some r) rows))
    by true same new = same
    by false same new = All-cons P r (changes (Some r) rows) (All-head P r rows all) new

ascend_all : (from : ℕ) (rows : List Row) (end : ℕ) → Ascend from rows end → All (λ r. from ≤ r.address) rows
ascend_all from [] end ascend = All-nil (λ (r : Row). from ≤ r.address)
ascend_all from (r ∷ rows) end ascend =
    All-cons (λ (x : Row). from ≤ x.address) r rows ascend.0
    (All-weaker (λ (x : Row). r.address ≤ x.address) (λ (x : Row). from ≤ x.address) (λ x low. omega (arith, low, ascend.0)) rows
    (ascend_all r.address rows end ascend.1))

same_row : (r s : Row) → r ≡ s → SamePlace r s
same_row r s e = subst (λ (x : Row). SamePlace r x) e (record { file = refl; line = refl; column = refl })

-- the last row is of a place: a row that stands before all, or one of them
abbrev Stands : Option Row → List Row → ℕ → Row → Type 0
Stands before rs a place =
    ((b : Row) × (before ≡ Some b) × SamePlace b place × All (λ x. a < x.address) rs) ⊎ ((r : Row) × LastIn rs a r × SamePlace r place)

same_before : (before : Option Row) (r : Row) → is_place_before before r ≡ true → (b : Row) × (before ≡ Some b) × SamePlace b r
same_before None r e = absurd cc
same_before (Some b) r e = (b, refl, place_same b r e)

kept : (before : Option Row) (from : ℕ) (rows : List Row) (end : ℕ) → Ascend from rows end → (a : ℕ) (q : Row) → LastIn rows a q →
    Stands before (changes before rows) a q
kept before from [] end ascend a q last = absurd last
kept before from (r ∷ rows) end ascend a q (inl (same, reached, passed)) = here (is_place_before before r) refl
  where
    above : (b : Option Row) → All (λ x. a < x.address) (changes b rows)
    above b = changes_all (λ (x : Row). a < x.address) b rows passed

    here : (b : Bool) → is_place_before before r ≡ b → Stands before (cond b (changes before rows) (r ∷ changes (Some r) rows)) a q
    here true e = let b = same_before before r e in inl (b.0, b.1, subst (λ (x : Row). SamePlace b.0 x) same b.2, above before)
    here false e = inr (r, inl (refl, reached, above (Some r)), same_row r q same)
kept before from (r ∷ rows) end ascend a q (inr later) =
    by (is_place_before before r) (kept before r.address rows end ascend.1 a q later) (kept (Some r) r.address rows end ascend.1 a q later)
  where
    reached : r.address ≤ a
    reached =
        let at = last_reached (λ (x : Row). r.address ≤ x.address) rows a q (ascend_all r.address rows end ascend.1) later in
        let low = at.0 in let high = at.1 in omega (arith, low, high)

    behind : Stands (Some r) (changes (Some r) rows) a q → Stands before (r ∷ changes (Some r) rows) a q
    behind (inl (b, is, place, high)) =
        let same : r ≡ b = cc in inr (r, inl (refl, reached, high), subst (λ (x : Row). SamePlace x q) (sym same) place)
    behind (inr (s, last, place)) = inr (s, inr last, place)

    by : (b : Bool) → Stands before (changes before rows) a q → Stands (Some r) (changes (Some r) rows) a q
        → Stands before (cond b (changes before rows) (r ∷ changes (Some r) rows)) a q
    by true same new = same
    by false same new = behind new

kept_of_body : (from : ℕ) (rows : List Row) (end : ℕ) → Ascend from rows end → (a : ℕ) (q : Row) → LastIn rows a q →
    (r : Row) × LastIn (changes None rows) a r × SamePlace r q
kept_of_body from rows end ascend a q last = by (kept None from rows end ascend a q last)
  where
    by : Stands None (changes None rows) a q → (r : Row) × LastIn (changes None rows) a r × SamePlace r q
    by (inl (b, is, place, above)) = absurd cc
    by (inr found) = found

kept_of_all : (first : Row) (from : ℕ) (rows : List Row) (end : ℕ) → Ascend from rows end → (a : ℕ) (q : Row) → LastIn (first ∷ rows) a q →
    (r : Row) × LastIn (first ∷ changes None rows) a r × SamePlace r q
kept_of_all first from rows end ascend a q (inl (same, reached, passed)) =
    (first, inl (refl, reached, changes_all (λ (x : Row). a < x.address) None rows passed), same_row first q same)
kept_of_all first from rows end ascend a q (inr later) =
    let found = kept_of_body from rows end ascend a q later in (found.0, inr found.1, found.2)

pub rows_give_places : (files : List SourceFile) (meta : Maps) (unit : SourceFile) (f : LinedFunction) →
    StandFrom f.function.code.now.base f.function.code.now.entries (function_end f.function) →
    (a : ℕ) (row : Row) → IsLastAt (map (row_of files meta unit) (lines_of meta f)) a row → GivePlace (rows_of files meta unit f) a row
rows_give_places files meta unit f stand a row last =
    let base : ℕ = f.function.code.now.base in
    let body : List SourceWord = body_lines (own_line meta f) (body_of (words_of meta f.function)) in
    let own : Row = row_of files meta unit (at_line base 0 (own_line meta f)) in
    let rows : List Row = map (row_of files meta unit) body in
    let found = kept_of_all own base rows (function_end f.function)
    (body_ascends files meta unit f.function.source.now.blocks (own_line meta f) base f.function.code.now.entries (function_end f.function) stand) a row
    (last_in (own ∷ rows) a row last) in
    record {
      row = found.0;
      at = last_at (own ∷ changes None rows) a found.0 found.1;
      each = λ r is.
          let same = one_last (own ∷ changes None rows) a found.0 r found.1 (last_in (own ∷ changes None rows) a r is) in
          let place = subst (λ (x : Row). SamePlace x row) same found.2 in
          record { file = place.file; line = place.line; column = place.column };
    }

-- ---- the first two rows

-- the first word behind the prologue, where it begins the head and where it doesn't
first_line : (own : ScopeLine) (w : SourceWord) (ws : List SourceWord) → (line : ScopeLine) × (rest : List SourceWord)
    × (body_lines own (w ∷ ws) ≡ with_line line w ∷ rest) × (line.line ≡ 0 → own.line ≡ 0)
first_line own w ws = by (is_head w.block w) refl
  where
    by : (b : Bool) → is_head w.block w ≡ b → (line : ScopeLine) × (rest : List SourceWord)
        × (map (with_line own) (take (cond b (1 + prefix_len (is_head w.block) ws) 0) (w ∷ ws)) ++ drop (cond b (1 + prefix_len (is_head w.block) ws) 0) (w ∷ ws)
        ≡ with_line line w ∷ rest)
        × (line.line ≡ 0 → own.line ≡ 0)
    by true e =
        let k : ℕ = prefix_len (is_head w.block) ws in
        let next : 1 + k ≡ suc k = omega arith in (
          own,
          map (with_line own) (take k ws) ++ drop k ws,
          ap (λ n. map (with_line own) (take n (w ∷ ws)) ++ drop n (w ∷ ws)) next,
          λ none. none,
        )
    by false e = (
      record { line = w.line; column = w.column; scope = w.scope },
      ws,
      refl,
      λ none. absurd (true≢false (sym (λ i. eq-eqb w.block w.block refl i && eq-eqb w.line 0 none i) ∙ e)),
    )

pub rows_begin : (files : List SourceFile) (meta : Maps) (unit : SourceFile) (f : LinedFunction) (behind : SourceWord) (more : List SourceWord) →
    body_of (words_of meta f.function) ≡ behind ∷ more → BeginsAt (rows_of files meta unit f) f.function.code.now.base f.line behind
rows_begin files meta unit f behind more is =
    let own = own_line meta f in
    let base : ℕ = f.function.code.now.base in
    let row : SourceWord → Row = row_of files meta unit in
    let start = first_line own behind more in
    record {
      first = row (at_line base 0 own);
      second = row (with_line start.0 behind);
      rest = changes (Some (row (with_line start.0 behind))) (map row start.1);
      stand = ap (λ ws. row (at_line base 0 own) ∷ changes None (map row ws)) (ap (body_lines own) is ∙ start.2);
      base = refl;
      line = refl;
      column = refl;
      behind = refl;
      lined = start.3;
    }
