-- The rows of an address in the sequences of functions that lie one after the other.
use Rattle.std.proofs.Common.{◌≡◌, ◌⊎◌, ℕ, ◌+◌, ◌<◌, ◌≤◌, List, [], ◌∷◌, All, None, sym, subst, ap, inl, inr, arith, Contains}
use Rattle.std.specs.List.{flat_map}
use Rattle.std.proofs.lemmas.List.Elements.{All-weaker, Contains-append_cases}
use Rattle.dwarf_line.specs.declared.table.Row.{Row}
use Rattle.dwarf_line.specs.declared.table.Sequence.{Sequence}
use Rattle.read_metadata.specs.Maps.{Maps}
use Rattle.emit_code.specs.declared.code.EncodedInstruction.{EncodedInstruction}
use Rattle.emit_code.specs.Laid.{StandFrom}
use Rattle.dwarf_line_table.specs.declared.source_and_code.SourceAndCode.{SourceAndCode}
use Rattle.dwarf_line_table.specs.declared.file.SourceFile.{SourceFile}
use Rattle.dwarf_line_table.specs.Program.{rows_of, function_end, sequence_if, sequences_of}
use Rattle.dwarf_line_table.specs.Laws.{LieFrom}
use Rattle.dwarf_line_table.proofs.Members.{no_member, head_member, later_member, member_cases, flat_member}
use Rattle.dwarf_line_table.proofs.LineRows.{SamePlace, LastIn, one_last, last_reached, stands_up, entry_from, entry_at, row, rows_from, row_of_entry}

-- ---- functions

pub stands_of : (b : ℕ) (fs : List SourceAndCode) → LieFrom b fs → (f : SourceAndCode) → Contains fs f →
    StandFrom f.code.now.base f.code.now.entries (function_end f)
stands_of b [] lie f is = absurd (no_member f is)
stands_of b (g ∷ fs) (from, stand, lie) f is = elim (member_cases g f fs is) [
  | inl same ↦ subst (λ (x : SourceAndCode). StandFrom x.code.now.base x.code.now.entries (function_end x)) same
      (subst (λ (a : ℕ). StandFrom a g.code.now.entries (function_end g)) (sym from) stand)
  | inr later ↦ stands_of (function_end g) fs lie f later
]

-- all code is above where the functions begin
pub code_above : (b : ℕ) (fs : List SourceAndCode) → LieFrom b fs → (f : SourceAndCode) → Contains fs f → (e : EncodedInstruction) →
    Contains f.code.now.entries e →
    b ≤ e.address
code_above b [] lie f is e has = absurd (no_member f is)
code_above b (g ∷ fs) (from, stand, lie) f is e has = elim (member_cases g f fs is) [
  | inl same ↦ (entry_from b g.code.now.entries (function_end g) stand e (subst (λ (x : SourceAndCode). Contains x.code.now.entries e) (sym same) has)).0
  | inr later ↦ (let rest = code_above (function_end g) fs lie f later e has in
      let up = stands_up b g.code.now.entries (function_end g) stand in omega (arith, rest, up))
]

-- ---- sequences

sequence_is : (rows : List Row) (end : ℕ) (s : Sequence) → Contains (sequence_if rows end) s → (s.rows ≡ rows) × (s.end ≡ end)
sequence_is [] end s is = absurd (no_member s is)
sequence_is (r ∷ rows) end s is = elim (member_cases (record { rows = r ∷ rows; end = end }) s [] is) [
  | inl same ↦ (sym (ap (λ (x : Sequence). x.rows) same), sym (ap (λ (x : Sequence). x.end) same))
  | inr none ↦ absurd (no_member s none)
]

has_sequence : (rows : List Row) (end a : ℕ) (r : Row) → LastIn rows a r → Contains (sequence_if rows end) (record { rows = rows; end = end })
has_sequence [] end a r last = absurd last
has_sequence (q ∷ rows) end a r last = head_member (record { rows = q ∷ rows; end = end }) []

module _ (files : List SourceFile) (meta : Maps) (unit : SourceFile) where
  -- the sequences of functions
  abbrev pub all : List SourceAndCode → List Sequence
  all fs = flat_map (sequences_of files meta unit) fs

  -- the row of an entry of a function
  abbrev pub entry_row : SourceAndCode → EncodedInstruction → Row
  entry_row f e = row files meta unit f.source.now.blocks e

  function_row : (f : SourceAndCode) (e : EncodedInstruction) (a : ℕ) → StandFrom f.code.now.base f.code.now.entries (function_end f) →
      Contains f.code.now.entries e →
      e.address ≤ a → a < e.address + e.size → (r : Row) × LastIn (rows_of files meta unit f) a r × SamePlace r (entry_row f e)
  function_row f e a stand has low high =
      row_of_entry files meta unit f.source.now.blocks f.code.now.base f.code.now.entries (function_end f) stand e has a low high

  -- no row is below where the functions begin
  sequences_above : (b : ℕ) (fs : List SourceAndCode) → LieFrom b fs → (s : Sequence) → Contains (all fs) s → All (λ r. b ≤ r.address) s.rows
  sequences_above b [] lie s is = absurd (no_member s is)
  sequences_above b (g ∷ fs) (from, stand, lie) s is = elim (Contains-append_cases (sequences_of files meta unit g) (all fs) s is) [
    | inl here ↦ (let e = sequence_is (rows_of files meta unit g) (function_end g) s here in
        subst (λ (rs : List Row). All (λ r. b ≤ r.address) rs) (sym e.0)
        (rows_from files meta unit g.source.now.blocks b g.code.now.entries (function_end g) stand None))
    | inr later ↦ (let up = stands_up b g.code.now.entries (function_end g) stand in
        All-weaker (λ (r : Row). function_end g ≤ r.address) (λ (r : Row). b ≤ r.address) (λ r low. omega (arith, low, up)) s.rows
        (sequences_above (function_end g) fs lie s later))
  ]

  -- an address of code has a row
  pub some_row : (b : ℕ) (fs : List SourceAndCode) → LieFrom b fs → (f : SourceAndCode) → Contains fs f → (e : EncodedInstruction) →
      Contains f.code.now.entries e →
      (a : ℕ) → e.address ≤ a → a < e.address + e.size → (s : Sequence) × Contains (all fs) s × (r : Row) × LastIn s.rows a r × (a < s.end)
  some_row b fs lie f is e has a low high =
      let stand = stands_of b fs lie f is in
      let found = function_row f e a stand has low high in
      let within = (entry_from f.code.now.base f.code.now.entries (function_end f) stand e has).1 in (
        record { rows = rows_of files meta unit f; end = function_end f },
        flat_member (sequences_of files meta unit) fs f (record { rows = rows_of files meta unit f; end = function_end f }) is
            (has_sequence (rows_of files meta unit f) (function_end f) a found.0 found.1),
        found.0,
        found.1,
        omega (arith, high, within),
      )

  -- each row that is of the address is of the place of its code
  pub each_row : (b : ℕ) (fs : List SourceAndCode) → LieFrom b fs → (f : SourceAndCode) → Contains fs f → (e : EncodedInstruction) →
      Contains f.code.now.entries e →
      (a : ℕ) → e.address ≤ a → a < e.address + e.size → (s : Sequence) → Contains (all fs) s → (r : Row) → LastIn s.rows a r → a < s.end →
      SamePlace r (entry_row f e)
  each_row b [] lie f is e has a low high s among r last inside = absurd (no_member f is)
  each_row b (g ∷ fs) (from, stand, lie) f is e has a low high s among r last inside =
      by (λ more later. each_row (function_end g) fs lie f more e has a low high s later r last inside) (member_cases g f fs is)
      (Contains-append_cases (sequences_of files meta unit g) (all fs) s among) where
        own : Contains g.code.now.entries e → Contains (sequences_of files meta unit g) s → SamePlace r (entry_row g e)
        own has here =
            let e_is = sequence_is (rows_of files meta unit g) (function_end g) s here in
            let found = function_row g e a (subst (λ (x : ℕ). StandFrom x g.code.now.entries (function_end g)) (sym from) stand) has low high in
            subst (λ (x : Row). SamePlace x (entry_row g e))
            (one_last (rows_of files meta unit g) a found.0 r found.1 (subst (λ (rs : List Row). LastIn rs a r) e_is.0 last)) found.2

        by : (Contains fs f → Contains (all fs) s → SamePlace r (entry_row f e)) → (g ≡ f) ⊎ Contains fs f →
            Contains (sequences_of files meta unit g) s ⊎ Contains (all fs) s → SamePlace r (entry_row f e)
        by rest (inl same) (inl here) = subst (λ (x : SourceAndCode). SamePlace r (entry_row x e)) same
            (own (subst (λ (x : SourceAndCode). Contains x.code.now.entries e) (sym same) has) here)
        by rest (inl same) (inr later) =
            let within = (entry_from b g.code.now.entries (function_end g) stand e
            (subst (λ (x : SourceAndCode). Contains x.code.now.entries e) (sym same) has)).1 in
            let above = last_reached (λ (x : Row). function_end g ≤ x.address) s.rows a r (sequences_above (function_end g) fs lie s later) last in
            let beyond = above.0 in let reached = above.1 in absurd (omega (arith, within, high, beyond, reached))
        by rest (inr more) (inl here) =
            let e_is = sequence_is (rows_of files meta unit g) (function_end g) s here in
            let end = e_is.1 in
            let above = code_above (function_end g) fs lie f more e has in
            absurd (omega (arith, above, low, inside, end))
        by rest (inr more) (inr later) = rest more later

  -- a row is of an address of code alone
  pub row_has_code : (b : ℕ) (fs : List SourceAndCode) → LieFrom b fs → (s : Sequence) → Contains (all fs) s → (a : ℕ) (r : Row) → LastIn s.rows a r →
      a < s.end →
      (f : SourceAndCode) × Contains fs f × (e : EncodedInstruction) × Contains f.code.now.entries e × (e.address ≤ a) × (a < e.address + e.size)
  row_has_code b [] lie s among a r last inside = absurd (no_member s among)
  row_has_code b (g ∷ fs) (from, stand, lie) s among a r last inside =
      by (λ later. row_has_code (function_end g) fs lie s later a r last inside) (Contains-append_cases (sequences_of files meta unit g) (all fs) s among) where
        by : (Contains (all fs) s → (f : SourceAndCode) × Contains fs f × (e : EncodedInstruction) × Contains f.code.now.entries e × (e.address ≤ a) ×
            (a < e.address + e.size)) →
            Contains (sequences_of files meta unit g) s ⊎ Contains (all fs) s →
            (f : SourceAndCode) × Contains (g ∷ fs) f × (e : EncodedInstruction) × Contains f.code.now.entries e × (e.address ≤ a) × (a < e.address + e.size)
        by more (inl here) =
            let e_is = sequence_is (rows_of files meta unit g) (function_end g) s here in
            let end = e_is.1 in
            let above = last_reached (λ (x : Row). b ≤ x.address) (rows_of files meta unit g) a r
            (rows_from files meta unit g.source.now.blocks b g.code.now.entries (function_end g) stand None)
            (subst (λ (rs : List Row). LastIn rs a r) e_is.0 last) in
            let beyond = above.0 in let reached = above.1 in
            let at = entry_at b g.code.now.entries (function_end g) stand a (omega (arith, beyond, reached)) (omega (arith, inside, end)) in
            (g, head_member g fs, at.0, at.1, at.2, at.3)
        by more (inr later) =
            let rest = more later in (rest.0, later_member g rest.0 fs rest.1, rest.2, rest.3, rest.4, rest.5)
