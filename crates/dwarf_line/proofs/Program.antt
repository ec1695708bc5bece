-- A sequence's rows are read where they are spelled, and a wrong field is none that is spelled.
use Rattle.std.specs.List.{AllByRecursion}
use Rattle.std.proofs.Common.{◌≡◌, ℕ, ◌^◌, ◌<◌, Bool, true, false, List, [], ◌∷◌, ◌++◌, Result, Ok, Err, ap, subst, sym, ◌∙◌, refl, append_assoc, lit<}
use Rattle.dwarf_line.specs.declared.table.Row.{Row}
use Rattle.dwarf_line.specs.declared.read.Group.{Group}
use Rattle.dwarf_line.specs.declared.read.Group.TheVariants.{Copied, Ended}
use Rattle.dwarf_line.specs.Table.{Ascend, IsRow}
use Rattle.std.specs.Int.{w64}
use Rattle.dwarf_line.specs.Spelling.{row, rows_to, set_address, registers_at}
use Rattle.dwarf_line.specs.Fields.{constants_at, number_at}
use Rattle.dwarf_line.specs.FirstFault.{group_at, Rows, LastRow, NextRow, RowsFault, InRow, InLaterRow, start_at}
use Rattle.dwarf_line.proofs.Groups.{bind_ok, ok_is, not_ok, constants_take, group_takes, row_again, end_again}
use Rattle.dwarf_line.proofs.Fixed.{IsBytes, IsBytes-behind, wide64, number_takes, number_again}

abbrev pub BeginsAt : ℕ → List Row → Type 0
BeginsAt address [] = ⊥
BeginsAt address (r ∷ rows) = r.address ≡ address

-- what rows that are read are
pub record AreRows (first : Bool) (before : Row) (bytes : List ℕ) (rows : List Row) (end : ℕ) (rest : List ℕ) : Type 0 where
  pub spelled : bytes ≡ rows_to before rows end ++ rest
  pub ascend : Ascend before.address rows end
  pub fits : AllByRecursion IsRow rows
  pub end_fits : end < 2 ^ 64
  pub begins : first ≡ true → BeginsAt before.address rows

pub rows_take : {first : Bool} {before : Row} {bytes : List ℕ} {rows : List Row} {end : ℕ} {rest : List ℕ} → IsRow before
    → Rows first before bytes rows end rest
    → AreRows first before bytes rows end rest
rows_take {first} {before} {bytes} {rows} {end} {rest} fits (LastRow e) =
    let is = group_takes first before bytes (Ended end) rest fits e in
    record { spelled = is.spelled; ascend = is.above; fits = tt; end_fits = is.fits; begins = λ begun. apart first is.later begun }
  where
    apart : (b : Bool) → b ≡ false → b ≡ true → ⊥
    apart true no_first begun = absurd cc
    apart false no_first begun = absurd cc
rows_take {first} {before} {bytes} {rows} {end} {rest} fits (NextRow {r = r} {after = after} {rows = others} e behind) =
    let is = group_takes first before bytes (Copied r) after fits e in
    let next = rows_take is.fits behind in
    record {
      spelled = is.spelled ∙ ap (λ x. row before r ++ x) next.spelled ∙ sym (append_assoc (row before r) (rows_to r others end) rest);
      ascend = (is.above, next.ascend);
      fits = (is.fits, next.fits);
      end_fits = next.end_fits;
      begins = is.begins;
    }

pub rows_again : (first : Bool) (before : Row) (rows : List Row) (end : ℕ) (rest : List ℕ) → AllByRecursion IsRow rows → end < 2 ^ 64
    → Ascend before.address rows end
    → (first ≡ true → BeginsAt before.address rows) → Rows first before (rows_to before rows end ++ rest) rows end rest
rows_again true before [] end rest fits end_fits ascend begins = absurd (begins refl)
rows_again false before [] end rest fits end_fits ascend begins = LastRow (end_again before end rest ascend end_fits)
rows_again first before (r ∷ rows) end rest fits end_fits ascend begins =
    NextRow (ap (group_at first before) (append_assoc (row before r) (rows_to r rows end) rest)
    ∙ row_again first before r (rows_to r rows end ++ rest) fits.0 ascend.0 begins)
    (rows_again false r rows end rest fits.1 end_fits ascend.1 (λ begun. absurd cc))

-- ---- a wrong field is none that is spelled

abbrev given : Group → List ℕ → Result (Group × List ℕ) ℕ
given g rest = Ok (g, rest)

one_group : (r : Result (Group × List ℕ) ℕ) (g h : Group) (x y : List ℕ) → r ≡ Ok (g, x) → r ≡ Ok (h, y) → (g ≡ h) × (x ≡ y)
one_group r g h x y e d =
    let same = ok_is (g, x) (h, y) (sym e ∙ d) in (ap (λ (p : Group × List ℕ). p.0) same, ap (λ (p : Group × List ℕ). p.1) same)

pub no_fault : {A : Type 0} (r : Result A ℕ) (left : ℕ) (x : A) → r ≡ Err left → r ≡ Ok x → ⊥
no_fault r left x e d = not_ok left x (sym e ∙ d)

row_is : (r s : Row) → Copied r ≡ Copied s → r ≡ s
row_is r s e = cc

not_both : (r : Row) (end : ℕ) → Copied r ≡ Ended end → ⊥
not_both r end e = cc

end_is : (a b : ℕ) → Ended a ≡ Ended b → a ≡ b
end_is a b e = cc

pub rows_apart : {first : Bool} {before : Row} {bytes : List ℕ} {left : ℕ} {rows : List Row} {end : ℕ} {rest : List ℕ} → RowsFault first before bytes left
    → Rows first before bytes rows end rest → ⊥
rows_apart {first} {before} {bytes} {left} (InRow e) (LastRow {end = end} {rest = rest} d) = no_fault (group_at first before bytes) left (Ended end, rest) e d
rows_apart {first} {before} {bytes} {left} (InRow e) (NextRow {r = r} {after = after} d behind) = no_fault (group_at first before bytes) left
    (Copied r, after) e d
rows_apart {first} {before} {bytes} (InLaterRow {r = r} {after = after} e fault) (LastRow {end = end} {rest = rest} d) =
    not_both r end (one_group (group_at first before bytes) (Copied r) (Ended end) after rest e d).0
rows_apart {first} {before} {bytes} {left} {rows} {end} {rest} (InLaterRow {r = r} {after = after} e fault)
    (NextRow {r = s} {after = behind} {rows = others} d reads) =
    let same = one_group (group_at first before bytes) (Copied r) (Copied s) after behind e d in
    rows_apart fault (subst (λ x. Rows false r x others end rest) (sym same.1)
    (subst (λ q. Rows false q behind others end rest) (sym (row_is r s same.0)) reads))

-- rows that are read are one list alone
pub record SameRows (ps qs : List Row) (a b : ℕ) (x y : List ℕ) : Type 0 where
  pub rows : ps ≡ qs
  pub ends : a ≡ b
  pub rest : x ≡ y

pub rows_one : {first : Bool} {before : Row} {bytes : List ℕ} {rows others : List Row} {a b : ℕ} {x y : List ℕ} → Rows first before bytes rows a x
    → Rows first before bytes others b y → SameRows rows others a b x y
rows_one {first} {before} {bytes} {rows} {others} {a} {b} {x} {y} (LastRow e) (LastRow d) =
    let same = one_group (group_at first before bytes) (Ended a) (Ended b) x y e d in
    record { rows = refl; ends = end_is a b same.0; rest = same.1 }
rows_one {first} {before} {bytes} {rows} {others} {a} {b} {x} {y} (LastRow e) (NextRow {r = s} {after = behind} d reads) =
    absurd (not_both s a (one_group (group_at first before bytes) (Copied s) (Ended a) behind x d e).0)
rows_one {first} {before} {bytes} {rows} {others} {a} {b} {x} {y} (NextRow {r = r} {after = after} e reads) (LastRow d) =
    absurd (not_both r b (one_group (group_at first before bytes) (Copied r) (Ended b) after y e d).0)
rows_one {first} {before} {bytes} {rows} {others} {a} {b} {x} {y} (NextRow {r = r} {after = after} {rows = ps} e reads)
    (NextRow {r = s} {after = behind} {rows = qs} d reads') =
    let same = one_group (group_at first before bytes) (Copied r) (Copied s) after behind e d in
    let equal = row_is r s same.0 in
    let next = rows_one reads (subst (λ z. Rows false r z qs b y) (sym same.1) (subst (λ q. Rows false q behind qs b y) (sym equal) reads')) in
    record { rows = ap (λ q. q ∷ ps) equal ∙ ap (λ qs. s ∷ qs) next.rows; ends = next.ends; rest = next.rest }

-- ---- where a sequence begins

pub start_takes : (bytes : List ℕ) (start : ℕ) (rest : List ℕ) → IsBytes bytes → start_at bytes ≡ Ok (start, rest)
    → (bytes ≡ set_address start ++ rest) × (start < 2 ^ 64)
unfolding start_at
start_takes bytes start rest are e =
    let opcode = bind_ok (constants_at (0 ∷ 9 ∷ 2 ∷ []) bytes) (number_at w64) (start, rest) e in
    let front = constants_take (0 ∷ 9 ∷ 2 ∷ []) bytes opcode.0 opcode.1 in
    let address = number_takes w64 (2 ^ 64) wide64 opcode.0 start rest (IsBytes-behind bytes (0 ∷ 9 ∷ 2 ∷ []) opcode.0 front are) opcode.2 in
    (front ∙ ap (λ x. 0 ∷ 9 ∷ 2 ∷ x) address.0, address.1)

pub start_again : (start : ℕ) (rest : List ℕ) → start < 2 ^ 64 → start_at (set_address start ++ rest) ≡ Ok (start, rest)
unfolding start_at
start_again start rest fits = number_again w64 (2 ^ 64) wide64 start rest fits

pub begins_row : (start : ℕ) → start < 2 ^ 64 → IsRow (registers_at start)
begins_row start fits = record { address = fits; file = lit< tt; line = lit< tt; column = lit< tt }
