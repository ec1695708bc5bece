-- The addresses of a function's rows don't fall.
use Rattle.std.proofs.Common.{◌≡◌, ℕ, zero, suc, ◌+◌, ◌≤◌, Bool, true, false, cond, List, [], ◌∷◌, ◌++◌, map, take, drop, Option, Some, None, arith}
use Rattle.dwarf_line.specs.declared.table.Row.{Row}
use Rattle.dwarf_line.specs.Table.{Ascend, HasRows}
use Rattle.read_metadata.specs.Maps.{Maps}
use Rattle.mir_func.specs.declared.block.Block.{Block}
use Rattle.emit_code.specs.declared.code.EncodedInstruction.{EncodedInstruction}
use Rattle.emit_code.specs.Laid.{StandFrom}
use Rattle.dwarf_line_table.specs.declared.file.SourceFile.{SourceFile}
use Rattle.dwarf_line_table.specs.declared.scope_line.ScopeLine.{ScopeLine}
use Rattle.dwarf_line_table.specs.Table.{is_place_before, changes}
use Rattle.std.specs.List.{prefix_len}
use Rattle.prologue_rows.specs.declared.words.SourceWord.{SourceWord}
use Rattle.prologue_rows.specs.Words.{word_of}
use Rattle.prologue_rows.specs.Lines.{is_prologue, with_line, head_len, body_of, body_lines, lines_of}
use Rattle.prologue_rows.specs.Rows.{row_of, first_and_changes}

-- the words' addresses don't fall, from an address up to the end
abbrev pub AscendWords : ℕ → List SourceWord → ℕ → Type 0
AscendWords from [] end = from ≤ end
AscendWords from (w ∷ words) end = (from ≤ w.address) × AscendWords w.address words end

words_ascend : (meta : Maps) (blocks : List Block) (from a : ℕ) (es : List EncodedInstruction) (end : ℕ) → StandFrom a es end → from ≤ a
    → AscendWords from (map (word_of meta blocks) es) end
words_ascend meta blocks from a [] end at low = let e : a ≡ end = at in omega (arith, e, low)
words_ascend meta blocks from a (e ∷ es) end (here, sized, rest) low =
    (omega (arith, here, low), words_ascend meta blocks e.address (a + e.size) es end rest (omega (arith, here)))

lower : (from above : ℕ) (words : List SourceWord) (end : ℕ) → AscendWords above words end → from ≤ above → AscendWords from words end
lower from above [] end ascend low = let e : above ≤ end = ascend in omega (arith, e, low)
lower from above (w ∷ words) end ascend low = (omega (arith, ascend.0, low), ascend.1)

drop_ascends : (n from : ℕ) (words : List SourceWord) (end : ℕ) → AscendWords from words end → AscendWords from (drop n words) end
drop_ascends zero from words end ascend = ascend
drop_ascends (suc n) from [] end ascend = ascend
drop_ascends (suc n) from (w ∷ words) end ascend = drop_ascends n from words end (lower from w.address words end ascend.1 ascend.0)

lines_ascend : (own : ScopeLine) (n from : ℕ) (words : List SourceWord) (end : ℕ) → AscendWords from words end
    → AscendWords from (map (with_line own) (take n words) ++ drop n words) end
lines_ascend own zero from words end ascend = ascend
lines_ascend own (suc n) from [] end ascend = ascend
lines_ascend own (suc n) from (w ∷ words) end ascend = (ascend.0, lines_ascend own n w.address words end ascend.1)

rows_ascend : (files : List SourceFile) (meta : Maps) (unit : SourceFile) (from : ℕ) (words : List SourceWord) (end : ℕ) → AscendWords from words end
    → Ascend from (map (row_of files meta unit) words) end
rows_ascend files meta unit from [] end ascend = ascend
rows_ascend files meta unit from (w ∷ words) end ascend = (ascend.0, rows_ascend files meta unit w.address words end ascend.1)

lower_rows : (from above : ℕ) (rows : List Row) (end : ℕ) → Ascend above rows end → from ≤ above → Ascend from rows end
lower_rows from above [] end ascend low = let e : above ≤ end = ascend in omega (arith, e, low)
lower_rows from above (r ∷ rows) end ascend low = (omega (arith, ascend.0, low), ascend.1)

changes_ascend : (before : Option Row) (from : ℕ) (rows : List Row) (end : ℕ) → Ascend from rows end → Ascend from (changes before rows) end
changes_ascend before from [] end ascend = ascend
changes_ascend before from (r ∷ rows) end ascend =
    by (is_place_before before r) (changes_ascend before from rows end (lower_rows from r.address rows end ascend.1 ascend.0))
    (changes_ascend (Some r) r.address rows end ascend.1)
  where
    by : (b : Bool) → Ascend from (changes before rows) end → Ascend r.address (changes (Some r) rows) end
        → Ascend from (cond b (changes before rows) (r ∷ changes (Some r) rows)) end
    by true same new = same
    by false same new = (ascend.0, new)

pub body_ascends : (files : List SourceFile) (meta : Maps) (unit : SourceFile) (blocks : List Block) (own : ScopeLine) (base : ℕ)
    (es : List EncodedInstruction) (end : ℕ) → StandFrom base es end
    → Ascend base (map (row_of files meta unit) (body_lines own (body_of (map (word_of meta blocks) es)))) end
body_ascends files meta unit blocks own base es end stand =
    let words : List SourceWord = map (word_of meta blocks) es in
    let body : List SourceWord = body_of words in
    rows_ascend files meta unit base (body_lines own body) end
    (lines_ascend own (head_len body) base body end
    (drop_ascends (prefix_len is_prologue words) base words end (words_ascend meta blocks base base es end stand (omega arith))))

-- a function's rows are those of a sequence
pub function_ascends : (files : List SourceFile) (meta : Maps) (unit : SourceFile) (blocks : List Block) (own : ScopeLine) (base : ℕ)
    (es : List EncodedInstruction) (end : ℕ) → StandFrom base es end
    → HasRows (first_and_changes (map (row_of files meta unit) (lines_of own base (map (word_of meta blocks) es)))) end
function_ascends files meta unit blocks own base es end stand =
    changes_ascend None base (map (row_of files meta unit) (body_lines own (body_of (map (word_of meta blocks) es)))) end
    (body_ascends files meta unit blocks own base es end stand)
