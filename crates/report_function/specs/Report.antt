-- The contents of a report.
use Rattle.std.specs.Prelude.{ℕ, zero, suc, ◌+◌, ◌*◌, List, [], ◌∷◌, cond, ◌&&◌, nat_le, nat_lt, length, sum_by}
use Rattle.emit_code.specs.Laid.{LaidCode}
use Rattle.dwarf_loclists.specs.declared.range.Range.{Range}
use Rattle.pass_trait.specs.declared.loss.Loss.{Loss}
use Rattle.report_function.specs.declared.report.Cover.{Cover}
use Rattle.report_function.specs.declared.report.Report.{Report}

-- the number of words whose address is in a range, end excluded, of `count` words from address `base` on
abbrev pub words_in : (base count : ℕ) → Range → ℕ
words_in base zero r = 0
words_in base (suc n) r = words_in base n r + cond (nat_le r.lo (base + 4 * n) && nat_lt (base + 4 * n) r.hi) 1 0

-- The number of words in the ranges of a location list, summed over the ranges.
abbrev pub covered : LaidCode → List Range → ℕ
covered c ranges = sum_by (words_in c.base (length c.words)) ranges

-- the location coverage of a variable: the number of words in its ranges
abbrev pub cover_of : LaidCode → (name : List ℕ) → List Range → Cover
cover_of c name ranges = record { name = name; words = covered c ranges }

-- the location coverage of each variable, by its name and its location list
abbrev pub covers_of : LaidCode → (names : List (List ℕ)) → List (List Range) → List Cover
covers_of c [] lists = []
covers_of c (name ∷ names) [] = []
covers_of c (name ∷ names) (ranges ∷ lists) = cover_of c name ranges ∷ covers_of c names lists

-- the report on machine code, with the names and the location lists of its variables and the losses of the passes
abbrev pub report_of : LaidCode → (names : List (List ℕ)) → List (List Range) → List Loss → Report
report_of c names lists losses =
    record { name = c.framed.name; words = length c.words; covers = covers_of c names lists; losses = losses }
