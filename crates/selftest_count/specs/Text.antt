-- The text of a self-test.
use Rattle.std.specs.Prelude.{◌≡◌, ℕ, List, [], ◌∷◌, ◌++◌, codes, length, Option}
use Rattle.std.specs.List.{sum_by}
use Rattle.std.specs.Fmt.{decimal}
use Rattle.mir_func.specs.declared.block.Block.{Block}
use Rattle.mir_func.specs.declared.debug_substitution.OperandPair.{OperandPair}
use Rattle.mir_func.specs.declared.variable.VarId.{VarId}
use Rattle.mir_func.specs.Function.{Function}
use Rattle.dwarf_loclists.specs.declared.range.Range.{Range}
use Rattle.emit_code.specs.Laid.{LaidCode}
use Rattle.selftest_count.specs.declared.counts.Counts.{Counts}
use Rattle.selftest_count.specs.Runs.{AreCountsOf}

-- the number of items of blocks
abbrev pub items_of : List Block → ℕ
items_of blocks = sum_by (λ b. length b.items) blocks

-- a line of a label and a number
abbrev pub count_line : (label digits : List ℕ) → List ℕ
count_line label digits = label ++ digits ++ 10 ∷ []

-- a line for each count
abbrev pub counts_text : (items words : ℕ) → Counts → List ℕ
counts_text items words n =
    count_line (codes "items ") (decimal items) ++ count_line (codes "words ") (decimal words) ++ count_line (codes "steps ") (decimal n.steps)
    ++ count_line (codes "reads ") (decimal n.reads) ++ count_line (codes "known ") (decimal n.known)

-- the most machine steps of a self-test
abbrev pub MAX_STEPS : ℕ
MAX_STEPS = 10000

-- The text has the number of items of the source, the number of words of its machine code, and the counts of a run of at most 10,000 steps.
pub record IsSelfTest (source : Function) (resolve : OperandPair → Option OperandPair) (c : LaidCode) (lists : List (List Range)) (parts : List VarId)
    (text : List ℕ) : Type 0 where
  pub counts : Counts
  pub counted : AreCountsOf source resolve c lists parts MAX_STEPS counts
  pub is : text ≡ counts_text (items_of source.blocks) (length c.words) counts
