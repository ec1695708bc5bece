-- The addresses of a function's rows don't fall.
-- Plan: entries stand one after the other, and a row has its entry's address.
use Rattle.std.proofs.Common.{◌≡◌, ℕ, ◌+◌, ◌≤◌, Bool, true, false, cond, List, [], ◌∷◌, Some, None, arith}
use Rattle.std.specs.Prelude.{Option, All}
use Rattle.std.proofs.lemmas.List.Elements.{All-nil, All-cons}
use Rattle.dwarf_line.specs.declared.table.Row.{Row}
use Rattle.dwarf_line.specs.Table.{Ascend, IsSequence}
use Rattle.read_metadata.specs.Maps.{Maps}
use Rattle.mir_func.specs.declared.block.Block.{Block}
use Rattle.emit_code.specs.declared.code.EncodedInstruction.{EncodedInstruction}
use Rattle.emit_code.specs.Laid.{StandFrom}
use Rattle.dwarf_line_table.specs.declared.file.SourceFile.{SourceFile}
use Rattle.dwarf_line_table.specs.Table.{row_of_line, entry_line, is_place_before, changes, rows_in}
use Rattle.dwarf_line_table.specs.Program.{sequence_if}

module _ (files : List SourceFile) (meta : Maps) (unit : SourceFile) (blocks : List Block) where
  abbrev row : EncodedInstruction → Row
  row e = row_of_line files e.address (entry_line meta unit blocks e)

  ascend : (a : ℕ) (es : List EncodedInstruction) (end : ℕ) → StandFrom a es end → (from : ℕ) (before : Option Row) → from ≤ a
      → Ascend from (changes before (rows_in files meta unit blocks es)) end
  ascend a [] end at from before low = let e : a ≡ end = at in omega (arith, e, low)
  ascend a (e ∷ es) end (here, sized, rest) from before low =
      by (is_place_before before (row e)) (ascend (a + e.size) es end rest from before (omega (arith, low)))
      (ascend (a + e.size) es end rest e.address (Some (row e)) (omega (arith, here)))
    where
      by : (b : Bool) → Ascend from (changes before (rows_in files meta unit blocks es)) end
          → Ascend e.address (changes (Some (row e)) (rows_in files meta unit blocks es)) end
          → Ascend from (cond b (changes before (rows_in files meta unit blocks es)) (row e ∷ changes (Some (row e)) (rows_in files meta unit blocks es))) end
      by true same new = same
      by false same new = (omega (arith, here, low), new)

  pub sequence_is : (a : ℕ) (es : List EncodedInstruction) (end : ℕ) → StandFrom a es end → All IsSequence
      (sequence_if (changes None (rows_in files meta unit blocks es)) end)
  sequence_is a [] end at = All-nil IsSequence
  sequence_is a (e ∷ es) end (here, sized, rest) =
      All-cons IsSequence _ [] (ascend (a + e.size) es end rest e.address (Some (row e)) (omega (arith, here))) (All-nil IsSequence)
