use Rattle.std.proofs.Common.{◌≡◌, ◌++◌, List, map, drop}
use Rattle.mir_func.specs.declared.block.Block.{Block}
use Rattle.dwarf_line_table.specs.steps.DebugLocations.{AreDebugLocations}
use Rattle.prologue_rows.specs.Words.{word_of}
use Rattle.prologue_rows.proofs.words.words.Given as goal

abbrev pub invariant-loop-entry : goal.invariant-loop-entry
invariant-loop-entry l = (blocks : List Block) → AreDebugLocations blocks l.places →
    l.words ++ map (word_of l.meta blocks) (drop l.entry-index l.entries) ≡ map (word_of l.meta blocks) l.entries
