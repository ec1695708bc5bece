-- The source positions of the words of a function.
use Rattle.std.specs.Prelude.{ℕ, List, map}
use Rattle.read_metadata.specs.Maps.{Maps}
use Rattle.mir_func.specs.declared.block.Block.{Block}
use Rattle.mir_func.specs.Positions.{position_of}
use Rattle.emit_code.specs.declared.code.EncodedInstruction.{EncodedInstruction}
use Rattle.dwarf_line_table.specs.declared.source_and_code.SourceAndCode.{SourceAndCode}
use Rattle.dwarf_line_table.specs.declared.scope_line.ScopeLine.{ScopeLine}
use Rattle.dwarf_line_table.specs.SourcePosition.{scope_line, loc_of}
use Rattle.prologue_rows.specs.declared.words.SourceWord.{SourceWord}

-- a line at an address of a block
abbrev pub at_line : (address block : ℕ) → ScopeLine → SourceWord
at_line address block l = record { address = address; block = block; line = l.line; column = l.column; scope = l.scope }

-- an entry with the source position of its origin, in the blocks of the function as it was read
abbrev pub word_of : Maps → List Block → EncodedInstruction → SourceWord
word_of meta blocks e = at_line e.address e.point.block (scope_line meta (loc_of blocks (position_of e.origin)))

-- the words of a function
abbrev pub words_of : Maps → SourceAndCode → List SourceWord
words_of meta f = map (word_of meta f.source.now.blocks) f.code.now.entries
