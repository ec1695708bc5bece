-- The layout of a machine code.
use Rattle.std.specs.Prelude.{◌≡◌}
use Rattle.emit_code.specs.Laid.{LaidCode}
use Rattle.emit_code.specs.Rule.{Layout, entries_of, words_of}

-- the machine code is that of the layout: the same function with its frame, first address, entries and words
pub record IsLaid (l : Layout) (c : LaidCode) : Type 0 where
  pub framed : c.framed ≡ l.framed
  pub base : c.base ≡ l.base
  pub entries : c.entries ≡ entries_of l
  pub words : c.words ≡ words_of l
