-- The machine code of functions with their frames depends only on their code.
use Rattle.std.specs.Prelude.{◌≡◌, Bool, map}
use Rattle.mir_func.specs.declared.position.Pos.{Pos}
use Rattle.emit_code.specs.declared.code.EncodedInstruction.{EncodedInstruction}
use Rattle.emit_code.specs.Listed.{Line, lines_of}
use Rattle.emit_code.specs.BranchRelaxation.{IsSettled}
use Rattle.emit_code.specs.Rule.{Layout, entries_of, words_of}
use Rattle.pass_trait.specs.Code.{originless_origin}
use Rattle.invariance_code.specs.Alike.{stripped_framed, AreFramedSame, AreFramedAlike}

-- an entry without its point, since a point counts debug items
abbrev pub pointless_entry : EncodedInstruction → EncodedInstruction
pointless_entry e = record e { point = record { block = 0; item = 0 } }

-- an entry without its point and its position: its address, its size, whether it is kept or added, and whether it is a call
abbrev pub originless_entry : EncodedInstruction → EncodedInstruction
originless_entry e = record e { origin = originless_origin e.origin; point = record { block = 0; item = 0 } }

-- a code line without its position: its address, whether it is kept or added, and its instruction
abbrev pub originless_line : Line → Line
originless_line x = record x { origin = originless_origin x.origin }

-- machine code equal up to positions: equal words, and entries and code lines that are equal up to positions and points
pub record AreCodedAlike (l m : Layout) : Type 0 where
  pub words : words_of l ≡ words_of m
  pub entries : map originless_entry (entries_of l) ≡ map originless_entry (entries_of m)
  pub lines : map originless_line (lines_of l) ≡ map originless_line (lines_of m)

-- machine code equal with its origins: equal words and code lines, and entries that are equal up to points
pub record AreCodedSame (l m : Layout) : Type 0 where
  pub words : words_of l ≡ words_of m
  pub entries : map pointless_entry (entries_of l) ≡ map pointless_entry (entries_of m)
  pub lines : lines_of l ≡ lines_of m

-- The function without its debug items has a settled layout from the same address, with some set of long branches, and the same machine code.
pub record HasCode (l : Layout) : Type 0 where
  pub long : Pos → Bool
  pub settled : IsSettled (record { framed = stripped_framed l.framed; base = l.base; long = long })
  pub coded : AreCodedSame l (record { framed = stripped_framed l.framed; base = l.base; long = long })

-- A function has the same machine code without its debug items.
abbrev pub CodeHasWords : Type 0
CodeHasWords = (l : Layout) → IsSettled l → HasCode l

-- Two functions with equal code up to positions have, from the same address, equal machine code up to positions.
abbrev pub AlikeCodeIsCodedAlike : Type 0
AlikeCodeIsCodedAlike = (l m : Layout) → IsSettled l → IsSettled m → l.base ≡ m.base → AreFramedAlike l.framed m.framed → AreCodedAlike l m

-- Two functions with equal code and origins have, from the same address, equal machine code with its origins.
abbrev pub SameCodeIsCodedSame : Type 0
SameCodeIsCodedSame = (l m : Layout) → IsSettled l → IsSettled m → l.base ≡ m.base → AreFramedSame l.framed m.framed → AreCodedSame l m
