-- The text of a program without its debug items, and the program that it is read as.
use Rattle.std.specs.Prelude.{◌≡◌, false, ℕ, List, [], map, Ok}
use Rattle.read_metadata.specs.Metadata.{metadata_of}
use Rattle.strip_command.specs.read_program.declared.program.Program.{Program}
use Rattle.strip_command.specs.read_program.Program.{ReadsText}
use Rattle.strip_command.specs.StripText.{stripped_text}
use Rattle.readback_functions.specs.Stripped.{reread}
use Rattle.readback_functions.specs.Bytes.{AreBytes}

-- the program that the stripped text is read as: it has no debug items and no metadata, and the origin of each item is its own position
abbrev pub stripped_program : Program → Program
stripped_program p = record { functions = map reread p.functions; meta = metadata_of [] }

-- The stripped text of a program consists of bytes and is read as the stripped program, and the stripped text of that is the same text.
pub record IsReadStripped (p : Program) : Type 0 where
  pub bytes : AreBytes (stripped_text p.functions)
  pub reads : ReadsText false (stripped_text p.functions) (Ok (stripped_program p))
  pub same : stripped_text (stripped_program p).functions ≡ stripped_text p.functions

-- This holds for every program read from a text of bytes, but not in the linked language.
abbrev pub StrippedTextsAreRead : Type 0
StrippedTextsAreRead = (text : List ℕ) (p : Program) → AreBytes text → ReadsText false text (Ok p) → IsReadStripped p
