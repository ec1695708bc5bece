-- Names in a program that was read from a text of bytes.
use Rattle.std.specs.Prelude.{ℕ, false, ◌<◌, List, All, Ok}
use Rattle.read_program.specs.declared.closing.Parsed.{Parsed}
use Rattle.read_program.specs.declared.program.Program.{Program}
use Rattle.read_program.specs.Program.{ReadsText}
use Rattle.readback_functions.specs.Stripped.{HasNamesOfBytes}

-- the text consists of bytes, numbers below 256
abbrev pub AreBytes : List ℕ → Type 0
AreBytes text = All (λ b. b < 256) text

-- In a program read from a text of bytes, but not in the linked language, the names of functions and symbols consist of bytes.
abbrev pub NamesAreOfBytes : Type 0
NamesAreOfBytes = (text : List ℕ) (p : Program) → AreBytes text → ReadsText false text (Ok p) →
    All (λ (q : Parsed). HasNamesOfBytes q.func) p.functions
