-- The result of the reader in code, against the specified one.
use Rattle.std.specs.Prelude.{◌≡◌, ℕ, Result, Ok, Err}
use Rattle.dwarf_frame.specs.declared.read.WrongField.{WrongField}

-- the same value under `view`, or the same fault
abbrev pub Gives : {X Y : Type 0} → (X → Y) → Result X WrongField → Result Y ℕ → Type 0
Gives view (Ok x) read = read ≡ Ok (view x)
Gives view (Err e) read = read ≡ Err e.left
