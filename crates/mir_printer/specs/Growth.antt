-- The text after a call that appends to it, if memory runs out.
use Rattle.std.specs.Prelude.{◌≡◌, ℕ, List, ◌++◌}

-- the new text is the old one, with something after it
abbrev pub GrownFrom : List ℕ → List ℕ → Type 0
GrownFrom old new = (more : List ℕ) × (new ≡ old ++ more)
