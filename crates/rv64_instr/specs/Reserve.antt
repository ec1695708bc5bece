-- The registers that may be in a reserve.
use Rattle.std.specs.Prelude.{ℕ, List, [], ◌∷◌}

-- the registers that may be in a reserve, in ascending order (RISC-V ELF psABI: s0 to s11)
abbrev pub RESERVABLE : List ℕ
RESERVABLE = 8 ∷ 9 ∷ 18 ∷ 19 ∷ 20 ∷ 21 ∷ 22 ∷ 23 ∷ 24 ∷ 25 ∷ 26 ∷ 27 ∷ []
