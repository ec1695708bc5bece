-- Registers that are live into a function, as a list.
use Rattle.std.specs.Prelude.{ℕ, List, Bool, nat_eq}
use Rattle.std.specs.List.{list_any}

-- the register is one of these
abbrev pub is_among : List ℕ → ℕ → Bool
is_among registers r = list_any (λ s. nat_eq s r) registers
