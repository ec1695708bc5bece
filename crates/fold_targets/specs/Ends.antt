-- Hash maps from numbers to numbers, as functions.
use Rattle.std.specs.Prelude.{ℕ, Option, nat_eq}
use Rattle.std.specs.Option.{unwrap_or}
use Rattle.std.specs.HashMap.{HashMap, get}

-- the value of a key, if the map has it
abbrev pub told : {S : Type 0} → HashMap ℕ ℕ S → ℕ → Option ℕ
told m n = get nat_eq m n

-- the value of a key, or the key itself if the map doesn't have it
abbrev pub end_in : {S : Type 0} → HashMap ℕ ℕ S → ℕ → ℕ
end_in m n = unwrap_or (told m n) n
