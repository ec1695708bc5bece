-- The texts that list some of the registers that may be reserved for spilling.
use Rattle.std.specs.Prelude.{◌≡◌, ◌≢◌, ℕ, List, [], ◌++◌, map, codes, All, AllPairs, Contains}
use Rattle.std.specs.List.{join_with_byte}
use Rattle.std.specs.Fmt.{decimal}
use Rattle.rv64_instr.specs.Reserve.{RESERVABLE}

-- a register's name: x and its number
abbrev pub register_name : ℕ → List ℕ
register_name r = codes "x" ++ decimal r

-- the word names a register that may be reserved and isn't among these
pub record IsAnother (registers word : List ℕ) (r : ℕ) : Type 0 where
  pub named : word ≡ register_name r
  pub reservable : Contains RESERVABLE r
  pub other : Contains registers r → ⊥

-- the words name these registers, which may be reserved, each once
pub record AreNamed (words : List (List ℕ)) (registers : List ℕ) : Type 0 where
  pub each : words ≡ map register_name registers
  pub reservable : All (Contains RESERVABLE) registers
  pub once : AllPairs (λ r s. r ≢ s) registers

-- the text is a list of these registers, separated by commas: one or more, all of which may be reserved, each once
pub record IsReserveText (text registers : List ℕ) : Type 0 where
  pub named : text ≡ join_with_byte 44 (map register_name registers)
  pub some : registers ≢ []
  pub reservable : All (Contains RESERVABLE) registers
  pub once : AllPairs (λ r s. r ≢ s) registers
