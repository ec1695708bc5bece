-- The texts that give addresses to symbols.
use Rattle.std.specs.Prelude.{◌≡◌, ◌≢◌, ℕ, ◌<◌, ◌^◌, Bool, false, cond, not, ◌&&◌, ◌==◌, nat_eq, nat_lt, IsTrue}
use Rattle.std.specs.Prelude.{List, [], ◌∷◌, ◌++◌, length, map, codes, All, AllPairs, Option, Some, None}
use Rattle.std.specs.List.{join_with_byte, list_all, starts_with}
use Rattle.std.specs.Fmt.{decimal}
use Rattle.rv64_instr.specs.declared.symbol.Symbol.{Symbol}
use Rattle.rv64_instr.specs.declared.symbol.Symbol.TheVariants.{Global, Constant}
use Rattle.rv64_instr.specs.Linked.{is_same_symbol}

-- neither a comma nor an equals sign
abbrev pub is_plain : ℕ → Bool
is_plain b = not (b == 44) && not (b == 61)

-- some bytes without commas and equals signs, of which the first is no percent sign
abbrev pub is_plain_name : List ℕ → Bool
is_plain_name name = nat_lt 0 (length name) && (not (starts_with nat_eq name (codes "%")) && list_all is_plain name)

-- how a symbol is named: a global by its name, and constant N of the pool as `%const.N`
abbrev pub symbol_name : Symbol → List ℕ
symbol_name (Global name) = name
symbol_name (Constant n) = codes "%const." ++ decimal n

-- the symbols that can be named
abbrev pub CanBeNamed : Symbol → Type 0
CanBeNamed (Global name) = IsTrue (is_plain_name name)
CanBeNamed (Constant n) = n < 2 ^ 32

-- the global of a name, if it can be named
abbrev pub global_named : List ℕ → Option Symbol
global_named name = cond (is_plain_name name) (Some (Global name)) None

-- the digits are those of a constant's number
abbrev pub IsConstantOf : (digits : List ℕ) → Symbol → Type 0
IsConstantOf digits (Global name) = ⊥
IsConstantOf digits (Constant n) = (digits ≡ decimal n) × (n < 2 ^ 32)

-- a symbol and its address: the name, an equals sign, and the address in decimal digits
abbrev pub pair_text : Symbol × ℕ → List ℕ
pair_text p = symbol_name p.0 ++ 61 ∷ decimal p.1

-- a symbol that can be named, and an address of 64 bits
pub record CanBeGiven (p : Symbol × ℕ) : Type 0 where
  pub named : CanBeNamed p.0
  pub small : p.1 < 2 ^ 64

-- two pairs are of two symbols
abbrev pub AreOthers : (p q : Symbol × ℕ) → Type 0
AreOthers p q = is_same_symbol p.0 q.0 ≡ false

-- the text is a pair whose symbol isn't among these
pub record IsAnotherPair (pairs : List (Symbol × ℕ)) (text : List ℕ) (p : Symbol × ℕ) : Type 0 where
  pub spelled : text ≡ pair_text p
  pub given : CanBeGiven p
  pub other : All (λ q. AreOthers q p) pairs

-- the texts are these pairs, each of another symbol
pub record ArePairs (texts : List (List ℕ)) (pairs : List (Symbol × ℕ)) : Type 0 where
  pub each : texts ≡ map pair_text pairs
  pub given : All CanBeGiven pairs
  pub once : AllPairs AreOthers pairs

-- the text is a list of these pairs, separated by commas: one or more, each of another symbol
pub record IsAddressText (text : List ℕ) (pairs : List (Symbol × ℕ)) : Type 0 where
  pub listed : text ≡ join_with_byte 44 (map pair_text pairs)
  pub some : pairs ≢ []
  pub given : All CanBeGiven pairs
  pub once : AllPairs AreOthers pairs
