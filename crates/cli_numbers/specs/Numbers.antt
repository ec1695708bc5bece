-- Numbers in the words of a command line: in decimal digits, without leading zeros.
use Rattle.std.specs.Prelude.{◌≡◌, ◌≢◌, ℕ, ◌≤◌, ◌<◌, ◌^◌, ◌++◌, List, [], length, map, All}
use Rattle.std.specs.List.{join_with_byte}
use Rattle.std.specs.Fmt.{decimal}
use Rattle.cli_numbers.specs.declared.generation.Generation.{Generation}

-- the two words are a generated function's number and its number of blocks
pub record IsGeneration (first second : List ℕ) (g : Generation) : Type 0 where
  pub number : first ≡ decimal g.number
  pub blocks : second ≡ decimal g.blocks
  pub small : g.number ≤ 65536
  pub some : 1 ≤ g.blocks
  pub few : g.blocks ≤ 512

-- the texts spell these numbers, each of 64 bits
pub record AreSpelled (pieces : List (List ℕ)) (values : List ℕ) : Type 0 where
  pub each : pieces ≡ map decimal values
  pub small : All (λ n. n < 2 ^ 64) values

-- the text is one or more numbers of 64 bits, at most `most`, separated by commas
pub record AreListed (most : ℕ) (text values : List ℕ) : Type 0 where
  pub listed : text ≡ join_with_byte 44 (map decimal values)
  pub some : values ≢ []
  pub few : length values ≤ most
  pub small : All (λ n. n < 2 ^ 64) values

-- the word is an option: its name, and then a list of numbers
pub record IsOption (most : ℕ) (name word values : List ℕ) : Type 0 where
  pub list : List ℕ
  pub named : word ≡ name ++ list
  pub lists : AreListed most list values
