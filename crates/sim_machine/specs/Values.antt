-- Values of variables from location lists in a machine state.
use Rattle.std.specs.Prelude.{◌≡◌, ℕ, ◌*◌, ◌%◌, ◌^◌, List, Option, option_map}
use Rattle.rv64_instr.specs.declared.place.Place.{Place}
use Rattle.dwarf_loclists.specs.declared.range.Part.{Part}
use Rattle.dwarf_loclists.specs.Grammar.{PlaceAt, PieceAt}
use Rattle.sem_machine.specs.Machine.{Machine, place_content}
use Rattle.sim_machine.specs.declared.value.PartValue.{PartValue}

-- The value of the whole variable by list k: the content of the place in the list at the program counter, or none if the list has no place there.
pub record VariableIs (bytes : List ℕ) (k : ℕ) (s : Machine) (value : Option ℕ) : Type 0 where
  pub place : Option Place
  pub listed : PlaceAt bytes k s.counter place
  pub is : value ≡ option_map (λ p. place_content p s) place

-- the value of a piece: the low bytes of the content of its place
abbrev pub part_value : Machine → Part → PartValue
part_value s p = record { offset = p.offset; length = p.length; value = place_content p.place s % 2 ^ (8 * p.length) }

-- the value of the n-th piece by list k, or none if the list has fewer pieces
pub record PartIs (bytes : List ℕ) (k n : ℕ) (s : Machine) (value : Option PartValue) : Type 0 where
  pub piece : Option Part
  pub listed : PieceAt bytes k s.counter n piece
  pub is : value ≡ option_map (part_value s) piece
