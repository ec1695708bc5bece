-- The lines of the text of a run.
use Rattle.std.specs.Prelude.{ℕ, ◌*◌, ◌%◌, ◌^◌, List, [], ◌∷◌, ◌++◌, codes, Option, Some, None}
use Rattle.std.specs.List.{flat_map}
use Rattle.std.specs.Fmt.{decimal}
use Rattle.rv64_instr.specs.declared.start.CallTarget.{CallTarget}
use Rattle.rv64_instr.specs.declared.start.CallTarget.TheVariants.{Function, Address}
use Rattle.rv64_instr.specs.Row.{Way, Back, Tail, Never}
use Rattle.mir_func.specs.declared.position.Origin.{Origin}
use Rattle.dwarf_loclists.specs.declared.range.Part.{Part}
use Rattle.dwarf_loclists.specs.declared.range.Location.{Location}
use Rattle.dwarf_loclists.specs.declared.range.Location.TheVariants.{Whole, Parts}
use Rattle.dwarf_loclists.specs.Ranges.{location_in}
use Rattle.mir_printer.specs.Spelling.{symbol_text}
use Rattle.listing_text.specs.Hex.{address_text}
use Rattle.listing_text.specs.Output.{name_text, origin_text}
use Rattle.sem_machine.specs.Machine.{Machine, register, place_content}
use Rattle.sem_machine.specs.MachineStep.{Stepped, Ends, Leaves, BadWord}
use Rattle.sim_trace.specs.declared.variable.Variable.{Variable}

-- ---- values of variables, with names spelled as in a listing

-- a variable without a location: ` NAME=-`
abbrev pub nowhere_text : (name : List ℕ) → List ℕ
nowhere_text name = codes " " ++ name_text name ++ codes "=-"

-- the value of a whole variable: ` NAME=VALUE`
abbrev pub whole_text : (name : List ℕ) → (value : ℕ) → List ℕ
whole_text name value = codes " " ++ name_text name ++ codes "=" ++ decimal value

-- the value of a piece of a variable: ` NAME[OFFSET+LENGTH]=VALUE`
abbrev pub piece_value_text : (name : List ℕ) → (offset length value : ℕ) → List ℕ
piece_value_text name offset length value =
    codes " " ++ name_text name ++ (codes "[" ++ decimal offset) ++ (codes "+" ++ decimal length) ++ codes "]=" ++ decimal value

-- a piece: its offset, its length, and its value, which is the low bytes of its place
abbrev pub piece_text : (name : List ℕ) → Machine → Part → List ℕ
piece_text name s p = piece_value_text name p.offset p.length (place_content p.place s % 2 ^ (8 * p.length))

-- the value of a whole variable, or of each of its pieces
abbrev pub located_text : (name : List ℕ) → Machine → Location → List ℕ
located_text name s (Whole p) = whole_text name (place_content p s)
located_text name s (Parts parts) = flat_map (piece_text name s) parts

-- the value of a variable by its location, if it has one
abbrev pub value_text : (name : List ℕ) → Machine → Option Location → List ℕ
value_text name s None = nowhere_text name
value_text name s (Some l) = located_text name s l

-- the value of a variable by its location list at the program counter
abbrev pub variable_text : Machine → Variable → List ℕ
variable_text s v = value_text v.name s (location_in v.ranges s.counter)

-- all variables, in their order
abbrev pub variables_text : List Variable → Machine → List ℕ
variables_text variables s = flat_map (variable_text s) variables

-- ---- a line

-- a step's number, the address, and the origin of the code there
abbrev pub head_text : (number address : ℕ) → Origin → List ℕ
head_text n a o = decimal n ++ codes " " ++ address_text a ++ origin_text o

-- the line of a step, with the variables
abbrev pub step_line : (number : ℕ) → Origin → List Variable → Machine → List ℕ
step_line n o variables s = head_text n s.counter o ++ variables_text variables s ++ 10 ∷ []

-- the last line of a run that returns this value
abbrev pub return_line : (value : ℕ) → List ℕ
return_line v = codes "stop returned " ++ decimal v ++ 10 ∷ []

-- what is called: a function by its name, as its symbol prints, or the code at an address
abbrev pub target_text : CallTarget → List ℕ
target_text (Function name) = symbol_text name
target_text (Address a) = decimal a

-- the last line of a run that leaves the function so
abbrev pub left_line : (how : List ℕ) → CallTarget → List ℕ
left_line how target = how ++ target_text target ++ 10 ∷ []

-- the last line of a run that ends on this way: if it returns, with the content of x10
abbrev pub end_line : Way CallTarget → Machine → List ℕ
end_line Back s = return_line (register s 10)
end_line (Tail target) s = left_line (codes "stop tailed ") target
end_line (Never target) s = left_line (codes "stop gone ") target

-- how a run stops, by what the machine does where it makes no step
abbrev pub stop_line : Stepped → Machine → List ℕ
stop_line (Ends result) s = end_line result.way s
stop_line Leaves s = codes "stop left\n"
stop_line BadWord s = codes "stop bad word\n"
stop_line _ s = []
