-- The calls in the machine code of an output.
use Rattle.std.specs.Prelude.{ℕ, List, [], ◌∷◌, Option, Some, None}
use Rattle.std.specs.List.{flat_map}
use Rattle.rv64_instr.specs.Row.{Callee, Named, Held, row_of, Row, Calls, Returns, Way, Back, Tail, Never}
use Rattle.sem_machine.specs.Image.{CodeLine}
use Rattle.listing_text.specs.declared.output.Line.{Line}
use Rattle.listing_text.specs.declared.output.ListedFunction.{ListedFunction}
use Rattle.listing_meaning.specs.Program.{lines_of, code_lines}
use Rattle.object_command.specs.declared.calls.CallSite.{CallSite}

-- the call site at an address of a call with this callee, if that is a function by its name
abbrev pub site_by : (address : ℕ) → Callee → List CallSite
site_by a (Named name) = record { address = a; name = name } ∷ []
site_by a (Held r) = []

-- the callee for which control leaves the function on a way
abbrev pub way_callee : Way Callee → Option Callee
way_callee Back = None
way_callee (Tail callee) = Some callee
way_callee (Never callee) = Some callee

-- the callee of code, which it calls or for which it leaves the function
abbrev pub callee_of : Row → Option Callee
callee_of (Calls call) = Some call.callee
callee_of (Returns ending) = way_callee ending.way
callee_of _ = None

-- the call site at an address, if control goes to a function by its name there
abbrev pub site_at : (address : ℕ) → (callee : Option Callee) → List CallSite
site_at a None = []
site_at a (Some callee) = site_by a callee

-- the call site at a code line, if its instruction names a callee
abbrev pub site_of : CodeLine → List CallSite
site_of l = site_at l.address (callee_of (row_of l.instruction))

-- the call site of a line
abbrev pub sites_in : Line → List CallSite
sites_in l = flat_map site_of (code_lines l)

-- the call sites of functions, in the order of their lines
abbrev pub call_sites : List ListedFunction → List CallSite
call_sites functions = flat_map (λ f. flat_map sites_in (lines_of f)) functions
