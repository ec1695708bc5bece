-- The faults of a run: their names, the lines that report them, and their exit statuses.
use Rattle.std.specs.Prelude.{ℕ, List, [], ◌∷◌, ◌++◌, codes, Option, Some, None}
use Rattle.std.specs.Fmt.{decimal}
use Rattle.read_refusal.specs.Kind as kind
use Rattle.cli.specs.declared.fault.Fault.{Fault}
use Rattle.cli.specs.declared.fault.Fault.TheVariants.{Usage, Read, TooLong, Refused, NoFunction, UnknownFunction}
use Rattle.cli.specs.declared.fault.Fault.TheVariants.{NoRegister, FrameTooLarge, SymbolName, SectionTooLarge, Write, Memory}
use Rattle.cli.specs.declared.status.Status.{Status}
use Rattle.cli.specs.declared.status.Status.TheVariants as status

-- the line of the input that a fault is about; 0 if it is about the whole input, and none if it isn't about the input's content
abbrev pub input_line : Fault → Option ℕ
input_line (Refused r) = Some r.line
input_line TooLong = Some 0
input_line NoFunction = Some 0
input_line UnknownFunction = Some 0
input_line NoRegister = Some 0
input_line FrameTooLarge = Some 0
input_line SymbolName = Some 0
input_line SectionTooLarge = Some 0
input_line Usage = None
input_line Read = None
input_line Write = None
input_line Memory = None

-- the name of a fault
abbrev pub name_of : Fault → List ℕ
name_of (Refused r) = kind.name_of r.kind
name_of TooLong = codes "TooLong"
name_of NoFunction = codes "NoFunction"
name_of UnknownFunction = codes "UnknownFunction"
name_of NoRegister = codes "NoRegister"
name_of FrameTooLarge = codes "FrameTooLarge"
name_of SymbolName = codes "SymbolName"
name_of SectionTooLarge = codes "SectionTooLarge"
name_of Usage = codes "usage"
name_of Read = codes "read"
name_of Write = codes "write"
name_of Memory = codes "memory"

-- the line number before the name of a refusal
abbrev pub place_text : Option ℕ → List ℕ
place_text None = []
place_text (Some n) = codes "line " ++ decimal n ++ codes ": "

-- The line that reports a fault: the program's name, the line of the input for a refusal, the fault's name, and a line feed.
unfoldable pub line_of : Fault → List ℕ
line_of fault = codes "mirdwarf: " ++ place_text (input_line fault) ++ name_of fault ++ 10 ∷ []

-- the status of a run that ends in a fault: `Refused` for each fault in the input's content
abbrev pub status_of : Fault → Status
status_of Usage = status.Usage
status_of Read = status.ReadFault
status_of TooLong = status.Refused
status_of (Refused r) = status.Refused
status_of NoFunction = status.Refused
status_of UnknownFunction = status.Refused
status_of NoRegister = status.Refused
status_of FrameTooLarge = status.Refused
status_of SymbolName = status.Refused
status_of SectionTooLarge = status.Refused
status_of Write = status.WriteFault
status_of Memory = status.Memory
