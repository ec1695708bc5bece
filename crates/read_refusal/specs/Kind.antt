-- The kinds of refusals: their numbers and names.
use Rattle.std.specs.Prelude.{ℕ, codes, List}
use Rattle.read_refusal.specs.declared.kind.RefusalKind.{RefusalKind}
use Rattle.read_refusal.specs.declared.kind.RefusalKind.TheVariants.{BadByte, UnclosedString, BadDocument, BadLine, UnknownOpcode, BadOperands, UnknownBlock}
use Rattle.read_refusal.specs.declared.kind.RefusalKind.TheVariants.{DuplicateBlock, DuplicateNumber, VirtualRegister, StackPointerUse, StackObject, TooMany}
use Rattle.read_refusal.specs.declared.kind.RefusalKind.TheVariants.{BlockEnd}

-- the number of a kind
abbrev pub number_of : RefusalKind → ℕ
number_of BadByte = 1
number_of UnclosedString = 2
number_of BadDocument = 3
number_of BadLine = 4
number_of UnknownOpcode = 5
number_of BadOperands = 6
number_of UnknownBlock = 7
number_of DuplicateBlock = 8
number_of DuplicateNumber = 9
number_of VirtualRegister = 10
number_of StackPointerUse = 11
number_of StackObject = 12
number_of TooMany = 13
number_of BlockEnd = 14

-- the name of a kind
abbrev pub name_of : RefusalKind → List ℕ
name_of BadByte = codes "BadByte"
name_of UnclosedString = codes "UnclosedString"
name_of BadDocument = codes "BadDocument"
name_of BadLine = codes "BadLine"
name_of UnknownOpcode = codes "UnknownOpcode"
name_of BadOperands = codes "BadOperands"
name_of UnknownBlock = codes "UnknownBlock"
name_of DuplicateBlock = codes "DuplicateBlock"
name_of DuplicateNumber = codes "DuplicateNumber"
name_of VirtualRegister = codes "VirtualRegister"
name_of StackPointerUse = codes "StackPointerUse"
name_of StackObject = codes "StackObject"
name_of TooMany = codes "TooMany"
name_of BlockEnd = codes "BlockEnd"
