-- The half of an address that an instruction has, by the place of its operand.
use Rattle.std.specs.Prelude.{List, [], ◌∷◌, Option, Some, None}
use Rattle.rv64_instr.specs.declared.operand.Operand.{Operand}
use Rattle.rv64_instr.specs.declared.operand.Operand.TheVariants.{Part}
use Rattle.rv64_instr.specs.declared.symbol.LinkedAddress.{LinkedAddress}
use Rattle.rv64_instr.specs.declared.symbol.Half.{Half}

-- the half that the first operand is, with its address
abbrev pub first_part : List Operand → Option (Half × LinkedAddress)
first_part (Part half y ∷ rest) = Some (half, y)
first_part _ = None

-- the half that the second operand is, or else the third
abbrev pub early_part : List Operand → Option (Half × LinkedAddress)
early_part [] = None
early_part (a ∷ []) = None
early_part (a ∷ Part half y ∷ rest) = Some (half, y)
early_part (a ∷ b ∷ rest) = first_part rest
