-- Texts with commas between them, after a lead if there are any.
use Rattle.std.specs.Prelude.{ℕ, Bool, true, false, not, List, [], ◌∷◌, ◌++◌, filter, map}
use Rattle.rv64_instr.specs.declared.operand.Operand.{Operand}
use Rattle.mir_printer.specs.Spelling.{comma_separated, is_definition, operand_text}

-- the definitions, or all but them
abbrev pub selects : Bool → Operand → Bool
selects true o = is_definition o
selects false o = not (is_definition o)

-- the texts of the operands that are selected
abbrev pub selected_texts : Bool → List Operand → List (List ℕ)
selected_texts definitions operands = map operand_text (filter (selects definitions) operands)

abbrev pub listed_text : List ℕ → List (List ℕ) → List ℕ
listed_text lead [] = []
listed_text lead (t ∷ ts) = lead ++ comma_separated (t ∷ ts)

abbrev pub has_any : List (List ℕ) → Bool
has_any [] = false
has_any (t ∷ ts) = true
