-- The entries of `debugValueSubstitutions`. (LLVM, "Instruction referencing for debug info".)
use Rattle.std.specs.Prelude.{ℕ, codes, List, [], ◌∷◌, Option, Some, None}
use Rattle.read_lexer.specs.declared.line.Line.{Line}
use Rattle.mir_substitution.specs.mir_func.declared.debug_substitution.OperandPair.{OperandPair}
use Rattle.mir_substitution.specs.mir_func.declared.debug_substitution.DebugSubstitution as func
use Rattle.mir_substitution.specs.Added.{added}
use Rattle.read_refusal.specs.First.{earlier}
use Rattle.read_declarations.specs.declared.entry.MappingField.{MappingField}
use Rattle.read_declarations.specs.declared.entry.MappingEntry.{MappingEntry}
use Rattle.read_declarations.specs.declared.substitutions.SubstitutionsRead.{SubstitutionsRead}
use Rattle.read_declarations.specs.FlowMapping.{bad_line}
use Rattle.read_declarations.specs.Field.{needed, given}
use Rattle.read_declarations.specs.List.{list_of}

-- a pair of an instruction number and an operand index, if both could be read
abbrev pub pair_of : Option ℕ → Option ℕ → Option OperandPair
pair_of (Some number) (Some operand) = Some (record { number = number; operand = operand })
pair_of _ _ = None

-- a substitution, if all parts of it could be read
abbrev pub substitution_with : Option OperandPair → Option OperandPair → Option ℕ → Option func.DebugSubstitution
substitution_with (Some src) (Some dst) (Some subreg) = Some (record { src = src; dst = dst; subreg = subreg })
substitution_with _ _ _ = None

-- The substitution with these fields: `srcinst`, `srcop`, `dstinst` and `dstop` are required, and `subreg` is 0 by default.
abbrev pub substitution_of : List Line → List MappingField → Option func.DebugSubstitution
substitution_of lines fields =
    substitution_with (pair_of (needed lines (codes "srcinst") fields) (needed lines (codes "srcop") fields))
    (pair_of (needed lines (codes "dstinst") fields) (needed lines (codes "dstop") fields)) (given lines (codes "subreg") 0 fields)

-- the substitutions after one more entry: it is ignored if its source pair has one already, and refused as a bad line if it couldn't be read
abbrev pub substituted : SubstitutionsRead → ℕ → Option func.DebugSubstitution → SubstitutionsRead
substituted read line (Some e) = record read { entries = added read.entries e }
substituted read line None = record read { refused = earlier read.refused (Some (bad_line line)) }

-- the substitutions and the first refusal after further entries
unfoldable pub substitutions_behind : List Line → SubstitutionsRead → List MappingEntry → SubstitutionsRead
substitutions_behind lines read [] = read
substitutions_behind lines read (e ∷ es) = substitutions_behind lines (substituted read e.line (substitution_of lines e.fields)) es

-- the substitutions in the lines of `debugValueSubstitutions`, and the first refusal
abbrev pub substitutions_of : List Line → SubstitutionsRead
substitutions_of lines = substitutions_behind lines (record { entries = []; refused = (list_of lines).refused }) (list_of lines).entries
