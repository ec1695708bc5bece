-- The printed lines of debug value substitutions, and how they parse.
use Rattle.std.specs.Prelude.{◌≡◌, ℕ, cond, is_some, false, codes, List, [], ◌∷◌, ◌++◌, map, All, None}
use Rattle.std.specs.Fmt.{decimal}
use Rattle.mir_func.specs.declared.debug_substitution.DebugSubstitution.{DebugSubstitution}
use Rattle.mir_func.specs.Resolve.{entry_of}
use Rattle.read_declarations.specs.Substitutions.{substitutions_of}
use Rattle.mir_func_printer.specs.FuncText.{is_nothing}
use Rattle.read_proof.specs.Read.{EntryIsLimited}
use Rattle.readback_functions.specs.Document.{lines_from}

-- the line of one substitution
abbrev pub entry_line : DebugSubstitution → List ℕ
entry_line e =
    codes "  - { srcinst: " ++ (decimal e.src.number ++ (codes ", srcop: " ++ (decimal e.src.operand ++ (codes ", dstinst: " ++
    (decimal e.dst.number ++ (codes ", dstop: " ++ (decimal e.dst.operand ++ (codes ", subreg: " ++ (decimal e.subreg ++ codes " }")))))))))

-- all lines of substitutions, with the key `debugValueSubstitutions`; none if there are no substitutions
abbrev pub substitution_lines : List DebugSubstitution → List (List ℕ)
substitution_lines es = cond (is_nothing es) [] (codes "debugValueSubstitutions:" ∷ map entry_line es)

-- Each entry's source pair has no substitution in `before` or earlier in the list.
abbrev pub AreNew : (before : List DebugSubstitution) → List DebugSubstitution → Type 0
AreNew before [] = Unit {0}
AreNew before (e ∷ es) = (is_some (entry_of before e.src) ≡ false) × AreNew (before ++ e ∷ []) es

-- The printed lines of substitutions parse to these substitutions, if each number is within its limit and no source pair has two substitutions.
abbrev pub SubstitutionsReadBack : Type 0
SubstitutionsReadBack = (n : ℕ) (es : List DebugSubstitution) → All EntryIsLimited es → AreNew [] es →
    substitutions_of (lines_from n (substitution_lines es)) ≡ record { entries = es; refused = None }
