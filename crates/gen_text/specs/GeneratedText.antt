-- The text of a generated function. (LLVM, Machine IR (MIR) Format Reference Manual, "High Level Structure"; LLVM Language Reference, "Specialized
-- Metadata Nodes".)
use Rattle.std.specs.Prelude.{ℕ, List, [], ◌∷◌, ◌++◌, codes}
use Rattle.std.specs.Fmt.{decimal}
use Rattle.mir_func_printer.specs.FuncText.{func_text}
use Rattle.gen_function.specs.Generator.{generated}

-- the lines up to that of the subprogram
unfoldable pub head_text : List ℕ
head_text = codes "--- |\n" ++ codes "  define void @gen() !dbg !2 { ret void }\n"
    ++ codes "  !1 = !DIFile(filename: \"gen.c\", directory: \"/gen\")\n"
    ++ codes "  !2 = distinct !DISubprogram(name: \"gen\", file: !1, line: 1)\n"

-- a variable: its node, and its name of one letter
unfoldable pub variable_line : (node letter : ℕ) → List ℕ
variable_line n c = codes "  !" ++ decimal n ++ codes " = !DILocalVariable(name: \"" ++ c ∷ [] ++ codes "\", scope: !2, file: !1, line: 1)\n"

-- the metadata; the four variables have the nodes !10 to !13
unfoldable pub metadata_text : List ℕ
metadata_text = head_text ++ variable_line 10 97 ++ variable_line 11 98 ++ variable_line 12 99 ++ variable_line 13 100 ++ codes "...\n"

-- The MIR file of the function that is generated from a number, with `blocks` blocks: the metadata, and the function's document.
abbrev pub generated_text : (number blocks : ℕ) → List ℕ
generated_text number blocks = metadata_text ++ func_text (generated number blocks) []
