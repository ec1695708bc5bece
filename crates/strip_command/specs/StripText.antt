-- The text of a program without its debug items.
use Rattle.std.specs.Prelude.{ℕ, List, []}
use Rattle.std.specs.List.{flat_map}
use Rattle.mir_func.specs.Strip.{stripped}
use Rattle.mir_func_printer.specs.FuncText.{linked_func_text}
use Rattle.read_program.specs.declared.closing.Parsed.{Parsed}

-- the document of a function without its debug items and substitutions, with the constants of its pool and what it exposes
abbrev pub stripped_func_text : Parsed → List ℕ
stripped_func_text p = linked_func_text (stripped p.func) p.pool [] p.exposure

-- The documents of functions without their debug items, one after the other.
abbrev pub stripped_text : List Parsed → List ℕ
stripped_text functions = flat_map stripped_func_text functions
