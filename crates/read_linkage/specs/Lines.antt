-- The linkage of functions: behind `define` a line may have the word of a linkage type, and its first symbol outside quotes names the function, with a
-- subprogram or without. (LLVM Language Reference Manual, "Linkage Types" and "Functions".)
use Rattle.std.specs.Prelude.{ℕ, ◌==◌, ◌&&◌, if◌then◌else◌, slice_range, codes, take, drop, List, [], ◌∷◌, ◌++◌, Option, Some, None}
use Rattle.std.specs.List.{prefix_len}
use Rattle.std.specs.Str.{bytes_eq}
use Rattle.read_metadata.specs.Definition.{from_symbol, symbol_len, name_of}
use Rattle.read_metadata.specs.Line.{behind_spaces}
use Rattle.read_metadata.specs.read_lexer.Bytes.{is_blank, word_len}
use Rattle.read_metadata.specs.read_lexer.declared.line.Line.{Line}
use Rattle.read_linkage.specs.declared.linkage.Linkage.{Linkage}
use Rattle.read_linkage.specs.declared.linkage.Linkage.TheVariants.{Local, Weak}
use Rattle.read_linkage.specs.declared.linkage.LinkedName.{LinkedName}

-- the linkage that a word names, if it names one other than the usual
unfoldable pub linkage_word : List ℕ → Option Linkage
linkage_word word =
    if bytes_eq word (codes "internal") then Some Local
    else (if bytes_eq word (codes "private") then Some Local
    else (if bytes_eq word (codes "weak") then Some Weak
    else (if bytes_eq word (codes "weak_odr") then Some Weak
    else (if bytes_eq word (codes "linkonce") then Some Weak
    else (if bytes_eq word (codes "linkonce_odr") then Some Weak
    else None)))))

-- the word at the front
abbrev pub front_word : List ℕ → List ℕ
front_word text = take (word_len text) text

-- the linkage that the first word names, behind one or more spaces or tabs
abbrev pub linkage_behind : List ℕ → Option Linkage
linkage_behind text = if prefix_len is_blank text == 0 then None else linkage_word (front_word (drop (prefix_len is_blank text) text))

-- the name of a symbol of a length at the front, with a linkage
abbrev pub with_name : (symbol : List ℕ) → Option ℕ → Linkage → Option LinkedName
with_name symbol None linkage = None
with_name symbol (Some len) linkage = Some (record { name = name_of (slice_range symbol 1 len); linkage = linkage })

-- the function of a line with a linkage, if there is one
abbrev pub named_in : (line : List ℕ) → Option Linkage → Option LinkedName
named_in line None = None
named_in line (Some linkage) = with_name (from_symbol line) (symbol_len (from_symbol line)) linkage

-- the function that a line defines with its linkage, if that isn't the usual one: the line begins with `define`
abbrev pub linked_name : (line : List ℕ) → Option LinkedName
linked_name (a ∷ b ∷ c ∷ d ∷ e ∷ f ∷ behind) =
    if a == 100 && (b == 101 && (c == 102 && (d == 105 && (e == 110 && f == 101))))
    then named_in (a ∷ b ∷ c ∷ d ∷ e ∷ f ∷ behind) (linkage_behind behind) else None
linked_name line = None

-- functions with one more, if there is one
abbrev pub with_linked : List LinkedName → Option LinkedName → List LinkedName
with_linked linkages None = linkages
with_linked linkages (Some linked) = linkages ++ linked ∷ []

abbrev pub linkages_from : List LinkedName → List Line → List LinkedName
linkages_from before [] = before
linkages_from before (line ∷ lines) = linkages_from (with_linked before (linked_name (behind_spaces line.text))) lines

-- the functions that lines define with such a linkage, in their order
abbrev pub linkages_of : List Line → List LinkedName
linkages_of lines = linkages_from [] lines

-- the linkage of the first one of a name
abbrev pub linkage_named : List LinkedName → (name : List ℕ) → Option Linkage
linkage_named [] name = None
linkage_named (linked ∷ rest) name = if bytes_eq linked.name name then Some linked.linkage else linkage_named rest name
