-- The keywords. (LLVM, Machine IR (MIR) Format Reference Manual, "Register Flags" and "Comments"; LLVM, "Instruction referencing for debug info".)
use Rattle.std.specs.Prelude.{ℕ, Bool, true, false, ◌&&◌, ◌||◌, ◌==◌, if◌then◌else◌, codes, take, drop, List, [], ◌∷◌, Option, Some, None}
use Rattle.std.specs.List.{prefix_len}
use Rattle.std.specs.Char.{is_ascii_digit, is_ascii_lowercase, is_ascii_uppercase}
use Rattle.std.specs.Str.{bytes_eq}
use Rattle.read_token.specs.declared.lexeme.Flag.{Flag}
use Rattle.read_token.specs.declared.lexeme.Flag.TheVariants.{Plain, Implicit, ImplicitDef}
use Rattle.read_token.specs.declared.lexeme.Word.{Word}
use Rattle.read_token.specs.declared.lexeme.Word.TheVariants as words
use Rattle.read_token.specs.Number.{limited, is_number}

-- `f` of the value, or `other` if there is none
abbrev pub case_of : {A B : Type 0} → Option A → (A → B) → B → B
case_of None f other = other
case_of (Some x) f other = f x

-- whether a word is a register flag that is ignored
unfoldable pub is_plain : List ℕ → Bool
is_plain text =
    bytes_eq text (codes "renamable") || (bytes_eq text (codes "killed") || (bytes_eq text (codes "dead") || (bytes_eq text (codes "def")
    || (bytes_eq text (codes "undef") || (bytes_eq text (codes "internal") || (bytes_eq text (codes "early-clobber")
    || bytes_eq text (codes "debug-use")))))))

-- the flag of a word before a register
unfoldable pub flag_of : List ℕ → Option Flag
flag_of text =
    if bytes_eq text (codes "implicit") then Some Implicit
    else (if bytes_eq text (codes "implicit-def") then Some ImplicitDef
    else (if is_plain text then Some Plain
    else None))

-- the type `iN` of integers
abbrev pub is_integer_type : List ℕ → Bool
is_integer_type [] = false
is_integer_type (b ∷ bs) = b == 105 && is_number bs

-- whether a text is the name of a type that may stand before a literal (LLVM Language Reference, "Simple Constants")
abbrev pub is_type : List ℕ → Bool
is_type text =
    bytes_eq text (codes "half") || (bytes_eq text (codes "float") || (bytes_eq text (codes "double") || (bytes_eq text (codes "fp128")
    || (bytes_eq text (codes "ptr") || is_integer_type text))))

-- the keyword of calls that don't return, of parts of addresses or of literals that a text is, if it is one (LLVM, RISC-V: `target-flags`)
abbrev pub linked_keyword_of : List ℕ → Option Word
linked_keyword_of text =
    if bytes_eq text (codes "noreturn") then Some words.NoReturn
    else (if bytes_eq text (codes "riscv-hi") then Some words.HighPart
    else (if bytes_eq text (codes "riscv-lo") then Some words.LowPart
    else (if is_type text then Some words.TypeName
    else None)))

-- the keyword that a text is, if it is one
unfoldable pub keyword_of : List ℕ → Option Word
keyword_of text =
    if bytes_eq text (codes "debug-location") then Some words.Location
    else (if bytes_eq text (codes "debug-instr-number") then Some words.InstrNumber
    else (if bytes_eq text (codes "dbg-instr-ref") then Some words.InstrRef
    else (if bytes_eq text (codes "DW_OP_LLVM_arg") then Some words.Argument
    else (if bytes_eq text (codes "DW_OP_LLVM_fragment") then Some words.Fragment
    else (if bytes_eq text (codes "target-flags") then Some words.TargetFlags
    else (if bytes_eq text (codes "tied-def") then Some words.TiedDef
    else (if bytes_eq text (codes "line") then Some words.Line
    else (if bytes_eq text (codes "column") then Some words.Column
    else (if bytes_eq text (codes "scope") then Some words.Scope
    else (if bytes_eq text (codes "inlinedAt") then Some words.InlinedAt
    else linked_keyword_of text))))))))))

-- whether a text is empty, or a dot and a name of at least one byte
abbrev pub is_name_behind : List ℕ → Bool
is_name_behind [] = true
is_name_behind (b ∷ []) = false
is_name_behind (b ∷ c ∷ cs) = b == 46

-- the number at the front of a text that is digits, at least one, and then nothing or a dot and a name
unfoldable pub named_number : List ℕ → Option ℕ
named_number text =
    if prefix_len is_ascii_digit text == 0 then None
    else (if is_name_behind (drop (prefix_len is_ascii_digit text) text) then Some (limited (take (prefix_len is_ascii_digit text) text)) else None)

-- the number N in `bb.N` and `bb.N.name`
abbrev pub block_of : List ℕ → Option ℕ
block_of (a ∷ b ∷ c ∷ bs) = if a == 98 && (b == 98 && c == 46) then named_number bs else None
block_of text = None

-- a word that is no keyword, by the case of its first letter
abbrev pub initial_of : List ℕ → Word
initial_of [] = words.Underscore
initial_of (b ∷ bs) = if is_ascii_lowercase b then words.Lower else (if is_ascii_uppercase b then words.Upper else words.Underscore)

-- the meaning of a word
unfoldable pub word_of : List ℕ → Word
word_of text = case_of (flag_of text) words.Flag (case_of (keyword_of text) (λ w. w) (case_of (block_of text) words.Block (initial_of text)))
