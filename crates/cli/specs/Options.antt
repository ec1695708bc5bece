-- The options of a command.
use Rattle.std.specs.Prelude.{◌≡◌, ℕ, true, false, List, [], ◌∷◌, ◌++◌, codes, map, Some, None}
use Rattle.std.specs.List.{join_with_byte}
use Rattle.std.specs.Fmt.{decimal}
use Rattle.cli_numbers.specs.Numbers.{AreListed}
use Rattle.pass_list.specs.Names.{text_of, AreDistinct}
use Rattle.cli_numbers.specs.Reserve.{register_name, IsReserveText}
use Rattle.cli_numbers.specs.Symbols.{pair_text, IsAddressText}
use Rattle.rv64_instr.specs.declared.symbol.Symbol.{Symbol}
use Rattle.cli.specs.declared.option.CommandOption.{CommandOption}
use Rattle.cli.specs.declared.option.CommandOption.TheVariants.{Passes, Reserve, Arguments, Answers, Frame, Inline, Linked, Linkable, FloatAbi, Symbols}
use Rattle.cli.specs.declared.options.Options.{Options}

-- the text of registers: their names, separated by commas
abbrev pub registers_text : List ℕ → List ℕ
registers_text registers = join_with_byte 44 (map register_name registers)

-- the text of numbers: each in decimal digits, separated by commas
abbrev pub numbers_text : List ℕ → List ℕ
numbers_text values = join_with_byte 44 (map decimal values)

-- the text of symbols and their addresses, separated by commas
abbrev pub symbols_text : List (Symbol × ℕ) → List ℕ
symbols_text pairs = join_with_byte 44 (map pair_text pairs)

-- the word for an option and its value, if it has one
abbrev pub word_of : CommandOption → List ℕ
word_of (Passes list) = codes "--passes=" ++ text_of list
word_of (Reserve registers) = codes "--reserve=" ++ registers_text registers
word_of (Arguments values) = codes "--args=" ++ numbers_text values
word_of (Answers values) = codes "--answers=" ++ numbers_text values
word_of Frame = codes "--frame"
word_of Inline = codes "--inline"
word_of Linked = codes "--linked"
word_of Linkable = codes "--linkable"
word_of FloatAbi = codes "--abi=lp64d"
word_of (Symbols pairs) = codes "--symbols=" ++ symbols_text pairs

-- the values that an option may have: passes, each once; one or more registers that may be reserved, each once; one to eight numbers of 64 bits; one to 64
-- numbers of 64 bits; the addresses of one or more symbols, each once
abbrev pub IsAllowed : CommandOption → Type 0
IsAllowed (Passes list) = AreDistinct list
IsAllowed (Reserve registers) = IsReserveText (registers_text registers) registers
IsAllowed (Arguments values) = AreListed 8 (numbers_text values) values
IsAllowed (Answers values) = AreListed 64 (numbers_text values) values
IsAllowed Frame = Unit {0}
IsAllowed Inline = Unit {0}
IsAllowed Linked = Unit {0}
IsAllowed Linkable = Unit {0}
IsAllowed FloatAbi = Unit {0}
IsAllowed (Symbols pairs) = IsAddressText (symbols_text pairs) pairs

-- the word is this option, with a value that it may have
abbrev pub IsWordOf : CommandOption → List ℕ → Type 0
IsWordOf option word = (word ≡ word_of option) × IsAllowed option

-- no option is given
abbrev pub none_given : Options
none_given = record {
  passes = None;
  reserve = None;
  arguments = None;
  answers = None;
  frame = false;
  inline = false;
  linked = false;
  linkable = false;
  float_abi = false;
  symbols = None;
}

-- the options after adding one that isn't among them yet
abbrev pub IsWith : Options → CommandOption → Options → Type 0
IsWith given (Passes list) next = (given.passes ≡ None) × (next ≡ record given { passes = Some list })
IsWith given (Reserve registers) next = (given.reserve ≡ None) × (next ≡ record given { reserve = Some registers })
IsWith given (Arguments values) next = (given.arguments ≡ None) × (next ≡ record given { arguments = Some values })
IsWith given (Answers values) next = (given.answers ≡ None) × (next ≡ record given { answers = Some values })
IsWith given Frame next = (given.frame ≡ false) × (next ≡ record given { frame = true })
IsWith given Inline next = (given.inline ≡ false) × (next ≡ record given { inline = true })
IsWith given Linked next = (given.linked ≡ false) × (next ≡ record given { linked = true })
IsWith given Linkable next = (given.linkable ≡ false) × (next ≡ record given { linkable = true })
IsWith given FloatAbi next = (given.float_abi ≡ false) × (next ≡ record given { float_abi = true })
IsWith given (Symbols pairs) next = (given.symbols ≡ None) × (next ≡ record given { symbols = Some pairs })

-- the options after adding the one in a word, which isn't among them yet
pub record GivesOption (given : Options) (word : List ℕ) (next : Options) : Type 0 where
  pub option : CommandOption
  pub spelled : word ≡ word_of option
  pub allowed : IsAllowed option
  pub with : IsWith given option next

-- the options after adding those in words, one after the other, each at most once
abbrev pub GiveOptions : Options → List (List ℕ) → Options → Type 0
GiveOptions given [] whole = whole ≡ given
GiveOptions given (word ∷ words) whole = (next : Options) × GivesOption given word next × GiveOptions next words whole
