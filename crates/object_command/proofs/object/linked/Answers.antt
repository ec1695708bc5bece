use Rattle.std.specs.Prelude.{Option, Some, None, IsNone, is_some}
use Rattle.std.proofs.Common.{◌≡◌, ◌≤◌, ◌^◌, ℕ, false, length, List, subst, sym, refl, true≢false}
use Rattle.elf_object.specs.declared.symbols.Symbol.{Symbol}
use Rattle.elf_object.specs.Symbols.{symbol_names, LocalsFirst}
use Rattle.object_command.proofs.GlobalSymbols.{symbols_first}
use Rattle.object_command.proofs.SizeLemmas.{long_names}
use Rattle.object_command.proofs.object.linked.Goals as goal

none_of : (size : Option ℕ) → is_some size ≡ false → IsNone size
none_of None e = refl
none_of (Some n) e = absurd (true≢false e)

pub returns-then-is_none-clause-too_large : goal.returns-then-is_none-clause-too_large
returns-then-is_none-clause-too_large c = λ _.
    long_names c.args.output
    (subst (λ (ss : List Symbol). 2 ^ 31 ≤ length (symbol_names ss)) c.requires.symbols
    (c.symbol_names_size.ensures.none.0 (none_of c.symbol_names_size.result c.if-is_none.ensures)))

pub push_symbols-requires-clause-locals : goal.push_symbols-requires-clause-locals
push_symbols-requires-clause-locals c =
    subst (λ (ss : List Symbol). LocalsFirst ss) (sym c.requires.symbols) (symbols_first c.args.output.functions)
