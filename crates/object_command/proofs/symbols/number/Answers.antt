-- The index of a symbol is the place of its name.
use Rattle.std.specs.List.{position_or_len}
use Rattle.std.proofs.Common.{◌≡◌, ℕ, ◌++◌, List, ap, sym, ◌∙◌, arith}
use Rattle.dwarf_line_table.specs.Files.{is_name, with_new}
use Rattle.elf_object.specs.declared.symbols.Symbol.{Symbol}
use Rattle.object_command.specs.Object.{have_one_name}
use Rattle.object_command.proofs.SymbolLemmas.{names_of, place_within, index_is, names_are, joins, stays}
use Rattle.object_command.proofs.symbols.number.Goals as goal

-- what the table of names says, of the symbol's own name
module _ (s : Symbol) (names next : List (List ℕ)) (name : List ℕ) (index : ℕ) (own : name ≡ s.name) where
  known : next ≡ with_new is_name names name → next ≡ with_new is_name names s.name
  known is = is ∙ ap (λ n. with_new is_name names n) own

  place : ((more : List (List ℕ)) → index ≡ position_or_len (is_name name) (next ++ more)) → (more : List (List ℕ))
      → index ≡ position_or_len (is_name s.name) (next ++ more)
  place is more = is more ∙ ap (λ n. position_or_len (is_name n) (next ++ more)) own

pub returns-in_ok-push-clause-names : goal.returns-in_ok-push-clause-names
returns-in_ok-push-clause-names c =
    let own = c.as_slice.ensures in
    let names = c.args.names.now in
    let next = c.number.new.self in
    let known_is = known c.args.symbol names next c.as_slice.result.now c.in_ok-index.index own c.in_ok-index.ensures.known in
    let place_is = place c.args.symbol names next c.as_slice.result.now c.in_ok-index.index own c.in_ok-index.ensures.number in
    names_are c.args.symbol c.args.symbols.now names next c.in_ok-index.index c.requires.names known_is place_is
    ∙ ap (λ (ss : List Symbol). names_of ss)
    (joins c.args.symbol c.args.symbols.now names next c.in_ok-index.index c.requires.names known_is place_is (c.if-index-len.true ∙ c.len.ensures)
    ∙ sym c.in_ok-push.ensures.ok)

pub returns-in_ok-push-clause-symbols : goal.returns-in_ok-push-clause-symbols
returns-in_ok-push-clause-symbols c =
    let own = c.as_slice.ensures in
    let names = c.args.names.now in
    let next = c.number.new.self in
    let known_is = known c.args.symbol names next c.as_slice.result.now c.in_ok-index.index own c.in_ok-index.ensures.known in
    let place_is = place c.args.symbol names next c.as_slice.result.now c.in_ok-index.index own c.in_ok-index.ensures.number in
    c.in_ok-push.ensures.ok
    ∙ sym (joins c.args.symbol c.args.symbols.now names next c.in_ok-index.index c.requires.names known_is place_is (c.if-index-len.true ∙ c.len.ensures))

pub returns-in_ok-push-clause-index : goal.returns-in_ok-push-clause-index
returns-in_ok-push-clause-index c = λ more.
    let own = c.as_slice.ensures in
    let names = c.args.names.now in
    let next = c.number.new.self in
    let known_is = known c.args.symbol names next c.as_slice.result.now c.in_ok-index.index own c.in_ok-index.ensures.known in
    let place_is = place c.args.symbol names next c.as_slice.result.now c.in_ok-index.index own c.in_ok-index.ensures.number in
    index_is c.args.symbol c.args.symbols.now names next c.in_ok-index.index c.requires.names known_is place_is more
    ∙ ap (λ (ss : List Symbol). position_or_len (have_one_name c.args.symbol) (ss ++ more))
    (joins c.args.symbol c.args.symbols.now names next c.in_ok-index.index c.requires.names known_is place_is (c.if-index-len.true ∙ c.len.ensures)
    ∙ sym c.in_ok-push.ensures.ok)

pub returns-else-index-len-clause-names : goal.returns-else-index-len-clause-names
returns-else-index-len-clause-names c =
    let own = c.as_slice.ensures in
    let names = c.args.names.now in
    let next = c.number.new.self in
    let known_is = known c.args.symbol names next c.as_slice.result.now c.in_ok-index.index own c.in_ok-index.ensures.known in
    let place_is = place c.args.symbol names next c.as_slice.result.now c.in_ok-index.index own c.in_ok-index.ensures.number in
    names_are c.args.symbol c.args.symbols.now names next c.in_ok-index.index c.requires.names known_is place_is
    ∙ ap (λ (ss : List Symbol). names_of ss)
    (stays c.args.symbol c.args.symbols.now names next c.in_ok-index.index c.requires.names known_is place_is
    (λ e. c.if-index-len.false (e ∙ sym c.len.ensures)))

pub returns-else-index-len-clause-symbols : goal.returns-else-index-len-clause-symbols
returns-else-index-len-clause-symbols c =
    let own = c.as_slice.ensures in
    let names = c.args.names.now in
    let next = c.number.new.self in
    let known_is = known c.args.symbol names next c.as_slice.result.now c.in_ok-index.index own c.in_ok-index.ensures.known in
    let place_is = place c.args.symbol names next c.as_slice.result.now c.in_ok-index.index own c.in_ok-index.ensures.number in
    sym (stays c.args.symbol c.args.symbols.now names next c.in_ok-index.index c.requires.names known_is place_is
    (λ e. c.if-index-len.false (e ∙ sym c.len.ensures)))

pub returns-else-index-len-clause-index : goal.returns-else-index-len-clause-index
returns-else-index-len-clause-index c = λ more.
    let own = c.as_slice.ensures in
    let names = c.args.names.now in
    let next = c.number.new.self in
    let known_is = known c.args.symbol names next c.as_slice.result.now c.in_ok-index.index own c.in_ok-index.ensures.known in
    let place_is = place c.args.symbol names next c.as_slice.result.now c.in_ok-index.index own c.in_ok-index.ensures.number in
    index_is c.args.symbol c.args.symbols.now names next c.in_ok-index.index c.requires.names known_is place_is more
    ∙ ap (λ (ss : List Symbol). position_or_len (have_one_name c.args.symbol) (ss ++ more))
    (stays c.args.symbol c.args.symbols.now names next c.in_ok-index.index c.requires.names known_is place_is
    (λ e. c.if-index-len.false (e ∙ sym c.len.ensures)))

pub returns-else-index-len-clause-few : goal.returns-else-index-len-clause-few
returns-else-index-len-clause-few c =
    let own = c.as_slice.ensures in
    let names = c.args.names.now in
    let next = c.number.new.self in
    let known_is = known c.args.symbol names next c.as_slice.result.now c.in_ok-index.index own c.in_ok-index.ensures.known in
    let place_is = place c.args.symbol names next c.as_slice.result.now c.in_ok-index.index own c.in_ok-index.ensures.number in
    omega (arith, place_within c.args.symbol c.args.symbols.now names next c.in_ok-index.index c.requires.names known_is place_is, c.requires.few)
