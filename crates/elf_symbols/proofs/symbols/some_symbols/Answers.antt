use Rattle.std.proofs.Common.{◌≡◌, ℕ, suc, ◌+◌, ◌*◌, List, [], ◌∷◌, ◌++◌, drop, ap, ◌∙◌, arith}
use Rattle.elf_object.specs.Standard.{SYM_SIZE}
use Rattle.elf_object.specs.declared.symbols.Symbol.{Symbol}
use Rattle.elf_symbols.specs.steps.Told.{symbol_told, symbols_told}
use Rattle.elf_symbols.proofs.symbols.some_symbols.Goals as goal

pub loop-index-preserved : goal.loop-index-preserved
loop-index-preserved c =
    let index = c.loop-index.index in
    let names = c.args.names.now in
    let table = c.args.table.now in
    let start : 24 * (index + 1) ≡ SYM_SIZE * suc index = omega arith in
    let next : suc index ≡ index + 1 = omega arith in
    let told = c.in_ok-symbol.ensures ∙ ap (λ (bytes : List ℕ). symbol_told names bytes) c.entry.ensures.bytes
    ∙ ap (λ (n : ℕ). symbol_told names (drop n table)) start in
    c.in_ok-push.ensures.ok ∙ ap (λ (ss : List Symbol). ss ++ c.in_ok-symbol.field-0 ∷ []) c.loop-index.invariant
    ∙ ap (λ (s : Symbol). symbols_told names table index ++ s ∷ []) told ∙ ap (λ (n : ℕ). symbols_told names table n) next
