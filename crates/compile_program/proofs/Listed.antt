-- The variables of a program that was read are no more than its items may be.
use Rattle.std.proofs.Common.{◌≡◌, ◌*◌, ◌≤◌, List, [], ◌∷◌, map, length, ap, arith, length-append}
use Rattle.std.specs.Prelude.{All}
use Rattle.std.proofs.lemmas.List.Elements.{All-head, All-tail}
use Rattle.compile_function.proofs.Listed.{variables_few}
use Rattle.read_metadata.specs.Maps.{Maps}
use Rattle.compile_function.specs.read_body.Limits.{MAX_ITEMS}
use Rattle.mir_func.specs.Function.{Function}
use Rattle.mir_func.specs.Sound.{items_of}
use Rattle.compile_function.specs.read_program.declared.closing.Parsed.{Parsed}
use Rattle.compile_function.specs.read_proof.Read.{IsReadFunction}
use Rattle.compile_function.specs.dwarf_line_table.declared.source_and_code.SourceAndCode.{SourceAndCode}
use Rattle.compile_function.specs.dwarf_unit.Unit.{program_variables, function_variables}

pub program_few : (meta : Maps) (compiled : List SourceAndCode) (functions : List Parsed) → map (λ c. c.source.now) compiled ≡ map (λ p. p.func) functions →
    All (λ (p : Parsed). IsReadFunction meta p.func) functions → length (program_variables compiled) ≤ length functions * MAX_ITEMS
program_few meta [] functions same read = omega arith
program_few meta (c ∷ cs) [] same read = absurd cc
program_few meta (c ∷ cs) (p ∷ ps) same read =
    let one : c.source.now ≡ p.func = cc in
    let others : map (λ x. x.source.now) cs ≡ map (λ q. q.func) ps = cc in
    let R : Parsed → Type 0 = λ q. IsReadFunction meta q.func in
    let few = (All-head R p ps read).few_items in
    let first = variables_few c.source.now.blocks in
    let items : length (items_of c.source.now.blocks) ≡ length (items_of p.func.blocks) = ap (λ (f : Function). length (items_of f.blocks)) one in
    let rest = program_few meta cs ps others (All-tail R p ps read) in
    let both = length-append (function_variables c) (program_variables cs) in
    omega (arith, few, first, items, rest, both)
