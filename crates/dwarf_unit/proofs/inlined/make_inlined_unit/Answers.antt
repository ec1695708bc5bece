use Rattle.std.proofs.Common.{rules, ◌≡◌, ℕ, ◌+◌, ◌-◌, ◌<◌, List, take, drop, get_or, length, subst, refl, sym, ap, ◌∙◌, arith}
use Rattle.std.specs.Prelude.{All, nat_eq}
use Rattle.std.specs.List.{flat_map}
use Rattle.std.proofs.lemmas.List.{drop_all, get_or_default}
use Rattle.dwarf_info.specs.declared.inlined.InlinedUnit.{InlinedUnit}
use Rattle.dwarf_info.specs.Inlined.{IsInlinedFunction}
use Rattle.dwarf_line_table.specs.declared.source_and_code.SourceAndCode.{SourceAndCode}
use Rattle.dwarf_line_table.specs.Files.{first_uses}
use Rattle.dwarf_line_table.specs.Program.{scope_number}
use Rattle.mir_func.specs.declared.variable.VarId.{VarId}
use Rattle.dwarf_unit.specs.Unit.{type_uses, function_variables}
use Rattle.dwarf_unit.specs.Inlined.{call_scopes}
use Rattle.dwarf_unit.proofs.InlinedFunctions.{UnitSoFar, unit_starts, unit_here, lists_room, own_numbers, unit_next, unit_made}
use Rattle.dwarf_unit.proofs.Complete.{unit_complete}
use Rattle.dwarf_unit.proofs.inlined.make_inlined_unit.Goals as goal

pub loop-index-init : goal.loop-index-init
loop-index-init c =
    rw (c.new-types.ensures, c.new-subprograms.ensures, c.new-made.ensures) (unit_starts _ _ _ _ _ c.requires.instances c.requires.numbers)

pub overflow_cast-list : goal.overflow_cast-list
overflow_cast-list c =
    let i = c.loop-index.index in
    let f = c.index-functions-index.result in
    let is = c.as_slice-within.result.now in
    let there : i < length c.args.instances.now = omega (arith, c.loop-index-test.true, c.requires.instances) in
    let own : is ≡ get_or c.args.instances.now i is =
    c.as_slice-within.ensures ∙ c.index-instances-index.is ∙ get_or_default c.args.instances.now i c.index-instances-index.result is there in
    let so =
    unit_here _ _ _ _ _ _ _ c.args.functions.now c.args.instances.now _ i f is c.loop-index.invariant c.loop-index-test.true c.index-functions-index.is own
    c.requires.instances in
    let vs : c.as_slice-in-loop-index.result.now ≡ function_variables f = search rules in
    let many : c.len.result ≡ length (function_variables f) = search (rules, vs) in
    let room = lists_room _ _ _ _ _ _ _ _ _ _ _ _ _ _ so in
    omega (arith, room, many, c.requires.lists)

pub overflow_add-list : goal.overflow_add-list
overflow_add-list c =
    let i = c.loop-index.index in
    let f = c.index-functions-index.result in
    let is = c.as_slice-within.result.now in
    let there : i < length c.args.instances.now = omega (arith, c.loop-index-test.true, c.requires.instances) in
    let own : is ≡ get_or c.args.instances.now i is =
    c.as_slice-within.ensures ∙ c.index-instances-index.is ∙ get_or_default c.args.instances.now i c.index-instances-index.result is there in
    let so =
    unit_here _ _ _ _ _ _ _ c.args.functions.now c.args.instances.now _ i f is c.loop-index.invariant c.loop-index-test.true c.index-functions-index.is own
    c.requires.instances in
    let vs : c.as_slice-in-loop-index.result.now ≡ function_variables f = search rules in
    let many : c.len.result ≡ length (function_variables f) = search (rules, vs) in
    let room = lists_room _ _ _ _ _ _ _ _ _ _ _ _ _ _ so in
    omega (arith, room, many, c.requires.lists)

pub loop-index-preserved : goal.loop-index-preserved
loop-index-preserved c =
    let i = c.loop-index.index in
    let f = c.index-functions-index.result in
    let is = c.as_slice-within.result.now in
    let there : i < length c.args.instances.now = omega (arith, c.loop-index-test.true, c.requires.instances) in
    let own : is ≡ get_or c.args.instances.now i is =
    c.as_slice-within.ensures ∙ c.index-instances-index.is ∙ get_or_default c.args.instances.now i c.index-instances-index.result is there in
    let so =
    unit_here _ _ _ _ _ _ _ c.args.functions.now c.args.instances.now _ i f is c.loop-index.invariant c.loop-index-test.true c.index-functions-index.is own
    c.requires.instances in
    let vs : c.as_slice-in-loop-index.result.now ≡ function_variables f = search rules in
    let many : c.len.result ≡ length (function_variables f) = search (rules, vs) in
    let meta = c.args.meta.now in
    let number = scope_number meta c.args.functions.now (call_scopes meta c.args.instances.now) in
    let call = c.loop-index.call in
    let exact : call + length is - call ≡ length is = omega arith in
    let files =
    ap (λ (n : ℕ). take n (drop call c.args.numbers.now)) exact ∙ own_numbers _ _ _ _ _ _ _ _ _ _ _ _ _ _ so in
    unit_next _ _ _ _ _ _ _ _ _ _ _ _ _ _ so c.inlined_function.new.types c.inlined_function.new.subprograms _ _ c.push.new.self c.in_ok-entry.entry
    (c.in_ok-entry.ensures.types ∙ ap (λ (us : List VarId). first_uses nat_eq c.loop-index.types (flat_map (type_uses meta) us)) vs)
    c.in_ok-entry.ensures.subprograms (λ later others. c.in_ok-entry.ensures.function number later others files)
    (omega (arith, c.in_ok-entry.ensures.few, ap (λ (us : List VarId). length us) vs)) (ap (λ (n : ℕ). c.loop-index.list + n) many) refl
    c.in_ok-push.ensures.ok

pub returns : goal.returns
returns c =
    let number = scope_number c.args.meta.now c.args.functions.now (call_scopes c.args.meta.now c.args.instances.now) in
    let left = drop c.loop-index.index c.args.instances.now in
    let P : List SourceAndCode → Type 0 =
    λ rest. UnitSoFar c.args.meta.now number c.args.numbers.now c.loop-index.types c.loop-index.subprograms c.loop-index.list c.loop-index.call
    c.args.functions.now rest c.args.instances.now left c.loop-index.made in
    let so = subst P (drop_all c.loop-index.index c.args.functions.now c.loop-index-test.false) c.loop-index.invariant in
    let is =
    unit_made c.args.meta.now c.args.text_len c.args.functions.now c.args.instances.now c.args.numbers.now _ _ _ _ _ left _ _ _ c.in_ok-file.ensures so
    c.in_ok-entries.ensures c.in_ok-names.ensures in
    let T : InlinedUnit → Type 0 = λ u. All (IsInlinedFunction (length u.types) (length u.abstracts)) u.functions in
    record { unit = is; complete = subst T (sym is) (unit_complete c.args.meta.now c.args.text_len c.args.functions.now c.args.instances.now c.requires.ordered) }
