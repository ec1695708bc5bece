use Rattle.std.proofs.Common.{refl, ap, arith}
use Rattle.std.proofs.Common.{◌≡◌, ◌+◌, ◌*◌, ◌∷◌, []}
use Rattle.elf_object.specs.Symbols.{binding_number, type_number}
use Rattle.elf_object.proofs.TableLemmas.{symbol_written}
use Rattle.elf_object.proofs.symbols.push_symbol.Goals as goal

pub returns : goal.returns
returns c =
    let info : 16 * c.number_of_binding.result + c.number_of_type.result
    ≡ 16 * binding_number c.args.symbol.now.binding + type_number c.args.symbol.now.symbol_type =
    omega (arith, c.number_of_binding.ensures.exact, c.number_of_type.ensures.exact) in
    symbol_written c.args.name c.args.symbol.now _ _ _ _ _ _ _ _ _ _ _ _ _
    c.in_ok-extend_from_slice.ensures.items c.in_ok-push.ensures.items c.in_ok-push-2.ensures.items
    c.in_ok-extend_from_slice-2.ensures.items c.in_ok-extend_from_slice-3.ensures.items c.in_ok-extend_from_slice-4.ensures.items
    c.to_le_bytes.ensures (ap (λ n. n ∷ []) info) refl c.to_le_bytes-2.ensures c.to_le_bytes-3.ensures c.to_le_bytes-4.ensures
