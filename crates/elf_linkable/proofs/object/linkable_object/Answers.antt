use Rattle.std.specs.Prelude.{count_by}
use Rattle.std.proofs.Common.{◌≡◌, ◌+◌, arith, ap, ◌∙◌}
use Rattle.std.proofs.lemmas.List.Sums.{count_by-le-length}
use Rattle.elf_object.specs.declared.symbols.Symbol.{Symbol}
use Rattle.elf_object.specs.Symbols.{is_local}
use Rattle.elf_linkable.specs.Linkable.{is_relocated}
use Rattle.elf_linkable.proofs.Counting.{all_made}
use Rattle.elf_linkable.proofs.object.linkable_object.Goals as goal

pub symbol_section-requires-clause-few : goal.symbol_section-requires-clause-few
symbol_section-requires-clause-few c =
    omega (arith, count_by-le-length (λ (s : Symbol). is_local s.binding) c.args.symbols.now, c.requires.symbols)

pub returns : goal.returns
returns c =
    let count : c.count_relocated.result ≡ count_by is_relocated c.args.sections =
    c.count_relocated.ensures.exact ∙ ap (count_by is_relocated) c.as_slice.ensures in
    all_made c.args.flags c.args.sections c.as_slice-2.result.now c.args.symbols.now (c.len.result + c.count_relocated.result + 2) _ _ _ _ _ _ _ _ _ _
    (omega (arith, c.len.ensures, count)) c.as_slice-2.ensures c.in_ok-all.ensures c.new-relocations.ensures c.in_ok-push_relocations.ensures
    c.in_ok-append.ensures c.in_ok-push.ensures.ok c.in_ok-stack_section.ensures c.in_ok-push-2.ensures.ok c.in_ok-symbol_section.ensures
    c.in_ok-push-3.ensures.ok c.in_ok-name_section.ensures
