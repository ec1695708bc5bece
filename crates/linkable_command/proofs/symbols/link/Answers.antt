use Rattle.std.specs.Prelude.{Err}
use Rattle.std.proofs.Common.{◌≡◌, List, map, ap, sym, ◌∙◌}
use Rattle.std.proofs.lemmas.Result.{err_from_is_err_and}
use Rattle.elf_object.specs.declared.symbols.Symbol.{Symbol}
use Rattle.object_command.specs.declared.object.ObjectError.{ObjectError}
use Rattle.object_command.specs.declared.object.ObjectError.TheVariants.{TooLarge}
use Rattle.linkable_command.specs.declared.reference.Reference.{Reference}
use Rattle.linkable_command.specs.Symbols.{named_symbols, relocation_by}
use Rattle.linkable_command.proofs.Referred.{linked, early, middle, late}
use Rattle.linkable_command.proofs.symbols.link.Goals as goal

pub returns-in_err-push_bound-clause-too_large : goal.returns-in_err-push_bound-clause-too_large
returns-in_err-push_bound-clause-too_large c = λ is.
    let gave = err_from_is_err_and c.from_residual.result c.from_residual.ensures.1 in
    let here : gave.0 ≡ TooLarge = let same = gave.1 in cc in
    early c.args.linkages.now _ c.args.functions.now c.new-symbols.ensures
    (c.in_err-push_bound.ensures.too_large (ap (λ (e : ObjectError). Err e) (sym gave.2 ∙ here)))

pub returns-in_err-push_bound-2-clause-too_large : goal.returns-in_err-push_bound-2-clause-too_large
returns-in_err-push_bound-2-clause-too_large c = λ is.
    let gave = err_from_is_err_and c.from_residual-in_err-push_bound-2.result c.from_residual-in_err-push_bound-2.ensures.1 in
    let here : gave.0 ≡ TooLarge = let same = gave.1 in cc in
    middle c.args.linkages.now _ c.push_bound.new.symbols c.args.functions.now c.new-symbols.ensures c.in_ok-push_bound.ensures.symbols
    (c.in_err-push_bound-2.ensures.too_large (ap (λ (e : ObjectError). Err e) (sym gave.2 ∙ here)))

pub returns-in_err-relocations-clause-too_large : goal.returns-in_err-relocations-clause-too_large
returns-in_err-relocations-clause-too_large c = λ is.
    let gave = err_from_is_err_and c.from_residual-in_err-relocations.result c.from_residual-in_err-relocations.ensures.1 in
    let here : gave.0 ≡ TooLarge = let same = gave.1 in cc in
    late c.args.linkages.now _ c.push_bound.new.symbols c.push_bound-2.new.symbols c.args.functions.now c.args.referred.now c.new-symbols.ensures
    c.in_ok-push_bound.ensures.symbols c.in_ok-push_bound-2.ensures.symbols c.requires.referred
    (c.in_err-relocations.ensures.too_large (ap (λ (e : ObjectError). Err e) (sym gave.2 ∙ here)))

pub returns-clause-symbols : goal.returns-clause-symbols
returns-clause-symbols c =
    linked c.args.linkages.now _ c.push_bound.new.symbols c.push_bound-2.new.symbols c.push_references.new.symbols c.args.functions.now
    c.args.referred.now c.new-symbols.ensures c.in_ok-push_bound.ensures.symbols c.in_ok-push_bound-2.ensures.symbols
    c.in_ok-relocations.ensures.symbols c.requires.referred

pub returns-clause-relocations : goal.returns-clause-relocations
returns-clause-relocations c =
    c.in_ok-relocations.ensures.relocations
    ∙ ap (λ (ss : List Symbol). map (relocation_by c.args.before ss) c.args.referred.now) (returns-clause-symbols c)
    ∙ ap (λ (rs : List Reference). map (relocation_by c.args.before (named_symbols c.args.linkages.now c.args.functions.now)) rs) c.requires.referred
