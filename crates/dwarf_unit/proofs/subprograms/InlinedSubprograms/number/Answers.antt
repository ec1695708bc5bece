use Rattle.std.proofs.Common.{ℕ, ◌++◌, List, Option, ◌∙◌, sym, ap}
use Rattle.std.specs.Prelude.{nat_eq}
use Rattle.std.specs.List.{position_or_len}
use Rattle.std.specs.Option.{option_eq}
use Rattle.dwarf_line_table.specs.Files.{with_new}
use Rattle.dwarf_line_table.proofs.FirstUses.{number_kept}
use Rattle.dwarf_unit.proofs.Keys.{option_same}
use Rattle.dwarf_unit.proofs.subprograms.InlinedSubprograms.number.Goals as goal

pub returns-clause-number : goal.returns-clause-number
returns-clause-number c = λ more.
    let keys = c.self.inside.known.keys in
    let node = c.args.subprogram in
    c.in_ok-index.ensures.index ∙ ap (λ (o : Option ℕ). position_or_len (option_eq nat_eq o) keys) c.number.ensures
    ∙ sym (number_kept (option_eq nat_eq) option_same keys more node)
    ∙ ap (λ (ks : List (Option ℕ)). position_or_len (option_eq nat_eq node) (ks ++ more))
    (sym (c.in_ok-index.ensures.keys ∙ ap (λ (o : Option ℕ). with_new (option_eq nat_eq) keys o) c.number.ensures))
