use Rattle.std.proofs.Common.{ℕ, ◌++◌, List, ◌∙◌, sym, ap}
use Rattle.std.specs.Prelude.{nat_eq}
use Rattle.std.specs.List.{position_or_len}
use Rattle.dwarf_line_table.specs.Files.{with_new}
use Rattle.dwarf_line_table.proofs.FirstUses.{number_kept}
use Rattle.dwarf_unit.proofs.Keys.{node_same}
use Rattle.dwarf_unit.proofs.types.Types.number.Goals as goal

pub returns-clause-number : goal.returns-clause-number
returns-clause-number c = λ more.
    let keys = c.self.inside.known.keys in
    let node = c.args.node in
    c.in_ok-index.ensures.index ∙ ap (λ (n : ℕ). position_or_len (nat_eq n) keys) c.number.ensures
    ∙ sym (number_kept nat_eq node_same keys more node)
    ∙ ap (λ (ks : List ℕ). position_or_len (nat_eq node) (ks ++ more))
    (sym (c.in_ok-index.ensures.keys ∙ ap (λ (n : ℕ). with_new nat_eq keys n) c.number.ensures))
