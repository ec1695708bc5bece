use Rattle.std.proofs.Common.{[], ◌∷◌, ◌++◌, refl, codes}
use Rattle.std.specs.List.{flat_map}
use Rattle.mir_printer.proofs.Appends.{ended}
use Rattle.mir_func_printer.specs.FuncText.{entry_line, some_substitutions}
use Rattle.mir_func_printer.proofs.stack.push_some_substitutions.Goals as goal

pub returns : goal.returns
unfolding some_substitutions
returns c =
    ended c.push_entries.result c.args.text.now c.push_str.new.text c.push_entries.new.text (codes "debugValueSubstitutions:" ++ 10 ∷ [])
    (flat_map entry_line c.args.entries.now) (some_substitutions c.args.entries.now) c.in_ok-push_str.ensures.ok c.push_entries.ensures refl
