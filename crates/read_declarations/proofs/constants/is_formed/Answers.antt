use Rattle.std.proofs.Common.{drop, sym, ◌∙◌}
use Rattle.std.specs.Prelude.{slice_get}
use Rattle.std.specs.List.{list_all}
use Rattle.std.proofs.lemmas.Bool.{and_parts}
use Rattle.read_declarations.specs.Constants.{some_key, goes_on}
use Rattle.read_declarations.proofs.Once.{all_formed}
use Rattle.read_declarations.proofs.constants.is_formed.Goals as goal

pub are_once-requires : goal.are_once-requires
are_once-requires c =
    let lines = c.args.lines.now in
    let both = and_parts (some_key (slice_get lines 0)) (list_all goes_on (drop 1 lines)) (sym c.are_formed.ensures ∙ c.if-not-are_formed.false) in
    all_formed lines both.0 both.1
