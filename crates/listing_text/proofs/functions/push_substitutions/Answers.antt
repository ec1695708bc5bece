use Rattle.std.proofs.Common.{◌++◌, sym}
use Rattle.std.specs.List.{flat_map}
use Rattle.listing_text.specs.Output.{substitution_line}
use Rattle.listing_text.proofs.Walks.{one_more}
use Rattle.listing_text.proofs.functions.push_substitutions.Goals as goal

pub loop-substitution-preserved : goal.loop-substitution-preserved
loop-substitution-preserved c =
    one_more substitution_line c.args.substitutions.now c.loop-substitution.substitution-index c.substitution-item.result c.loop-substitution.text
    c.push_substitution.new.text (c.args.text.now ++ flat_map substitution_line c.args.substitutions.now) c.loop-substitution-test.true
    (sym c.substitution-item.is) c.loop-substitution.invariant c.in_ok-push_substitution.ensures
