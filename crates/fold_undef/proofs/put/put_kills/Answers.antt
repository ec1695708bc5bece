use Rattle.std.proofs.Common.{◌∙◌, nat_eq}
use Rattle.std.specs.HashSet.{contains}
use Rattle.std.proofs.lemmas.Result.{on_ok_weaker}
use Rattle.fold_targets.specs.Ends.{told, end_in}
use Rattle.fold_undef.specs.steps.Gathered.{kills_at}
use Rattle.fold_undef.proofs.Gathering.{put_is}
use Rattle.fold_undef.proofs.put.put_kills.Goals as goal

pub returns : goal.returns
returns c =
    let ways = c.args.ways.now in
    on_ok_weaker c.put_all.result (λ e. e ∙ put_is (end_in ways.ends) (contains nat_eq ways.reached) (told ways.leads) c.args.before.now
    (kills_at c.in_ok-kills.kills) c.requires (λ n. c.in_ok-kills.ensures n) c.args.after.now.items) c.put_all.ensures
