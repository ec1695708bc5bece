use Rattle.std.proofs.Common.{rules, ◌∙◌, ap, ℕ, List}
use Rattle.std.specs.List.{filter}
use Rattle.std.proofs.lemmas.Fn.{filter_same}
use Rattle.place_liveness.specs.Renewal.{is_doubted}
use Rattle.place_liveness.proofs.doubt.doubted.Goals as goal

pub returns : goal.returns
returns c =
    let test = is_doubted c.args.blocks.now c.args.place.now c.args.before.now in
    filter_same _ test _ (λ x b q h. (search rules, search rules)) _ _ c.retain.ensures.filtered ∙
    ap (λ (xs : List ℕ). filter test xs) c.in_ok-doubted.ensures.items
