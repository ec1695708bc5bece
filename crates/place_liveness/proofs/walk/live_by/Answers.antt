use Rattle.std.proofs.Common.{◌≡◌, ℕ, List, Option, sym, ap, ◌∙◌}
use Rattle.pass_liveness.specs.mir_func.declared.item.Item.{Item}
use Rattle.pass_liveness.specs.Liveness.{items_at}
use Rattle.pass_liveness.proofs.Blocks.{get_at, items_at_is}
use Rattle.place_liveness.specs.Alone.{live_alone}
use Rattle.place_liveness.proofs.Walked.{no_block}
use Rattle.place_liveness.proofs.walk.live_by.Goals as goal

pub returns-in-Some : goal.returns-in-Some
returns-in-Some c =
    let blocks = c.args.blocks.now in
    let found = c.in-Some.ensures.lookup in
    let at = get_at blocks c.args.block c.in-Some.b.now found.3.0 found.1 in
    let items : c.as_slice.result.now ≡ items_at blocks c.args.block = c.as_slice.ensures ∙ sym (items_at_is blocks c.args.block c.in-Some.b.now at) in
    c.live_alone.ensures
    ∙ ap (λ (is : List Item). live_alone is c.id_at.result c.args.place.now c.args.target.now) items
    ∙ ap (λ (o : Option ℕ). live_alone (items_at blocks c.args.block) o c.args.place.now c.args.target.now) c.id_at.ensures

pub returns-in-None : goal.returns-in-None
returns-in-None c = sym (no_block c.args.blocks.now c.args.place.now c.args.block c.args.target.now c.in-None.ensures.lookup.3)
