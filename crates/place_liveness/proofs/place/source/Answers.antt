use Rattle.std.proofs.Common.{length, None, sym, ◌∙◌}
use Rattle.place_liveness.specs.Alone.{live_by}
use Rattle.place_liveness.proofs.Those.{those_more, those_other}
use Rattle.place_liveness.proofs.place.source.Goals as goal

pub returns-in_ok-push : goal.returns-in_ok-push
returns-in_ok-push c =
    those_more (length c.args.blocks.now) (λ b. live_by c.args.blocks.now c.args.place.now b None) c.args.block c.args.sources.now.items c.push.new.self.items c.requires.block
    (sym c.live_by.ensures ∙ c.if-live_by.true) c.in_ok-push.ensures.items

pub returns-else-live_by : goal.returns-else-live_by
returns-else-live_by c = λ s.
    those_other (length c.args.blocks.now) (λ b. live_by c.args.blocks.now c.args.place.now b None) c.args.block c.args.sources.now.items (sym c.live_by.ensures ∙ c.if-live_by.false) s
