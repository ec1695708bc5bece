use Rattle.std.proofs.Common.{◌≡◌, ◌||◌, ◌∙◌, ap, Bool}
use Rattle.pass_liveness.specs.Liveness.{has_at_start}
use Rattle.pass_liveness.proofs.Places.{has_none}
use Rattle.pass_liveness.proofs.Ready.{out_none, out_one, out_two}
use Rattle.pass_liveness.proofs.live.Live.past_block.Goals as goal

pub returns-in-Nowhere : goal.returns-in-Nowhere
returns-in-Nowhere c = λ x. out_none c.args.f.now c.args.self.now c.requires.sets _ x _ c.in-Nowhere.ensures
    (has_none c.args.self.now.slots c.new-set.result c.new-set.ensures x)

pub returns-in-One : goal.returns-in-One
returns-in-One c = λ x.
    let slots : c.self.inside.names.slots ≡ c.args.self.now.slots = cc in
    let ids : c.self.inside.names.blocks ≡ c.args.self.now.blocks = cc in
    let starts : c.as_slice.result.now ≡ c.args.self.now.starts = cc in
    let none = has_none c.args.self.now.slots c.new-set.result c.new-set.ensures x in
    out_one c.args.f.now c.args.self.now c.requires.sets _ x _ c.in-One.n c.in-One.ensures
    (rw (slots, ids, starts) at (c.unite_start.ensures x) ∙ ap (λ (t : Bool). t || has_at_start c.args.self.now.slots c.args.self.now.blocks
    c.args.self.now.starts
    c.in-One.n x) none)

pub returns-in-Two : goal.returns-in-Two
returns-in-Two c = λ x.
    let slots : c.self.inside.names.slots ≡ c.args.self.now.slots = cc in
    let ids : c.self.inside.names.blocks ≡ c.args.self.now.blocks = cc in
    let first : c.as_slice-in-Two.result.now ≡ c.args.self.now.starts = cc in
    let second : c.as_slice-in-Two-2.result.now ≡ c.args.self.now.starts = cc in
    let none = has_none c.args.self.now.slots c.new-set.result c.new-set.ensures x in
    let m = has_at_start c.args.self.now.slots c.args.self.now.blocks c.args.self.now.starts c.in-Two.m x in
    let n = has_at_start c.args.self.now.slots c.args.self.now.blocks c.args.self.now.starts c.in-Two.n x in
    out_two c.args.f.now c.args.self.now c.requires.sets _ x _ c.in-Two.m c.in-Two.n c.in-Two.ensures
    (rw (slots, ids, second) at (c.unite_start-in-Two-2.ensures x)
    ∙ (ap (λ (t : Bool). t || n) (rw (slots, ids, first) at (c.unite_start-in-Two.ensures x)) ∙ ap (λ (t : Bool). (t || m) || n) none))
