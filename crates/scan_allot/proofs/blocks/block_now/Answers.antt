use Rattle.std.proofs.Common.{◌≡◌, ◌<◌, ◌++◌, ℕ, List, [], Option, Some, length, get_or, ap, ◌∙◌, sym, subst, arith}
use Rattle.std.specs.Prelude.{slice_get}
use Rattle.rv64_instr.specs.declared.place.Place.{Place}
use Rattle.mir_func.specs.declared.block.Block.{Block}
use Rattle.mir_func.specs.declared.item.Item.{Item}
use Rattle.mir_func.specs.Function.{Function}
use Rattle.mir_func.specs.Sound.{IsSound}
use Rattle.pass_trait.specs.declared.loss.Loss.{Loss}
use Rattle.pass_liveness.specs.Sets.{has}
use Rattle.scan_stale.specs.scan_choice.Given.{given_by}
use Rattle.scan_debug.specs.scan_rule.Rewrite.{items_now}
use Rattle.scan_stale.specs.Flow.{Places}
use Rattle.scan_stale.specs.Sets.{start_in, starts_of}
use Rattle.scan_allot.specs.Losses.{lost_items}
use Rattle.scan_allot.specs.Silent.{silent_along, silent_by}
use Rattle.scan_allot.proofs.Walked.{got_block, block_made, block_lost}
use Rattle.scan_allot.proofs.blocks.block_now.Goals as goal

pub at_start-set-requires-clause-inside : goal.at_start-set-requires-clause-inside
at_start-set-requires-clause-inside c = subst (λ (n : ℕ). c.args.at < n) (sym c.requires.sets.long) c.requires.inside

pub returns-clause-block : goal.returns-clause-block
returns-clause-block c b at =
    let f : Function = c.args.f.now in
    let given : ℕ → Option ℕ = given_by c.args.given.now in
    let sound : IsSound f = subst IsSound c.f.view_is c.f.invariant in
    let blocks : c.as_slice.result.now ≡ f.blocks = c.as_slice.ensures ∙ ap (λ (g : Function). g.blocks) c.f.view_is in
    let block : Block = c.index-as_slice-at.result in
    let same : block ≡ b = got_block f.blocks c.args.at b at block (c.index-as_slice-at.is ∙ ap (λ (bs : List Block). get_or bs c.args.at block) blocks) in
    let start : Places = has c.args.stale.now.slots c.at_start-set.result in
    let begun : start ≡ start_in given c.args.at (has c.args.stale.now.slots (get_or c.args.stale.now.starts c.args.at [])) =
    λ t x. c.at_start-set.ensures x t in
    let items : c.in_ok-items.items ≡ items_now given (silent_by f given (starts_of f given c.args.stale.now)) b.id 0 b.items =
    c.in_ok-items.ensures.items ∙
    (λ t. items_now given (silent_along (c.requires.same t) given ((c.as_slice-2.ensures ∙ ap (λ (x : Block). x.items) same) t) start) (same t).id 0
    ((c.as_slice-2.ensures ∙ ap (λ (x : Block). x.items) same) t)) ∙
    block_made f sound given c.args.stale.now c.requires.sets.ids c.args.at b at start begun in
    λ t. record { id = (same t).id; items = items t; source_end = (same t).source_end }

pub returns-clause-lost : goal.returns-clause-lost
returns-clause-lost c b at =
    let f : Function = c.args.f.now in
    let given : ℕ → Option ℕ = given_by c.args.given.now in
    let sound : IsSound f = subst IsSound c.f.view_is c.f.invariant in
    let blocks : c.as_slice.result.now ≡ f.blocks = c.as_slice.ensures ∙ ap (λ (g : Function). g.blocks) c.f.view_is in
    let block : Block = c.index-as_slice-at.result in
    let same : block ≡ b = got_block f.blocks c.args.at b at block (c.index-as_slice-at.is ∙ ap (λ (bs : List Block). get_or bs c.args.at block) blocks) in
    let start : Places = has c.args.stale.now.slots c.at_start-set.result in
    let begun : start ≡ start_in given c.args.at (has c.args.stale.now.slots (get_or c.args.stale.now.starts c.args.at [])) =
    λ t x. c.at_start-set.ensures x t in
    c.in_ok-items.ensures.lost ∙
    (λ t. c.args.lost.now.items ++ lost_items (silent_along (c.requires.same t) given ((c.as_slice-2.ensures ∙ ap (λ (x : Block). x.items) same) t) start) (same t).id 0
    ((c.as_slice-2.ensures ∙ ap (λ (x : Block). x.items) same) t)) ∙
    ap (λ (ls : List Loss). c.args.lost.now.items ++ ls) (block_lost f sound given c.args.stale.now c.requires.sets.ids c.args.at b at start begun)
