use Rattle.std.proofs.Common.{◌≡◌, ◌<◌, ℕ, Bool, true, List, [], length, sym, ap, ◌∙◌, subst, arith}
use Rattle.std.specs.Prelude.{◌↔◌, All, slice_index, slice_index_or}
use Rattle.std.specs.List.{filter}
use Rattle.std.proofs.lemmas.List.Elements.{All-filter}
use Rattle.std.proofs.lemmas.Result.{IfOk-weaker}
use Rattle.graph_spread.specs.dataflow.Graph.{AreBlocks}
use Rattle.graph_spread.specs.Spread.{IsIn, Spreads}
use Rattle.pass_liveness.specs.mir_func.declared.block.Block.{Block}
use Rattle.pass_liveness.specs.mir_func.Function.{Function}
use Rattle.pass_liveness.specs.mir_func.Graph.{program_of, block_start}
use Rattle.pass_liveness.specs.mir_func.Sound.{IsSound, ids_of}
use Rattle.pass_liveness.specs.sem_mir.Live.{Live}
use Rattle.place_liveness.specs.Alone.{AreLiveStarts}
use Rattle.place_liveness.specs.Renewal.{IsThinner, doubts_up, stays_up, is_doubted, is_held, AreHeld, AreStillLive}
use Rattle.place_liveness.proofs.Those.{those_within}
use Rattle.place_liveness.proofs.Renews.{still_exact}
use Rattle.place_liveness.proofs.renewal.still_live.Goals as goal

pub spread-requires-clause-sources : goal.spread-requires-clause-sources
spread-requires-clause-sources c =
    let test = is_doubted c.as_slice-blocks.result.now c.args.place.now c.args.before.now in
    let lost = c.args.lost.now in
    let within : All (λ (b : ℕ). b < length c.args.f.now.blocks) (filter test lost) =
    All-filter test (λ (b : ℕ). b < length c.args.f.now.blocks) lost c.requires.lost in
    subst (λ (ns : List ℕ). AreBlocks (length c.args.up.now) ns) (sym (c.as_slice.ensures.value ∙ c.in_ok-first.ensures))
    (subst (λ (n : ℕ). AreBlocks n (filter test lost)) (sym c.requires.up.long) within)

pub spread-requires-2-clause-sources : goal.spread-requires-2-clause-sources
spread-requires-2-clause-sources c =
    let blocks = c.as_slice-blocks.result.now in
    let view : blocks ≡ c.args.f.now.blocks = c.as_slice-blocks.ensures ∙ ap (λ (g : Function). g.blocks) c.f.view_is in
    let test =
    λ (b : ℕ). is_held blocks c.args.place.now c.args.before.now c.as_slice-doubted.result.now b (slice_index_or c.args.down.now b []) in
    let within = those_within (length blocks) test (length blocks) c.in_ok-held.held.items c.in_ok-held.ensures in
    subst (λ (ns : List ℕ). AreBlocks (length c.args.up.now) ns) (sym c.as_slice-2.ensures.value)
    (subst (λ (n : ℕ). AreBlocks n c.in_ok-held.held.items) (ap (length {A = Block}) view ∙ sym c.requires.up.long) within)

pub returns : goal.returns
returns c =
    let sound : IsSound c.args.f.now = subst IsSound c.f.view_is c.f.invariant in
    let new = c.args.f.now in
    let x = c.args.place.now in
    let before = c.args.before.now in
    let lost = c.args.lost.now in
    let up = c.args.up.now in
    let down = c.args.down.now in
    let blocks = c.as_slice-blocks.result.now in
    let doubted = c.as_slice-doubted.result.now in
    let stays = c.as_slice-3.result.now in
    let held = c.in_ok-held.held.items in
    let view : blocks ≡ new.blocks = c.as_slice-blocks.ensures ∙ ap (λ (g : Function). g.blocks) c.f.view_is in
    let first : c.as_slice.result.now ≡ filter (is_doubted blocks x before) lost = c.as_slice.ensures.value ∙ c.in_ok-first.ensures in
    let doubts = subst (λ (bs : List Block). (b : ℕ) → IsIn doubted b ↔ Spreads up (doubts_up bs x) (filter (is_doubted bs x before) lost) b) view
    (subst (λ (fs : List Bool). (b : ℕ) → IsIn fs b ↔ Spreads up (doubts_up blocks x) (filter (is_doubted blocks x before) lost) b)
    (sym c.as_slice-doubted.ensures.value)
    (subst (λ (ns : List ℕ). (b : ℕ) → IsIn c.in_ok-flags.flags.items b ↔ Spreads up (doubts_up blocks x) ns b) first c.in_ok-flags.ensures.exact)) in
    let holds = subst (λ (bs : List Block). AreHeld bs x before doubted down (length bs) held) view c.in_ok-held.ensures in
    let exactly = subst (λ (bs : List Block). (b : ℕ) → IsIn stays b ↔ Spreads up (stays_up bs x doubted) held b) view
    (subst (λ (fs : List Bool). (b : ℕ) → IsIn fs b ↔ Spreads up (stays_up blocks x doubted) held b) (sym c.as_slice-3.ensures.value)
    (subst (λ (ns : List ℕ). (b : ℕ) → IsIn c.in_ok-stays.stays.items b ↔ Spreads up (stays_up blocks x doubted) ns b) c.as_slice-2.ensures.value
    c.in_ok-stays.ensures.exact)) in
    IfOk-weaker c.settled.result (λ after. AreStillLive before doubted stays after.items)
    (λ after. (old : Function) → IsThinner old new x lost → AreLiveStarts old x before → AreLiveStarts new x after.items)
    (λ after s old thin was. record {
      long = s.long ∙ c.requires.long;
      each = λ b inside sp resolve.
          subst (λ (t : Bool). (t ≡ true) ↔ Live (program_of sp new.blocks resolve) x (block_start (slice_index (ids_of new.blocks) b)))
          (sym (s.each b (omega (arith, inside, c.requires.long))))
          (still_exact old new x lost thin sp resolve sound.blocks_apart before c.requires.long (λ k lt. was.each k lt sp resolve) up c.requires.up doubted
          doubts down c.requires.down held holds stays exactly b inside);
    }) c.settled.ensures
