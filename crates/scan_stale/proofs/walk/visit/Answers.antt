use Rattle.std.proofs.Common.{◌≡◌, ◌+◌, ◌||◌, ◌∙◌, ℕ, List, [], Option, Bool, get_or, sym, ap, subst}
use Rattle.std.specs.Prelude.{slice_get}
use Rattle.mir_func.specs.declared.block.Block.{Block}
use Rattle.mir_func.specs.Function.{Function}
use Rattle.mir_func.specs.Sound.{ids_of}
use Rattle.pass_liveness.specs.Sets.{has}
use Rattle.pass_liveness.specs.Liveness.{items_at}
use Rattle.pass_liveness.proofs.Blocks.{get_at, get_or_any, items_at_is}
use Rattle.dce_stale.specs.Sets.{Handed}
use Rattle.scan_choice.specs.Given.{given_by}
use Rattle.scan_stale.specs.Flow.{Places}
use Rattle.scan_stale.specs.Sets.{start_in, started, HandsOn}
use Rattle.scan_stale.proofs.Steps.{handed_block}
use Rattle.scan_stale.proofs.walk.visit.Goals as goal
use Rattle.scan_stale.proofs.walk.visit.Goals.{Then-within, Else-within}

both_then : (c : Then-within) → Handed c.args.names.now.slots c.args.names.now.blocks c.args.starts.now.items c.hand_down-below.new.starts.items
    (HandsOn c.args.names.now.slots c.args.names.now.blocks c.args.f.now (given_by c.args.given.now) c.args.starts.now.items c.args.block)
    (c.walk_items-within.result || c.hand_down-below.result)
both_then c =
    let f : Function = c.args.f.now in
    let b : ℕ = c.args.block in
    let given : ℕ → Option ℕ = given_by c.args.given.now in
    let block : Block = c.index-blocks-block.result in
    let blocks : f.blocks ≡ c.as_slice-blocks.result.now = ap (λ (g : Function). g.blocks) (sym c.f.view_is) ∙ sym c.as_slice-blocks.ensures in
    let at = get_at f.blocks b block c.requires.there (c.index-blocks-block.is ∙ ap (λ (bs : List Block). get_or bs b block) (sym blocks)) in
    let items : c.as_slice.result.now ≡ items_at f.blocks b = c.as_slice.ensures ∙
    ((λ z. (sym c.index-blocks-block.is z).items) ∙ sym (items_at_is f.blocks b block at)) in
    let set : has c.args.names.now.slots c.start_of-set.result ≡ started c.args.names.now.slots c.args.names.now.blocks f given c.args.starts.now.items b =
    (λ z x. c.start_of-set.ensures x z) ∙ (λ z. start_in given b (has c.args.names.now.slots
    ((c.index.ensures ∙ get_or_any c.args.starts.now.items b c.index.result.now [] c.requires.inside) z))) in
    let next : c.id_at-next.result ≡ slice_get (ids_of f.blocks) (b + 1) =
    c.id_at-next.ensures ∙ ap (λ (bs : List Block). slice_get (ids_of bs) (b + 1)) (sym blocks) in
    handed_block given c.as_slice.result.now (items_at f.blocks b) (has c.args.names.now.slots c.start_of-set.result)
    (started c.args.names.now.slots c.args.names.now.blocks f given c.args.starts.now.items b) c.walk_items-within.new.set c.id_at-next.result
    (slice_get (ids_of f.blocks) (b + 1)) items set next
    c.walk_items-within.ensures.starts c.walk_items-within.ensures.set c.hand_down-below.ensures

pub returns-then-within : goal.returns-then-within
returns-then-within c = subst (λ (g : Bool). Handed c.args.names.now.slots c.args.names.now.blocks c.args.starts.now.items c.hand_down-below.new.starts.items
    (HandsOn c.args.names.now.slots c.args.names.now.blocks c.args.f.now (given_by c.args.given.now) c.args.starts.now.items c.args.block) g)
    (ap (λ (a : Bool). a || c.hand_down-below.result) c.if-within.true ∙ sym c.if-within.true) (both_then c)

both_else : (c : Else-within) → Handed c.args.names.now.slots c.args.names.now.blocks c.args.starts.now.items c.hand_down-below.new.starts.items
    (HandsOn c.args.names.now.slots c.args.names.now.blocks c.args.f.now (given_by c.args.given.now) c.args.starts.now.items c.args.block)
    (c.walk_items-within.result || c.hand_down-below.result)
both_else c =
    let f : Function = c.args.f.now in
    let b : ℕ = c.args.block in
    let given : ℕ → Option ℕ = given_by c.args.given.now in
    let block : Block = c.index-blocks-block.result in
    let blocks : f.blocks ≡ c.as_slice-blocks.result.now = ap (λ (g : Function). g.blocks) (sym c.f.view_is) ∙ sym c.as_slice-blocks.ensures in
    let at = get_at f.blocks b block c.requires.there (c.index-blocks-block.is ∙ ap (λ (bs : List Block). get_or bs b block) (sym blocks)) in
    let items : c.as_slice.result.now ≡ items_at f.blocks b = c.as_slice.ensures ∙
    ((λ z. (sym c.index-blocks-block.is z).items) ∙ sym (items_at_is f.blocks b block at)) in
    let set : has c.args.names.now.slots c.start_of-set.result ≡ started c.args.names.now.slots c.args.names.now.blocks f given c.args.starts.now.items b =
    (λ z x. c.start_of-set.ensures x z) ∙ (λ z. start_in given b (has c.args.names.now.slots
    ((c.index.ensures ∙ get_or_any c.args.starts.now.items b c.index.result.now [] c.requires.inside) z))) in
    let next : c.id_at-next.result ≡ slice_get (ids_of f.blocks) (b + 1) =
    c.id_at-next.ensures ∙ ap (λ (bs : List Block). slice_get (ids_of bs) (b + 1)) (sym blocks) in
    handed_block given c.as_slice.result.now (items_at f.blocks b) (has c.args.names.now.slots c.start_of-set.result)
    (started c.args.names.now.slots c.args.names.now.blocks f given c.args.starts.now.items b) c.walk_items-within.new.set c.id_at-next.result
    (slice_get (ids_of f.blocks) (b + 1)) items set next
    c.walk_items-within.ensures.starts c.walk_items-within.ensures.set c.hand_down-below.ensures

pub returns-else-within : goal.returns-else-within
returns-else-within c = subst (λ (g : Bool). Handed c.args.names.now.slots c.args.names.now.blocks c.args.starts.now.items c.hand_down-below.new.starts.items
    (HandsOn c.args.names.now.slots c.args.names.now.blocks c.args.f.now (given_by c.args.given.now) c.args.starts.now.items c.args.block) g)
    (ap (λ (a : Bool). a || c.hand_down-below.result) c.if-within.false) (both_else c)
