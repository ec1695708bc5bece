use Rattle.std.proofs.Common.{ℕ, length, ap, subst, List, ◌∙◌, sym}
use Rattle.mir_func.specs.Function.{Function}
use Rattle.mir_func.specs.Sound.{IsSound, AllItems, SlotsIn}
use Rattle.pass_liveness.proofs.Ready.{begun, solved}
use Rattle.scan_liveness.proofs.liveness.live_starts.Goals as goal

pub settle-requires-clause-state : goal.settle-requires-clause-state
settle-requires-clause-state c =
    let sound : IsSound c.args.f.now = subst IsSound c.f.view_is c.f.invariant in
    begun c.args.f.now c.args.names.now.slots c.args.names.now.blocks c.in_ok-starts.starts.items
    (subst (λ (slots : List ℕ). AllItems (λ i. SlotsIn slots i.kind) c.args.f.now.blocks) (sym c.requires.slots) sound.slots)
    (c.in_ok-starts.ensures.long ∙ (c.len.ensures ∙ ap (λ (g : Function). length g.blocks) c.f.view_is)) c.in_ok-starts.ensures.none

pub returns-clause-live : goal.returns-clause-live
returns-clause-live c =
    let sound : IsSound c.args.f.now = subst IsSound c.f.view_is c.f.invariant in
    solved c.args.f.now c.args.names.now.slots c.args.names.now.blocks c.settle.new.starts.items c.requires.slots
    c.requires.blocks sound.blocks_apart c.in_ok-settle.ensures.state c.in_ok-settle.ensures.closed

pub returns-clause-known : goal.returns-clause-known
returns-clause-known c =
    let sound : IsSound c.args.f.now = subst IsSound c.f.view_is c.f.invariant in
    subst (λ (slots : List ℕ). AllItems (λ i. SlotsIn slots i.kind) c.args.f.now.blocks) (sym c.requires.slots) sound.slots
