use Rattle.std.proofs.Common.{◌∙◌, ℕ, List, length, sym, ap, subst}
use Rattle.mir_func.specs.Function.{Function}
use Rattle.mir_func.specs.Sound.{IsSound}
use Rattle.scan_choice.specs.Given.{given_by}
use Rattle.scan_stale.proofs.Visits.{begun_empty, solved}
use Rattle.scan_stale.proofs.stale.StaleRegisters.solve.Goals as goal

pub settle-requires-clause-state : goal.settle-requires-clause-state
settle-requires-clause-state c =
    let sound : IsSound c.args.f.now = subst IsSound c.f.view_is c.f.invariant in
    begun_empty c.in_ok-names.names.slots c.in_ok-names.names.blocks c.args.f.now (given_by c.args.given.now) c.in_ok-starts.starts.items
    c.in_ok-names.ensures.blocks sound.blocks_apart
    (c.in_ok-starts.ensures.long ∙ (c.len.ensures ∙ ap (λ (g : Function). length g.blocks) c.f.view_is)) c.in_ok-starts.ensures.none

pub returns : goal.returns
returns c =
    let sound : IsSound c.args.f.now = subst IsSound c.f.view_is c.f.invariant in
    solved c.args.f.now sound (given_by c.args.given.now) c.in_ok-names.names.slots c.in_ok-names.names.blocks c.settle.new.starts.items
    c.in_ok-settle.ensures.state c.in_ok-settle.ensures.closed
