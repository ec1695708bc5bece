use Rattle.std.proofs.Common.{sym, ◌∙◌, ap, subst}
use Rattle.mir_func.specs.Function.{Function}
use Rattle.mir_func.specs.Sound.{IsSound}
use Rattle.dce_salvage_proof.specs.SalvageLaws.{begins_off}
use Rattle.dce_round.proofs.Made.{sound_off, still_function, still_entries, still_lost}
use Rattle.dce_round.proofs.round.copies_off.Goals as goal

pub invariant_of-f : goal.invariant_of-f
invariant_of-f c =
    subst (λ (z : Function). IsSound (record { name = z.name; slots = z.slots; objects = z.objects; blocks = c.in_ok-blocks.blocks })) (sym c.f.view_is)
    (sound_off c.args.f.now c.args.subs.now c.args.dead.now c.in_ok-blocks.blocks (subst IsSound c.f.view_is c.f.invariant) c.in_ok-blocks.ensures.blocks)

pub returns-then-not-has_copies-clause-function : goal.returns-then-not-has_copies-clause-function
returns-then-not-has_copies-clause-function c =
    let f : Function = c.args.f.now in
    let is = c.as_slice.ensures ∙ ap (λ (z : Function). z.blocks) c.f.view_is in
    still_function f c.args.subs.now c.args.dead.now c.as_slice.result.now is (c.has_copies.ensures c.if-not-has_copies.true (begins_off f c.args.subs.now))

pub returns-then-not-has_copies-clause-entries : goal.returns-then-not-has_copies-clause-entries
returns-then-not-has_copies-clause-entries c =
    let f : Function = c.args.f.now in
    let is = c.as_slice.ensures ∙ ap (λ (z : Function). z.blocks) c.f.view_is in
    still_entries f c.args.subs.now c.args.dead.now c.as_slice.result.now is (c.has_copies.ensures c.if-not-has_copies.true (begins_off f c.args.subs.now))

pub returns-then-not-has_copies-clause-lost : goal.returns-then-not-has_copies-clause-lost
returns-then-not-has_copies-clause-lost c =
    let f : Function = c.args.f.now in
    let is = c.as_slice.ensures ∙ ap (λ (z : Function). z.blocks) c.f.view_is in
    c.new-lost.ensures.items
    ∙ still_lost f c.args.subs.now c.args.dead.now c.as_slice.result.now is (c.has_copies.ensures c.if-not-has_copies.true (begins_off f c.args.subs.now))
