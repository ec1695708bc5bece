use Rattle.std.proofs.Common.{◌≡◌, ◌<◌, ◌↔◌, ℕ, List, Bool, true, false, None, slice_index, sym, subst}
use Rattle.std.specs.Prelude.{filter}
use Rattle.pass_liveness.specs.rv64_instr.declared.place.Place.TheVariants.{Register}
use Rattle.pass_liveness.specs.mir_func.Function.{Function}
use Rattle.pass_liveness.specs.mir_func.Graph.{program_of, block_start}
use Rattle.pass_liveness.specs.mir_func.Sound.{ids_of, LastCloses}
use Rattle.pass_liveness.specs.sem_mir.Live.{Live}
use Rattle.pass_liveness.specs.Sets.{has}
use Rattle.spill_rule.specs.Rule.{Decides}
use Rattle.spill_select.specs.Incoming.{is_among}
use Rattle.spill_select.proofs.LiveInAmong.{passes, found, some_block, first_is, if_ok}
use Rattle.spill_select.proofs.incoming.incoming.Goals as goal

pub at_start-set-requires : goal.at_start-set-requires
at_start-set-requires c =
    let last : LastCloses c.args.f.now.blocks = subst (λ (g : Function). LastCloses g.blocks) c.f.view_is c.f.invariant.last in
    subst (λ (n : ℕ). 0 < n) (sym c.in_ok-live.ensures.long) (some_block c.args.f.now.blocks last)

pub returns : goal.returns
returns c =
    let f : Function = c.args.f.now in
    let last : LastCloses f.blocks = subst (λ (g : Function). LastCloses g.blocks) c.f.view_is c.f.invariant.last in
    let p : ℕ → Bool = λ r. has c.in_ok-live.live.slots c.at_start-set.result (Register r) in
    let decides : (r : ℕ) → (p r ≡ true) ↔ Live (program_of false f.blocks (λ q. None)) (Register r) (block_start (slice_index (ids_of f.blocks) 0)) =
    λ r. c.at_start-set.ensures f (Register r) c.in_ok-live.ensures false (λ q. None) in
    let first = first_is f.blocks last in
    if_ok c.live_of.result (λ (rs : List ℕ). rs ≡ filter p c.args.reserve.now) (λ (rs : List ℕ). Decides c.args.reserve.now f (is_among rs)) c.live_of.ensures
    (λ rs e r k. (
      λ t. subst (λ (n : ℕ). Live (program_of false f.blocks (λ q. None)) (Register r) (block_start n)) first
          ((decides r).0 (passes p r c.args.reserve.now (subst (λ (xs : List ℕ). is_among xs r ≡ true) e t))),
      λ h. subst (λ (xs : List ℕ). is_among xs r ≡ true) (sym e) (found p r c.args.reserve.now k
          ((decides r).1 (subst (λ (n : ℕ). Live (program_of false f.blocks (λ q. None)) (Register r) (block_start n)) (sym first) h))),
    ))
