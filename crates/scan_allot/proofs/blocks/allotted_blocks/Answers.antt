use Rattle.std.proofs.Common.{◌≡◌, ◌↔◌, ◌≤◌, ℕ, List, length, Option, Contains, sym, ap, ◌∙◌, subst}
use Rattle.mir_func.specs.declared.debug_substitution.DebugSubstitution.{DebugSubstitution}
use Rattle.mir_func.specs.Function.{Function}
use Rattle.mir_func.specs.Sound.{IsSound}
use Rattle.pass_trait.specs.declared.loss.Loss.{Loss}
use Rattle.pass_trait.specs.Order.{IsInOrder}
use Rattle.scan_stale.specs.scan_choice.Given.{given_by}
use Rattle.scan_stale.specs.Sets.{starts_of}
use Rattle.scan_stale.specs.Written.{AreReal}
use Rattle.scan_allot.specs.Allotted.{AreAllotted}
use Rattle.scan_allot.specs.Silent.{silent_by}
use Rattle.scan_allot.proofs.LostItems.{are_silenced}
use Rattle.scan_allot.proofs.Silences.{decides}
use Rattle.scan_allot.proofs.blocks.allotted_blocks.Goals as goal

pub solve-requires-clause-few : goal.solve-requires-clause-few
solve-requires-clause-few c = subst (λ (table : List (Option ℕ)). length table ≤ 4096) (sym c.in_ok-places.ensures) c.requires.few

pub solve-requires-clause-real : goal.solve-requires-clause-real
solve-requires-clause-real c = subst (λ (table : List (Option ℕ)). AreReal (given_by table)) (sym c.in_ok-places.ensures) c.requires.real

pub blocks_now-requires-clause-same : goal.blocks_now-requires-clause-same
blocks_now-requires-clause-same c = c.new-named.ensures

pub blocks_now-requires-clause-few : goal.blocks_now-requires-clause-few
blocks_now-requires-clause-few c = subst (λ (table : List (Option ℕ)). length table ≤ 4096) (sym c.in_ok-places.ensures) c.requires.few

pub blocks_now-requires-clause-real : goal.blocks_now-requires-clause-real
blocks_now-requires-clause-real c = subst (λ (table : List (Option ℕ)). AreReal (given_by table)) (sym c.in_ok-places.ensures) c.requires.real

pub returns : goal.returns
returns c subs =
    let f : Function = c.args.f.now in
    let given : ℕ → Option ℕ = given_by c.in_ok-places.places in
    let sound : IsSound f = subst IsSound c.f.view_is c.f.invariant in
    let w = c.in_ok-stale.stale in
    let right = decides f given w c.in_ok-stale.ensures subs in
    let losses : c.from.result ≡ c.put_in_order.new.losses.items = c.from.ensures in
    let allotted : AreAllotted f subs given c.in_ok-blocks.blocks c.from.result = record {
      silent = silent_by f given (starts_of f given w);
      decides = right;
      are = c.in_ok-blocks.ensures.blocks;
      ordered = subst IsInOrder (sym losses) c.put_in_order.ensures.ordered;
      silenced = are_silenced f sound.blocks_apart subs given (silent_by f given (starts_of f given w)) right c.from.result
          (λ l. subst (λ (ls : List Loss). Contains c.from.result l ↔ Contains ls l) c.in_ok-blocks.ensures.lost
          (subst (λ (ls : List Loss). Contains ls l ↔ Contains c.blocks_now.new.lost.items l) (sym losses) (c.put_in_order.ensures.same l)));
    } in
    subst (λ (table : List (Option ℕ)). AreAllotted f subs (given_by table) c.in_ok-blocks.blocks c.from.result) c.in_ok-places.ensures allotted
