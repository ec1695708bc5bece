use Rattle.std.proofs.Common.{◌≡◌, ℕ, ◌<◌, ◌≤◌, List, [], ◌∷◌, length, slice_index_or, Option, Some, Bool, ◌||◌, ◌&&◌, not, sym, ap, ◌∙◌, subst, arith}
use Rattle.rv64_instr.specs.declared.place.Place.TheVariants.{Register}
use Rattle.pass_liveness.specs.Sets.{has, is_place}
use Rattle.pass_liveness.proofs.Blocks.{get_or_any}
use Rattle.scan_choice.specs.scan_allocation.Coloring.{now}
use Rattle.scan_choice.specs.Given.{given_by}
use Rattle.scan_stale.specs.Flow.{taken_by}
use Rattle.scan_stale.specs.Shared.{is_sharing}
use Rattle.scan_stale.proofs.Shared.{nothing_taken, sharing_taken}
use Rattle.scan_stale.proofs.places.GivenPlaces.insert_sharing.Goals as goal

pub returns-then-q-len : goal.returns-then-q-len
returns-then-q-len c x =
    let slots : List ℕ = c.args.names.now.slots in
    let s : ℕ = c.args.s in
    let q : ℕ = c.number-q.result in
    let table : List (Option ℕ) = c.self.inside.given in
    let w : Bool = has slots c.args.set.now x in
    let len = c.len.ensures in
    let long = c.self.invariant.long in
    let inside : q < length c.self.inside.shared.items = omega (arith, c.if-q-len.true, len) in
    let place : now (given_by table) s ≡ q =
    sym (c.number-q.ensures.value ∙ c.now-place.ensures ∙ ap (λ (t : List (Option ℕ)). now (given_by t) s) c.as_slice.ensures) in
    let others : has slots c.index.result.now x ≡ is_sharing (given_by table) q x =
    ap (λ (words : List ℕ). has slots words x) (c.index.ensures ∙ get_or_any c.self.inside.shared.items q c.index.result.now [] inside) ∙
    c.self.invariant.each q (omega (arith, inside, long)) slots x c.args.names.now.few in
    c.unite_others.ensures x ∙ ap (λ (z : Bool). (z && not (is_place x (Some (Register s)))) || w) others ∙
    ap (λ (z : Bool). z || w) (sharing_taken (given_by table) s q x place) ∙
    ap (λ (t : List (Option ℕ)). taken_by (given_by t) (s ∷ []) x || w) c.self.view_is

pub returns-else-q-len : goal.returns-else-q-len
returns-else-q-len c x =
    let slots : List ℕ = c.args.names.now.slots in
    let s : ℕ = c.args.s in
    let q : ℕ = c.number-q.result in
    let table : List (Option ℕ) = c.self.inside.given in
    let w : Bool = has slots c.args.set.now x in
    let len = c.len.ensures in
    let long = c.self.invariant.long in
    let place : now (given_by table) s ≡ q =
    sym (c.number-q.ensures.value ∙ c.now-place.ensures ∙ ap (λ (t : List (Option ℕ)). now (given_by t) s) c.as_slice.ensures) in
    let high : 32 ≤ now (given_by table) s = omega (arith, c.if-q-len.false, len, long, place) in
    sym (ap (λ (t : List (Option ℕ)). taken_by (given_by t) (s ∷ []) x || w) (sym c.self.view_is) ∙
    ap (λ (z : Bool). z || w) (nothing_taken (given_by table) c.self.invariant.real s high x))
