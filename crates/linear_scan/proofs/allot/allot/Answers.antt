use Rattle.std.proofs.Common.{◌≡◌, ◌≤◌, ℕ, List, [], Option, Some, None, length, sym, ◌∙◌, subst}
use Rattle.mir_func.specs.declared.block.Block.{Block}
use Rattle.mir_func.specs.Function.{Function}
use Rattle.mir_func.specs.Sound.{AllItems, IsSound, HasForm}
use Rattle.scan_allot.specs.Allotted.{AreAllotted}
use Rattle.scan_allot.specs.Given.{given_by}
use Rattle.scan_allot.proofs.Sound.{allotted_is_sound}
use Rattle.scan_settle.proofs.spill_pass.Results.{same_blocks}
use Rattle.linear_scan.proofs.allot.allot.Goals as goal

pub allotted_blocks-requires-clause-few : goal.allotted_blocks-requires-clause-few
allotted_blocks-requires-clause-few c =
    subst (λ (given : List (Option ℕ)). length given ≤ 4096) (sym c.as_slice-2.ensures.value) c.in_ok-given.ensures.few

pub allotted_blocks-requires-clause-real : goal.allotted_blocks-requires-clause-real
allotted_blocks-requires-clause-real c r q e =
    let f : Function = c.args.f.now in
    let forms : AllItems (λ i. HasForm i.kind) f.blocks =
    subst (λ (bs : List Block). AllItems (λ i. HasForm i.kind) bs) (c.as_slice.ensures ∙ same_blocks _ _ c.f.view_is) c.know_forms.ensures in
    let real = c.allocation_is_coloring.ensures c.args.reserve.now f (given_by c.in_ok-given.given.items) (λ k. None) forms c.in_ok-given.ensures.allocation in
    (real.real r q (subst (λ (given : List (Option ℕ)). given_by given r ≡ Some q) c.as_slice-2.ensures.value e)).2

pub invariant_of-f : goal.invariant_of-f
invariant_of-f c =
    let f : Function = c.args.f.now in
    let given : ℕ → Option ℕ = given_by c.in_ok-given.given.items in
    let sound : IsSound f = subst IsSound c.f.view_is c.f.invariant in
    let forms : AllItems (λ i. HasForm i.kind) f.blocks =
    subst (λ (bs : List Block). AllItems (λ i. HasForm i.kind) bs) (c.as_slice.ensures ∙ same_blocks _ _ c.f.view_is) c.know_forms.ensures in
    let a : AreAllotted f [] given c.in_ok-made.made.blocks c.in_ok-made.made.losses =
    subst (λ (table : List (Option ℕ)). AreAllotted f [] (given_by table) c.in_ok-made.made.blocks c.in_ok-made.made.losses)
    c.as_slice-2.ensures.value (c.in_ok-made.ensures []) in
    subst IsSound (sym (λ t. record { name = (c.f.view_is t).name; slots = (c.f.view_is t).slots; objects = (c.f.view_is t).objects; blocks = a.are t }))
    (allotted_is_sound c.args.reserve.now f [] given a.silent
    (record { sound = sound; forms = forms; allocation = c.in_ok-given.ensures.allocation; decides = a.decides }))

pub returns-clause-allotted : goal.returns-clause-allotted
returns-clause-allotted c subs =
    let f : Function = c.args.f.now in
    let given : ℕ → Option ℕ = given_by c.in_ok-given.given.items in
    let a : AreAllotted f subs given c.in_ok-made.made.blocks c.in_ok-made.made.losses =
    subst (λ (table : List (Option ℕ)). AreAllotted f subs (given_by table) c.in_ok-made.made.blocks c.in_ok-made.made.losses)
    c.as_slice-2.ensures.value (c.in_ok-made.ensures subs) in
    record {
      given = given;
      allocation = c.in_ok-given.ensures.allocation;
      silent = a.silent;
      decides = a.decides;
      made = λ t. record { name = (c.f.view_is t).name; slots = (c.f.view_is t).slots; objects = (c.f.view_is t).objects; blocks = a.are t };
      ordered = a.ordered;
      silenced = a.silenced;
    }
