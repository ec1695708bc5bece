use Rattle.std.proofs.Common.{◌≡◌, List, [], map, Bool, true, false, append-nil, sym, ap, ◌∙◌, subst}
use Rattle.mir_func.specs.declared.block.Block.{Block}
use Rattle.mir_func.specs.declared.position.Pos.{Pos}
use Rattle.mir_func.specs.Function.{Function}
use Rattle.mir_func.specs.Sound.{AllItems, IsSound, HasForm}
use Rattle.dce_stale.specs.dce_rule.Dead.{Places, Ends}
use Rattle.dce_stale.specs.dce_rule.Wrong.{silenced_block, taken_out}
use Rattle.dce_stale.proofs.dce_rule.Sound.{sound_taken}
use Rattle.dce_stale.specs.dce_analysis.Judge.{AreJudged}
use Rattle.dce_stale.specs.Sets.{StaleSets, AreStaleSets, wrong_of, starts_of}
use Rattle.dce_sweep.proofs.None.{some_dead, none_taken, was_taken}
use Rattle.dce_sweep.proofs.round.sweep_dead.Goals as goal

pub returns-then-not-has_dead : goal.returns-then-not-has_dead
returns-then-not-has_dead c =
    let f : Function = c.args.f.now in
    let dead : List (List Bool) = c.in_ok-dead.dead in
    let forms : AllItems (λ i. HasForm i.kind) f.blocks =
    subst (λ (bs : List Block). AllItems (λ i. HasForm i.kind) bs) (c.as_slice.ensures ∙ ap (λ (z : Function). z.blocks) c.f.view_is) c.know_forms.ensures in
    let none : some_dead dead ≡ false = ap some_dead (sym c.as_slice-2.ensures) ∙ sym c.has_dead.ensures ∙ c.if-not-has_dead.true in
    ([], sym (append-nil c.args.lost.now.items), none_taken f dead c.in_ok-dead.ensures forms none)

pub returns : goal.returns
returns c =
    let f : Function = c.args.f.now in
    let dead : List (List Bool) = c.in_ok-dead.dead in
    let w : StaleSets = c.in_ok-wrong.wrong in
    let sound : IsSound f = subst IsSound c.f.view_is c.f.invariant in
    let forms : AllItems (λ i. HasForm i.kind) f.blocks =
    subst (λ (bs : List Block). AllItems (λ i. HasForm i.kind) bs) (c.as_slice.ensures ∙ ap (λ (z : Function). z.blocks) c.f.view_is) c.know_forms.ensures in
    let some : some_dead dead ≡ true = ap some_dead (sym c.as_slice-2.ensures) ∙ sym c.has_dead.ensures ∙ c.if-not-has_dead.false in
    let sets : AreStaleSets f dead w = subst (λ (ds : List (List Bool)). AreStaleSets f ds w) c.as_slice-3.ensures c.in_ok-wrong.ensures in
    was_taken f dead c.in_ok-dead.ensures forms sound w sets c.in_ok-left.left.items c.args.lost.now.items c.left_blocks.new.lost.items
    (λ ends are. c.in_ok-left.ensures.left ends (c.as_slice-4.ensures ∙ are)) (λ ends are. c.in_ok-left.ensures.lost ends (c.as_slice-4.ensures ∙ are)) _
    (λ i. record { name = (c.f.view_is i).name; slots = (c.f.view_is i).slots; objects = (c.f.view_is i).objects; blocks = c.from.ensures i }) some

pub invariant_of-f : goal.invariant_of-f
invariant_of-f c =
    let f : Function = c.args.f.now in
    let judged : AreJudged f c.in_ok-dead.dead = c.in_ok-dead.ensures in
    let ends : Ends = judged.ends in
    let wrong : Pos → Places = wrong_of judged.ends f (starts_of c.in_ok-wrong.wrong) in
    let sound : IsSound f = subst IsSound c.f.view_is c.f.invariant in
    let blocks : c.from.result ≡ map (silenced_block wrong ends) f.blocks =
    c.from.ensures ∙ c.in_ok-left.ensures.left ends (c.as_slice-4.ensures ∙ judged.verdicts_are) in
    let made : record { name = c.f.inside.name; slots = c.f.inside.slots; objects = c.f.inside.objects; blocks = c.from.result } ≡ taken_out wrong ends f =
    λ i. record { name = (c.f.view_is i).name; slots = (c.f.view_is i).slots; objects = (c.f.view_is i).objects; blocks = blocks i } in
    subst IsSound (sym made) (sound_taken wrong ends f sound)
