use Rattle.std.proofs.Common.{◌≡◌, ◌+◌, ℕ, List, ◌++◌, Option, Bool, cond, ap, ◌∙◌, subst, arith}
use Rattle.mir_func.specs.declared.debug_substitution.DebugSubstitution.{DebugSubstitution}
use Rattle.mir_func.specs.Function.{Function}
use Rattle.pass_trait.specs.declared.loss.Loss.{Loss}
use Rattle.pass_trait.specs.Sizes.{code_count}
use Rattle.dce_proof.specs.dce_rule.Dead.{IsRound}
use Rattle.dce_proof.specs.Round.{IsDeadRound, IsRoundWith}
use Rattle.dce_proof.proofs.Follows.{round_code}
use Rattle.dce_pass.proofs.Loop.{going_begins, room, going_on, going_stops, going_ends}
use Rattle.dce_pass.proofs.rounds.dead_rounds.Goals as goal

pub loop-going-init : goal.loop-going-init
loop-going-init c = going_begins c.args.f.now c.args.subs.now c.new-losses.result c.new-losses.ensures

pub dead_round-requires : goal.dead_round-requires
dead_round-requires c =
    room c.args.f.now c.args.subs.now c.loop-going.f c.loop-going.subs c.loop-going.losses c.loop-going.going c.loop-going.invariant c.requires

pub loop-going-preserved-in-Some : goal.loop-going-preserved-in-Some
loop-going-preserved-in-Some c =
    let f : Function = c.loop-going.f in
    let subs : List DebugSubstitution = c.loop-going.subs in
    let g : Function = c.dead_round.new.f in
    let more : List DebugSubstitution = c.dead_round.new.subs in
    let here : List Loss = c.in-Some.more in
    let r : IsDeadRound f subs g more here = subst (λ (v : Option (List Loss)). IsRoundWith f subs g more v) c.in-Some.is c.in_ok-more.ensures.round in
    going_on c.args.f.now c.args.subs.now f subs c.loop-going.losses c.loop-going.going c.loop-going.invariant g more here c.extend_from_slice.new.self
    c.loop-going.going c.dead_round.ensures.sound c.loop-going-test.true
    (c.in_ok-extend_from_slice-in-Some.ensures.ok ∙ ap (λ (ls : List Loss). c.loop-going.losses ++ ls) c.as_slice.ensures) r

pub loop-going-smaller-in-Some : goal.loop-going-smaller-in-Some
loop-going-smaller-in-Some c =
    let f : Function = c.loop-going.f in
    let subs : List DebugSubstitution = c.loop-going.subs in
    let g : Function = c.dead_round.new.f in
    let more : List DebugSubstitution = c.dead_round.new.subs in
    let r : IsDeadRound f subs g more c.in-Some.more =
    subst (λ (v : Option (List Loss)). IsRoundWith f subs g more v) c.in-Some.is c.in_ok-more.ensures.round in
    let less = (round_code f g subs more c.in-Some.more c.dead_round.ensures.sound r).1 in
    omega (arith, less)

pub loop-going-preserved : goal.loop-going-preserved
loop-going-preserved c =
    let f : Function = c.loop-going.f in
    let subs : List DebugSubstitution = c.loop-going.subs in
    let g : Function = c.dead_round.new.f in
    let more : List DebugSubstitution = c.dead_round.new.subs in
    let r : (g ≡ f) × (more ≡ subs) × IsRound f f = subst (λ (v : Option (List Loss)). IsRoundWith f subs g more v) c.in-None.is c.in_ok-more.ensures.round in
    going_stops c.args.f.now c.args.subs.now f subs c.loop-going.losses c.loop-going.going c.loop-going.invariant g more r.0 r.1 r.2

pub loop-going-smaller : goal.loop-going-smaller
loop-going-smaller c =
    let f : Function = c.loop-going.f in
    let subs : List DebugSubstitution = c.loop-going.subs in
    let g : Function = c.dead_round.new.f in
    let more : List DebugSubstitution = c.dead_round.new.subs in
    let r : (g ≡ f) × (more ≡ subs) × IsRound f f = subst (λ (v : Option (List Loss)). IsRoundWith f subs g more v) c.in-None.is c.in_ok-more.ensures.round in
    let same : code_count g ≡ code_count f = ap code_count r.0 in
    let one : ◌≡◌ {A = ℕ} (cond c.loop-going.going 1 0) 1 = ap (λ (z : Bool). cond z 1 0) c.loop-going-test.true in
    omega (arith, same, one)

pub returns-clause-rounds : goal.returns-clause-rounds
returns-clause-rounds c =
    going_ends c.args.f.now c.args.subs.now c.loop-going.f c.loop-going.subs c.loop-going.losses c.loop-going.going c.loop-going.invariant
    c.loop-going-test.false
