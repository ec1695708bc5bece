use Rattle.std.proofs.Common.{◌≡◌, ◌+◌, ◌-◌, ◌<◌, ℕ, length, take, sym, ap, ◌∙◌, arith}
use Rattle.rv64_instr.specs.declared.place.Place.TheVariants.{Register}
use Rattle.mir_func.specs.declared.item.Item.{Item}
use Rattle.pass_trait.specs.Causes.{defines}
use Rattle.pass_salvage.specs.SalvageAction.{last_definition}
use Rattle.pass_salvage.proofs.Found.{last_down, last_found}
use Rattle.pass_salvage.proofs.salvage_action.last_definition.Goals as goal

pub returns-then-defines-clause-found : goal.returns-then-defines-clause-found
returns-then-defines-clause-found c =
    let at : ℕ = c.loop-at.at - 1 in
    let one : c.loop-at.at ≡ at + 1 = (let t = c.loop-at-test.true in omega (arith, t)) in
    let lt : at < length c.args.items.now = (let t = c.loop-at-test.true in let h = c.loop-at.invariant.0 in omega (arith, t, h)) in
    sym (c.loop-at.invariant.1 ∙ ap (λ n. last_definition c.args.s (take n c.args.items.now)) one ∙
    last_found c.args.s c.args.items.now at c.index-items-at.result lt c.index-items-at.is
    (ap (λ (x : Item). defines (Register c.args.s) x.kind) c.index-items-at.is ∙ sym c.defines.ensures ∙ c.if-defines.true))

pub loop-at-preserved : goal.loop-at-preserved
loop-at-preserved c =
    let at : ℕ = c.loop-at.at - 1 in
    let one : c.loop-at.at ≡ at + 1 = (let t = c.loop-at-test.true in omega (arith, t)) in
    let lt : at < length c.args.items.now = (let t = c.loop-at-test.true in let h = c.loop-at.invariant.0 in omega (arith, t, h)) in (
      omega (arith, lt),
      c.loop-at.invariant.1 ∙ ap (λ n. last_definition c.args.s (take n c.args.items.now)) one ∙
          last_down c.args.s c.args.items.now at c.index-items-at.result lt c.index-items-at.is
          (ap (λ (x : Item). defines (Register c.args.s) x.kind) c.index-items-at.is ∙ sym c.defines.ensures ∙ c.if-defines.false),
    )
