use Rattle.std.proofs.Common.{◌≡◌, ℕ, ◌∙◌, refl, sym, ap, subst, arith, drop}
use Rattle.rv64_instr.specs.DefsAndUses.{caller_saved}
use Rattle.sem_machine.specs.Machine.{set_in, set_all_in}
use Rattle.sim_machine.specs.Kept.{StandsFor}
use Rattle.sim_machine.proofs.Calls.{set_all_turn, each_below}
use Rattle.sim_machine.proofs.hart.Hart.set_caller_saved.Goals as goal

pub loop-i-init : goal.loop-i-init
loop-i-init c = record { stands = λ s h. (s.regs, h, refl); counter = refl; same = (refl, refl) }

pub write-requires : goal.write-requires
write-requires c = each_below caller_saved 32 refl c.loop-i.i (omega arith)

pub loop-i-preserved : goal.loop-i-preserved
loop-i-preserved c = record {
  stands = λ s h.
      let w = c.loop-i.invariant.stands s h in (
        set_in _ _ w.0,
        c.write.ensures.stands (record s { regs = w.0 }) w.1,
        set_all_turn caller_saved c.args.values.now c.loop-i.i w.0 _ (omega arith) w.2,
      );
  counter = c.write.ensures.counter ∙ c.loop-i.invariant.counter;
  same = (c.write.ensures.same.0 ∙ c.loop-i.invariant.same.0, c.write.ensures.same.1 ∙ c.loop-i.invariant.same.1);
}

pub returns : goal.returns
returns c = record {
  stands = λ s h.
      let w = c.loop-i.invariant.stands s h in
      let all : c.loop-i.i ≡ 16 = omega arith in
      let e = ap (λ (n : ℕ). set_all_in (drop n caller_saved) (drop n c.args.values.now) w.0) (sym all) ∙ w.2 in
      subst (λ (f : ℕ → ℕ). StandsFor c.loop-i.self (record s { regs = f })) (e) w.1;
  counter = c.loop-i.invariant.counter;
  same = c.loop-i.invariant.same;
}
