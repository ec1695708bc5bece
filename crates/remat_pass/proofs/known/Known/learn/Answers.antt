use Rattle.std.proofs.Common.{inl, inr}
use Rattle.remat_pass.specs.Table.{known_by}
use Rattle.remat_pass.proofs.Learning.{learned_same, learned_fixes}
use Rattle.remat_pass.proofs.known.Known.learn.Goals as goal

pub returns-in_ok-learn_register-in-Fixes : goal.returns-in_ok-learn_register-in-Fixes
returns-in_ok-learn_register-in-Fixes c =
    let h = rw c.number.ensures.value at c.in_ok-learn_register-in-Fixes.ensures in
    learned_fixes c.args.decoded.now c.in-Fixes.rd c.in-Fixes.n c.in-Fixes.is (known_by c.args.self.now.registers c.args.self.now.slots) _ h

pub returns-in-Moves : goal.returns-in-Moves
returns-in-Moves c =
    let known = known_by c.args.self.now.registers c.args.self.now.slots in
    let now = c.args.decoded.now in
    elim c.in-Moves.is [
      | inl w ↦ learned_same now w.2 tt known
      | inr (inl w) ↦ learned_same now w.4 tt known
      | inr (inr (inl w)) ↦ learned_same now w.3 tt known
      | inr (inr (inr (inl w))) ↦ learned_same now w.4 tt known
      | inr (inr (inr (inr (inl w)))) ↦ learned_same now w.2 tt known
      | inr (inr (inr (inr (inr (inl w))))) ↦ learned_same now w.4 tt known
      | inr (inr (inr (inr (inr (inr (inl w)))))) ↦ learned_same now w.4 tt known
      | inr (inr (inr (inr (inr (inr (inr (inl w))))))) ↦ learned_same now w.1 tt known
      | inr (inr (inr (inr (inr (inr (inr (inr (inl w)))))))) ↦ learned_same now w.1 tt known
      | inr (inr (inr (inr (inr (inr (inr (inr (inr w)))))))) ↦ learned_same now w.1 tt known
    ]
