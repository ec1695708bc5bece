use Rattle.std.proofs.Common.{◌≡◌, List, [], ◌∷◌, false, true, sym, subst, arith}
use Rattle.mir_func.specs.declared.debug_substitution.DebugSubstitution.{DebugSubstitution}
use Rattle.mir_func.specs.Function.{Function}
use Rattle.pass_trait.specs.Change.{Change, change}
use Rattle.pass_trait.specs.declared.loss.Loss.{Loss}
use Rattle.pass_trait.specs.Steps.{KeepsSteps}
use Rattle.pass_trait.specs.Simulation.{PreservesSimulation}
use Rattle.pass_trait.specs.Sizes.{KeepsSizes}
use Rattle.copyprop_proof.specs.copyprop_rule.Rule.{salvaged_function, salvaged_entries}
use Rattle.copyprop_proof.proofs.copyprop_rule.Sizes.{sizes_copied}
use Rattle.copyprop_proof.proofs.Follows.{copies_follow}
use Rattle.copyprop_proof.specs.Rule.{copy_step}
use Rattle.copyprop_proof.proofs.Kept.{copies_keep}
use Rattle.copyprop_pass.proofs.copies.CopyPassPass.run.Goals as goal

-- what holds of the function and its entries that the rule makes, holds of those that were made
moved : (P : Change → Type 0) (f g : Function) (subs more : List DebugSubstitution) → g ≡ salvaged_function f subs → more ≡ salvaged_entries f subs →
    P (change f subs (salvaged_function f subs) (salvaged_entries f subs)) → P (change f subs g more)
moved P f g subs more is entries h =
    subst (λ (z : Function). P (change f subs z more)) (sym is) (subst (λ (es : List DebugSubstitution). P (change f subs (salvaged_function f subs) es))
    (sym entries) h)

pub take_copies_out-requires : goal.take_copies_out-requires
take_copies_out-requires c = let h = c.requires.numbers in omega (arith, h)

pub returns-clause-follows : goal.returns-clause-follows
returns-clause-follows c = λ fits.
    moved
    (PreservesSimulation false true) c.args.f.now c.take_copies_out.new.f c.args.subs.now c.take_copies_out.new.subs c.in_ok-take_copies_out.ensures.function
    c.in_ok-take_copies_out.ensures.entries (copies_follow c.args.f.now c.args.subs.now c.take_copies_out.ensures.sound).1

pub returns-clause-steps : goal.returns-clause-steps
returns-clause-steps c =
    subst (λ (losses : List Loss). KeepsSteps (copy_step ∷ []) (change c.args.f.now c.args.subs.now c.take_copies_out.new.f c.take_copies_out.new.subs) losses)
    (sym c.new.ensures)
    (moved (λ z. KeepsSteps (copy_step ∷ []) z []) c.args.f.now c.take_copies_out.new.f c.args.subs.now c.take_copies_out.new.subs
    c.in_ok-take_copies_out.ensures.function
    c.in_ok-take_copies_out.ensures.entries (copies_keep c.args.f.now c.args.subs.now c.take_copies_out.ensures.sound))

pub returns-clause-sizes : goal.returns-clause-sizes
returns-clause-sizes c =
    moved (KeepsSizes 1 1) c.args.f.now c.take_copies_out.new.f c.args.subs.now c.take_copies_out.new.subs c.in_ok-take_copies_out.ensures.function
    c.in_ok-take_copies_out.ensures.entries (sizes_copied c.args.f.now c.args.subs.now)
