use Rattle.std.proofs.Common.{ℕ, List, subst}
use Rattle.mir_func.specs.declared.debug_substitution.DebugSubstitution.{DebugSubstitution}
use Rattle.mir_func.specs.Function.{Function}
use Rattle.pass_trait.specs.Change.{change}
use Rattle.pass_trait.specs.Steps.{KeepsSteps}
use Rattle.scan_pass.specs.Scanned.{scan_steps, IsScanned}
use Rattle.scan_settle.proofs.spill_pass.Results.{if_ok}
use Rattle.linear_scan.proofs.scan.ScanPassPass.run.Goals as goal

pub returns-clause-follows : goal.returns-clause-follows
returns-clause-follows c =
    let f : Function = c.args.f.now in
    let g : Function = c.scan.new.f in
    let subs : List DebugSubstitution = c.args.subs.now in
    let reserve : List ℕ = c.as_slice.result.now in
    if_ok c.scan.result (IsScanned reserve f subs g) _ c.scan.ensures.scanned
    (λ losses h fits. c.scanned_follows.ensures reserve f subs g losses c.scan.ensures.sound c.scan.ensures.forms h)

pub returns-clause-steps : goal.returns-clause-steps
returns-clause-steps c =
    let f : Function = c.args.f.now in
    let g : Function = c.scan.new.f in
    let subs : List DebugSubstitution = c.args.subs.now in
    let reserve : List ℕ = c.as_slice.result.now in
    if_ok c.scan.result (IsScanned reserve f subs g) _ c.scan.ensures.scanned
    (λ losses h. subst (λ (r : List ℕ). KeepsSteps (scan_steps r) (change f subs g subs) losses) c.as_slice.ensures
    (c.scanned_keeps_steps.ensures reserve f subs g losses c.scan.ensures.sound c.scan.ensures.forms h))

pub returns-clause-sizes : goal.returns-clause-sizes
returns-clause-sizes c =
    let f : Function = c.args.f.now in
    let g : Function = c.scan.new.f in
    let subs : List DebugSubstitution = c.args.subs.now in
    let reserve : List ℕ = c.as_slice.result.now in
    if_ok c.scan.result (IsScanned reserve f subs g) _ c.scan.ensures.scanned
    (λ losses h. c.scanned_keeps_sizes.ensures reserve f subs g losses c.scan.ensures.sound c.scan.ensures.forms h)
