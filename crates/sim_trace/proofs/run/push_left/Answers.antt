use Rattle.std.proofs.Common.{◌≡◌, ◌++◌, Option, Some, None, sym, ap, ◌∙◌, subst}
use Rattle.std.specs.Prelude.{OnOk}
use Rattle.rv64_instr.specs.declared.start.CallTarget.{CallTarget}
use Rattle.sim_trace.specs.Lines.{left_line}
use Rattle.sim_trace.proofs.Lifting.{on_ok}
use Rattle.sim_trace.proofs.Stops.{TellsTarget}
use Rattle.sim_trace.proofs.run.push_left.Goals as goal

one_target : (a b : CallTarget) → ◌≡◌ {A = Option CallTarget} (Some a) (Some b) → a ≡ b
one_target a b e = cc

no_target : (b : CallTarget) → ◌≡◌ {A = Option CallTarget} None (Some b) → ⊥
no_target b e = cc

pub returns-in-Some : goal.returns-in-Some
returns-in-Some c =
    let text = c.args.text.now in
    let how = c.args.how.now in
    let more = c.push_left_line.new.text in
    let target = c.in-Some.target in
    subst (λ (o : Option CallTarget). OnOk c.push_left_line.result (TellsTarget o text more how)) (sym c.in-Some.is)
    (on_ok c.push_left_line.result (more ≡ text ++ left_line how target) (TellsTarget (Some target) text more how) c.push_left_line.ensures
    (λ is t e. is ∙ ap (λ (x : CallTarget). text ++ left_line how x) (one_target target t e)))

pub returns-in-None : goal.returns-in-None
returns-in-None c = λ t e. absurd (no_target t (sym c.in-None.is ∙ e))
