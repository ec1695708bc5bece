use Rattle.std.proofs.Common.{◌≡◌, ◌++◌, [], ◌∷◌}
use Rattle.sim_trace.specs.Lines.{left_line, target_text}
use Rattle.sim_trace.proofs.Lifting.{on_ok}
use Rattle.sim_trace.proofs.Stops.{line_of}
use Rattle.sim_trace.proofs.run.push_left_line.Goals as goal

pub returns : goal.returns
returns c =
    let text = c.args.text.now in
    let how = c.args.how.now in
    let target = c.args.target.now in
    on_ok c.push.result (c.push.new.self ≡ c.push_target.new.text ++ 10 ∷ []) (c.push.new.self ≡ text ++ left_line how target) c.push.ensures.ok
    (λ is. line_of text how (target_text target) c.push_str.new.text c.push_target.new.text c.push.new.self c.in_ok-push_str.ensures.ok
    c.in_ok-push_target.ensures is)
