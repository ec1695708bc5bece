use Rattle.std.proofs.Common.{◌≡◌, ◌++◌, [], ◌∷◌}
use Rattle.std.specs.Prelude.{codes}
use Rattle.std.specs.Fmt.{decimal}
use Rattle.sim_trace.specs.Lines.{return_line}
use Rattle.sim_trace.proofs.Lifting.{on_ok}
use Rattle.sim_trace.proofs.Stops.{line_of}
use Rattle.sim_trace.proofs.run.push_return.Goals as goal

pub returns : goal.returns
returns c =
    on_ok c.push.result (c.push.new.self ≡ c.push_decimal.new.text ++ 10 ∷ []) (c.push.new.self ≡ c.args.text.now ++ return_line c.args.value)
    c.push.ensures.ok
    (line_of c.args.text.now (codes "stop returned ") (decimal c.args.value) c.push_str.new.text c.push_decimal.new.text c.push.new.self
    c.in_ok-push_str.ensures.ok c.in_ok-push_decimal.ensures.ok)
