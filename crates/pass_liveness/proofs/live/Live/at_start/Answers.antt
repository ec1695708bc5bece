use Rattle.std.proofs.Common.{◌≡◌, ◌∙◌, ap, subst, arith}
use Rattle.mir_func.specs.Function.{Function}
use Rattle.mir_func.specs.Sound.{AreApart}
use Rattle.rv64_instr.specs.declared.place.Place.{Place}
use Rattle.pass_liveness.specs.Liveness.{LiveSets, AreLiveSets}
use Rattle.pass_liveness.proofs.Ready.{at_start_answer}
use Rattle.pass_liveness.proofs.live.Live.at_start.Goals as goal

pub returns : goal.returns
returns c = λ (f : Function) (x : Place) (sets : AreLiveSets f c.args.self.now).
    let starts : c.self.inside.starts.items ≡ c.args.self.now.starts = ap (λ (l : LiveSets). l.starts) c.self.view_is in
    let at = rw starts at c.index.ensures in
    at_start_answer f c.args.self.now sets (subst AreApart sets.blocks sets.apart) c.args.block (omega (arith, sets.long, c.requires)) x c.copy.result
    c.index.result.now (c.copy.ensures ∙ at)
