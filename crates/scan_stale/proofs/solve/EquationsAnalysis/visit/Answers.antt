use Rattle.std.proofs.Common.{length, sym, ap, ◌∙◌, arith}
use Rattle.std.proofs.lemmas.List.{length-map}
use Rattle.mir_func.specs.declared.block.Block.{Block}
use Rattle.scan_choice.specs.Given.{given_by}
use Rattle.scan_stale.proofs.Visits.{visited}
use Rattle.scan_stale.proofs.solve.EquationsAnalysis.visit.Goals as goal

pub visit-requires-clause-few : goal.visit-requires-clause-few
visit-requires-clause-few c = c.requires.valid.few

pub visit-requires-clause-real : goal.visit-requires-clause-real
visit-requires-clause-real c = c.requires.valid.real

pub visit-requires-clause-long : goal.visit-requires-clause-long
visit-requires-clause-long c =
    let s = c.requires.valid.state in
    s.long ∙ sym (ap length s.names ∙ length-map c.args.self.now.f.now.blocks (λ (b : Block). b.id))

pub visit-requires-clause-inside : goal.visit-requires-clause-inside
visit-requires-clause-inside c = omega (arith, c.requires.inside, c.requires.valid.state.long)

pub returns : goal.returns
returns c =
    let v = visited _ _ _ (given_by c.args.self.now.given.now) _ _ _ _ c.requires.valid.state c.requires.inside c.visit.ensures in
    record {
      valid = record { few = c.requires.valid.few; real = c.requires.valid.real; state = v.valid };
      level = v.level;
      lower = v.lower;
      closed = v.closed;
      kept = v.kept;
    }
