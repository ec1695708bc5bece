use Rattle.std.proofs.Common.{length, sym, ap, ◌∙◌, arith}
use Rattle.std.proofs.lemmas.List.{length-map}
use Rattle.mir_func.specs.declared.block.Block.{Block}
use Rattle.dce_stale.proofs.Visits.{visited}
use Rattle.dce_stale.proofs.solve.EquationsAnalysis.visit.Goals as goal

pub visit-requires-clause-long : goal.visit-requires-clause-long
visit-requires-clause-long c =
    let s = c.requires.valid in
    s.long ∙ sym (ap length s.names ∙ length-map c.args.self.now.f.now.blocks (λ (b : Block). b.id))

pub visit-requires-clause-inside : goal.visit-requires-clause-inside
visit-requires-clause-inside c = omega (arith, c.requires.inside, c.requires.valid.long)

pub returns : goal.returns
returns c =
    let v = visited _ _ _ _ _ _ _ _ c.requires.valid c.requires.inside c.visit.ensures in
    record { valid = v.valid; level = v.level; lower = v.lower; closed = v.closed; kept = v.kept }
