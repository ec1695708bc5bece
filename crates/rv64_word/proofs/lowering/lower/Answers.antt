use Rattle.std.proofs.Common.{◌≡◌, w64, ap, ◌∙◌}
use Rattle.std.specs.Prelude.{ℤ}
use Rattle.std.proofs.lemmas.Int.{to_z-of_z}
use Rattle.rv64_word.specs.Lowering.{lowered}
use Rattle.rv64_word.proofs.Words.{lowered_fits, lowered_acts}
use Rattle.rv64_word.proofs.lowering.lower.Goals as goal

pub returns-clause-encodable : goal.returns-clause-encodable
returns-clause-encodable c =
    let z = to_z-of_z w64 c.args.offset c.ranges.offset in
    let e : c.in_fields.result ≡ lowered c.args.offset c.args.object c.args.i.now =
    c.in_fields.ensures ∙ ap (λ (z : ℤ). lowered z c.args.object c.args.i.now) z in
    rw e (lowered_fits c.args.offset c.args.object c.args.i.now)

pub returns-clause-row : goal.returns-clause-row
returns-clause-row c =
    let z = to_z-of_z w64 c.args.offset c.ranges.offset in
    let e : c.in_fields.result ≡ lowered c.args.offset c.args.object c.args.i.now =
    c.in_fields.ensures ∙ ap (λ (z : ℤ). lowered z c.args.object c.args.i.now) z in
    rw e (lowered_acts c.args.offset c.args.object c.args.i.now)
