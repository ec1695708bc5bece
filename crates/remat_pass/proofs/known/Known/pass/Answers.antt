use Rattle.std.proofs.Common.{inl, inr, refl}
use Rattle.rv64_instr.specs.Row.{row_of}
use Rattle.remat_pass.specs.Table.{known_by}
use Rattle.remat_pass.proofs.Learning.{past_same, past_code}
use Rattle.remat_pass.proofs.known.Known.pass.Goals as goal

pub returns-in_ok-learn-in-Code : goal.returns-in_ok-learn-in-Code
returns-in_ok-learn-in-Code c =
    let row = row_of c.in-Code.i in
    let shows = c.decoded-decoded.ensures.row in
    past_code c.args.kind.now c.in-Code.i c.in-Code.field-1 c.in-Code.is (known_by c.args.self.now.registers c.args.self.now.slots)
    (known_by c.forget.new.self.registers c.forget.new.self.slots) (known_by c.learn.new.self.registers c.learn.new.self.slots)
    c.forget.ensures (c.in_ok-learn-in-Code.ensures row shows)

pub returns-in-Mark : goal.returns-in-Mark
returns-in-Mark c =
    let known = known_by c.args.self.now.registers c.args.self.now.slots in
    elim c.in-Mark.is [ inl w ↦ past_same c.args.kind.now w.2 known (λ x. refl) | inr w ↦ past_same c.args.kind.now w.2 known (λ x. refl) ]

pub returns-in-Mark-2 : goal.returns-in-Mark-2
returns-in-Mark-2 c =
    let known = known_by c.args.self.now.registers c.args.self.now.slots in
    elim c.in-Mark.is [ inl w ↦ past_same c.args.kind.now w.2 known (λ x. refl) | inr w ↦ past_same c.args.kind.now w.2 known (λ x. refl) ]
